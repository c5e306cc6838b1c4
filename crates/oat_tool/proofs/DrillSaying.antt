-- What is said of `drill`: each number has an accepted one, with 80 outputs and a path of 4,243 edges.
use Rattle.std.proofs.Common.{◌≡◌, ◌∙◌, ℕ, List, ◌∷◌, Option, Some, length, map, take, drop, slice_get, refl, sym, ap, subst, arith, []}
use Rattle.std.specs.Str.Parse.{digits_value}
use Rattle.sha2.specs.Sha256.{sha256}
use Rattle.oat_words.specs.{declared.command.Command.Command, Commands.IsLine, Commands.numbers_of}
use Rattle.oat_room_attest.specs.{Contents, fails, passes, CallsAreCounted, Map, Edge, Verdict, Accept, AttestationsAreComplete, HonestRunsAreAttested, Outcome, Answer, shows, as_outcome, IsAnswered}
use Rattle.oat_room_attest.specs.{Wanted, wanted_of, LoadsFail, ended_of, path_in, path_text}
use Rattle.oat_room_drill.specs.{DrillsAreChecked, DrillsCanBeAttested, DrillsComplete, Drill.Drills, Drill.ShowsDrill, Drill.drill_report}
use Rattle.oat_room_drill.proofs.Drilling.{Laws, drill_accepts_first}
use Rattle.oat_tool.specs.{Defined.Ends, Defined.done, Defined.other, Defined.Defined, DrillLaws.IsAcceptedDrill, DrillLaws.DrillIsAccepted}
use Rattle.oat_tool.proofs.Apart.{one_command}
use Rattle.oat_words.specs.declared.command.Command.TheVariants as commands

-- ---- what is put

abbrev reported : ℕ → Map → ℕ → ℕ → List Edge → Verdict → Outcome
reported n flow outputs edges path verdict = as_outcome (shows (ended_of verdict) (drill_report n outputs edges (sha256 (path_text flow path)) verdict) [])

report_is : (n : ℕ) (flow : Map) (outputs : ℕ) (verdict : Verdict) (path : List Edge) → verdict ≡ Accept path → outputs ≡ 80 → length path ≡ 4243
    → reported n flow outputs (length (path_in verdict)) (path_in verdict) verdict ≡ reported n flow 80 4243 path (Accept path)
report_is n flow outputs verdict path accepts few long =
    ap (λ (v : Verdict). reported n flow outputs (length (path_in v)) (path_in v) v) accepts
    ∙ (ap (λ (m : ℕ). reported n flow m (length path) path (Accept path)) few ∙ ap (λ (m : ℕ). reported n flow 80 m path (Accept path)) long)

same_verdict : (v w : Verdict) (found : Option Verdict) → found ≡ Some v → found ≡ Some w → v ≡ w
same_verdict v w found one two = let same = sym one ∙ two in cc

shown : Laws → (n : ℕ) (a : Answer) → ShowsDrill n a → IsAcceptedDrill n (as_outcome a)
shown laws n a s =
    let found = drill_accepts_first laws n s.attested s.drilled in
    record {
      image = s.attested.shaped;
      of_program = s.drilled.attests.image;
      path = found.path;
      edges = found.edges_are;
      is = ap as_outcome s.is
          ∙ report_is n s.attested.shaped.map (length s.attested.outputs) s.verdict found.path
          (same_verdict s.verdict (Accept found.path) (slice_get s.attested.verdicts 0) s.first found.first) found.outputs_are found.edges_are;
    }

-- ---- no file is loaded

none_wanted : (names : List (List ℕ)) → wanted_of names [] ≡ []
none_wanted [] = refl
none_wanted (name ∷ names) = refl

one_number : (words : List (List ℕ)) → length words ≡ 2 → (n : ℕ) × (map (digits_value 10) (take 1 (drop 1 words)) ≡ n ∷ [])
one_number [] count = absurd (omega (arith, count))
one_number (a ∷ []) count = absurd (omega (arith, count))
one_number (a ∷ b ∷ words) count = (digits_value 10 b, refl)

does_drill : (words : List (List ℕ)) (contents : Contents) (o : Outcome) → Ends words commands.Drill contents ⊥ o → IsAnswered (Drills (numbers_of words commands.Drill)) o
does_drill words contents o (fails failed) = absurd (subst (λ (ws : List Wanted). LoadsFail contents ⊥ ws o) (none_wanted (drop 2 words)) failed)
does_drill words contents o (passes files held does) = does

ends_drill : (words : List (List ℕ)) (contents : Contents) (o : Outcome) → IsLine words commands.Drill → Defined words contents o → Ends words commands.Drill contents ⊥ o
ends_drill words contents o asked (done given line ends) = subst (λ (c : Command). Ends words c contents ⊥ o) (one_command words commands.Drill given asked line) ends
ends_drill words contents o asked (other none is) = absurd (none commands.Drill asked)

drill_is_accepted_by : Laws → DrillIsAccepted
drill_is_accepted_by laws words contents o asked defined =
    let count : length words ≡ 2 = asked.count in
    let number = one_number words count in
    let answered = does_drill words contents o (ends_drill words contents o asked defined) in
    let given = subst (λ (numbers : List ℕ). Drills numbers answered.answer) number.1 answered.given in (
      number.0,
      number.1,
      subst (IsAcceptedDrill number.0) (sym answered.is) (shown laws number.0 answered.answer given),
    )

pub drill_is_accepted : AttestationsAreComplete → HonestRunsAreAttested → CallsAreCounted → DrillsAreChecked → DrillsCanBeAttested → DrillsComplete → DrillIsAccepted
drill_is_accepted complete honest counted checked can completes =
    drill_is_accepted_by (record { complete = complete; honest = honest; counted = counted; checked = checked; can = can; completes = completes })
