-- The room of `drill`: the first verdict on each number's drill is an acceptance, with 80 outputs and a path of 4,243 edges.
use Rattle.std.proofs.Common.{◌≡◌, ◌≤◌, ◌∙◌, ℕ, List, Option, Some, None, true, length, slice_get, unwrap_or, refl, sym, ap, arith, []}
use Rattle.std.proofs.lemmas.{Bool.ltb-true, List.length-map}
use Rattle.oat_ir.specs.declared.source.SourceEnd.TheVariants.{Trap}
use Rattle.oat_check.specs.{Halted, OutOfSteps, Shown.written_end}
use Rattle.oat_make.specs.{Drill.drill_program, Text.drill_case, Laws.DrillsAreChecked, Laws.DrillsCanBeAttested, Laws.DrillsComplete}
use Rattle.oat_build.specs.{Program, calls_done, IsChecked, CallsAreCounted, source_events, source_of, instructions_for}
use Rattle.oat_attestation.specs.{declared.attested.Attested.Attested, Attestation.Attests, Laws.AcceptsTheCall, Laws.AttestationsAreComplete, Laws.HonestRunsAreAttested, Laws.calls_measured}
use Rattle.oat_shown.specs.{Case, IsWellFormedCase, Finish, halted, trapped, end_after, has_completed, outputs_of, path_of_call, Edge, Verdict, Accept, shows}
use Rattle.oat_room_drill.specs.Drill.{AttestsDrill, DrillsHaveOperation, FirstVerdictAccepts}

-- ---- of any program and case whose one call completes

-- the first verdict is an acceptance, of a path with so many edges, and there are so many outputs
pub record AcceptsFirst (a : Attested) (outputs edges : ℕ) : Type 0 where
  pub path : List Edge
  pub first : slice_get a.verdicts 0 ≡ Some (Accept path)
  pub outputs_are : length a.outputs ≡ outputs
  pub edges_are : length path ≡ edges

first_accepted : AttestationsAreComplete → CallsAreCounted → (p : Program) (case : Case) (a : Attested) → IsChecked p → IsWellFormedCase case → (h : Attests p case a)
    → case.writes ≡ [] → case.session.calls ≡ None → (k : ℕ) → has_completed case.session.op 0 (source_events p case.inputs k) ≡ true
    → instructions_for k ≤ case.steps → (v : Verdict) × (slice_get a.verdicts 0 ≡ Some v) × AcceptsTheCall p case a h 0 v
first_accepted complete counted p case a checked formed h unwritten none k completed room =
    let measured : calls_measured case.session ≡ 1 = ap (λ (calls : Option ℕ). unwrap_or calls 1) none in
    let one = ltb-true 0 (calls_done case.session.op (source_events p case.inputs k)) (sym (counted p checked case.inputs k case.session.op 0) ∙ completed) in
    (complete p case a checked formed h unwritten k (omega (arith, measured, one)) room).each 0 (omega (arith, measured))

accepts_first : AttestationsAreComplete → HonestRunsAreAttested → CallsAreCounted → (p : Program) (case : Case) (a : Attested) (outputs edges : ℕ)
    → IsChecked p → IsWellFormedCase case → Attests p case a → case.writes ≡ [] → case.session.calls ≡ None → (k : ℕ)
    → has_completed case.session.op 0 (source_events p case.inputs k) ≡ true → (finish : Finish) → end_after (source_of p case.inputs) k ≡ Some finish
    → length (outputs_of (source_events p case.inputs k)) ≡ outputs
    → length (path_of_call (source_of p case.inputs) case.session.op 0 (source_events p case.inputs k)) ≡ edges
    → instructions_for k ≤ case.steps → AcceptsFirst a outputs edges
accepts_first complete honest counted p case a outputs edges checked formed h unwritten none k completed finish ended few long room =
    let found = first_accepted complete counted p case a checked formed h unwritten none k completed room in
    let accepted = found.2 in
    record {
      path = accepted.path;
      first = found.1 ∙ ap (λ (v : Verdict). Some v) accepted.accepts;
      outputs_are = ap length ((honest p case a formed h unwritten).ends.forth k finish ended room).same ∙ few;
      edges_are = ap length (accepted.shows k completed).edges ∙ (length-map _ _ ∙ long);
    }

halted_by : (end : Option Finish) → written_end end ≡ Halted → end ≡ Some halted
halted_by None is = absurd (let e : OutOfSteps ≡ Halted = is in cc)
halted_by (Some halted) is = refl
halted_by (Some (trapped kind)) is = absurd (let e : Trap kind ≡ Halted = is in cc)

-- ---- of the drill; the number of steps stays a variable, since nothing is to compute with it

pub record Laws : Type 0 where
  pub complete : AttestationsAreComplete
  pub honest : HonestRunsAreAttested
  pub counted : CallsAreCounted
  pub checked : DrillsAreChecked
  pub can : DrillsCanBeAttested
  pub completes : DrillsComplete

within_steps : Laws → (n : ℕ) (a : Attested) → AttestsDrill n a → (k : ℕ) → 11448 ≤ k → instructions_for k ≤ (drill_case n).steps
    → AcceptsFirst a 80 4243
within_steps laws n a drilled k enough room =
    let through = laws.completes n k enough in
    accepts_first laws.complete laws.honest laws.counted (drill_program n) (drill_case n) a 80 4243 (laws.checked n) (laws.can n).well_formed drilled.attests (laws.can n).no_writes refl
    k through.completed halted (halted_by _ through.ended) through.outputs (sym (length-map _ _) ∙ through.path) room

pub drill_accepts_first : Laws → (n : ℕ) (a : Attested) → AttestsDrill n a → AcceptsFirst a 80 4243
drill_accepts_first laws n a drilled = within_steps laws n a drilled 11448 (omega arith) (omega arith)

-- ---- no file is loaded

pub first_verdict_accepts : AttestationsAreComplete → HonestRunsAreAttested → CallsAreCounted → DrillsAreChecked → DrillsCanBeAttested → DrillsComplete
    → FirstVerdictAccepts
first_verdict_accepts complete honest counted checked can completes n a h =
    let found = drill_accepts_first (record { complete = complete; honest = honest; counted = counted; checked = checked; can = can; completes = completes }) n a h in
    (found.path, found.first)

pub drills_have_operation : DrillsCanBeAttested → DrillsHaveOperation
drills_have_operation can n = (can n).operation
