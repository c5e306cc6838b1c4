-- What the statuses of `owner` say, what of its replies is put, and what its acceptances are good for.
use Rattle.std.proofs.Common.{◌≡◌, ◌∙◌, ◌⊎◌, ℕ, List, [], ◌∷◌, Option, Some, take, inl, inr, sym, ap, subst, arith}
use Rattle.std.specs.Prelude.{◌==◌}
use Rattle.std.proofs.lemmas.{Bool.cases_Bool, List.append-nil}
use Rattle.oat_verify.proofs.OneVerdict.{acceptance_at_once}
use Rattle.oat_attest.proofs.Headlines.{headline}
use Rattle.oat_words.specs.{declared.command.Command.Command, Commands.IsLine, Commands.files_of}
use Rattle.oat_room_attest.specs.{Contents, fails, passes, Edge, subject_of, Outcome, starved, File, AreLoaded, PutsFront}
use Rattle.oat_room_owner.specs.{Known, OwnerCall, device_of, challenge_session, Exchange, AcceptedByVerdict, AcceptedOnce, IsAcceptance, ScriptDevice, Owner.IsEnrolled, Owner.AreEnrolled}
use Rattle.oat_room_owner.specs.{Owner.to_all, Owner.to_some, Owner.replied_calls, Owner.Serves}
use Rattle.oat_room_owner.proofs.Serving.{IsSilent, loads_silent, script_silent, enrolments_silent}
use Rattle.oat_tool.specs.{Defined.Ends, Defined.Defined, Defined.done, Defined.other, OwnerLaws.IsReplied, OwnerLaws.IsOfRuns, OwnerLaws.ScriptIsServed, OwnerLaws.WantIsBehindReplies}
use Rattle.oat_tool.specs.{OwnerLaws.RefusalComesFirst, OwnerLaws.ServedIsPut, OwnerLaws.RepliesArePut, OwnerLaws.NumbersAreAcceptedOnce, OwnerLaws.AcceptancesAreOfRuns}
use Rattle.oat_tool.proofs.{Apart.one_command, Following.whole_is_put, Following.front_is_put, Following.nothing_put}
use Rattle.oat_words.specs.declared.command.Command.TheVariants as commands

-- ---- how an outcome came about

data Came (words : List (List ℕ)) (contents : Contents) (o : Outcome) : Type 0 where
  to_the_end : IsReplied words contents [] o.out → o.status ≡ 0 → o.err ≡ [] → Came words contents o
  up_to : (later : List OwnerCall) → IsReplied words contents later o.out → o.status ≡ 6 → o.err ≡ starved.err → Came words contents o
  none : IsSilent o → Came words contents o

serves_so : (words : List (List ℕ)) (contents : Contents) (files : List File) (o : Outcome) → AreLoaded contents (files_of words commands.Owner) files
    → Serves contents ⊥ files o → Came words contents o
serves_so words contents [] o held never = absurd never
serves_so words contents (file ∷ []) o held (fails refused) = none (script_silent file o refused)
serves_so words contents (file ∷ []) o held (passes script read (fails failed)) = none (enrolments_silent contents script.devices o failed)
serves_so words contents (file ∷ []) o held (passes script read (passes known enrolled (to_all exchanges are all is))) =
    to_the_end (record {
      file = file;
      held = held;
      script = script;
      read = read;
      known = known;
      enrolled = enrolled;
      exchanges = exchanges;
      are = are;
      parted = sym (append-nil (replied_calls exchanges) ∙ all);
      is = ap (λ (x : Outcome). x.out) is;
    })
    (ap (λ (x : Outcome). x.status) is) (ap (λ (x : Outcome). x.err) is)
serves_so words contents (file ∷ []) o held (passes script read (passes known enrolled (to_some exchanges are later parted is))) =
    up_to later (record {
      file = file;
      held = held;
      script = script;
      read = read;
      known = known;
      enrolled = enrolled;
      exchanges = exchanges;
      are = are;
      parted = parted;
      is = ap (λ (x : Outcome). x.out) is;
    })
    (ap (λ (x : Outcome). x.status) is) (ap (λ (x : Outcome). x.err) is)
serves_so words contents (file ∷ two ∷ files) o held never = absurd never

ends_so : (words : List (List ℕ)) (contents : Contents) (o : Outcome) → Ends words commands.Owner contents ⊥ o → Came words contents o
ends_so words contents o (fails failed) = none (loads_silent contents (files_of words commands.Owner) o failed)
ends_so words contents o (passes files held serves) = serves_so words contents files o held serves

came : (words : List (List ℕ)) (contents : Contents) (o : Outcome) → IsLine words commands.Owner → Defined words contents o → Came words contents o
came words contents o asked (other never is) = absurd (never commands.Owner asked)
came words contents o asked (done given line ends) =
    ends_so words contents o (subst (λ (c : Command). Ends words c contents ⊥ o) (one_command words commands.Owner given asked line) ends)

-- ---- the statuses

neither : (status : ℕ) → (status ≡ 2) ⊎ (status ≡ 4) → (status ≡ 0) ⊎ (status ≡ 6) → ⊥
neither status (inl two) (inl zeroth) = omega (arith, two, zeroth)
neither status (inl two) (inr six) = omega (arith, two, six)
neither status (inr four) (inl zeroth) = omega (arith, four, zeroth)
neither status (inr four) (inr six) = omega (arith, four, six)

pub script_is_served : ScriptIsServed
script_is_served words contents o asked defined zeroth = elim (came words contents o asked defined) [
  | to_the_end replied status err ↦ (replied, err)
  | up_to later replied status err ↦ absurd (omega (arith, zeroth, status))
  | none is ↦ absurd (neither o.status is.status (inl zeroth))
]

pub want_is_behind_replies : WantIsBehindReplies
want_is_behind_replies words contents o asked defined six = elim (came words contents o asked defined) [
  | to_the_end replied status err ↦ absurd (omega (arith, six, status))
  | up_to later replied status err ↦ (later, replied, err)
  | none is ↦ absurd (neither o.status is.status (inr six))
]

pub refusal_comes_first : RefusalComesFirst
refusal_comes_first words contents o asked defined not_zero not_six = elim (came words contents o asked defined) [
  | to_the_end replied status err ↦ absurd (not_zero status)
  | up_to later replied status err ↦ absurd (not_six status)
  | none is ↦ (is.nothing, is.status)
]

-- ---- what is put

pub served_is_put : ServedIsPut
served_is_put words contents files out err status told ran asked zeroth =
    let all = whole_is_put words contents files out err status told ran (inl zeroth) in
    let o = all.outcome in
    let served = script_is_served words contents o asked all.is_defined (sym all.shown.same_status ∙ zeroth) in
    (o.out, served.0, all.shown.out_added)

front_of : (words : List (List ℕ)) (contents : Contents) (o : Outcome) (old new : Option (List ℕ)) → Came words contents o → PutsFront o.out old new
    → (new ≡ old) ⊎ ((later : List OwnerCall) × (text : List ℕ) × IsReplied words contents later text × PutsFront text old new)
front_of words contents o old new (to_the_end replied status err) front = inr ([], o.out, replied, front)
front_of words contents o old new (up_to later replied status err) front = inr (later, o.out, replied, front)
front_of words contents o old new (none is) front = inl (nothing_put o.out old new is.nothing front)

pub replies_are_put : RepliesArePut
replies_are_put words contents files out err status told ran asked = elim (front_is_put words contents files out err status told ran) [
  | inl same ↦ inl same
  | inr (o, defined, front) ↦ front_of words contents o out.held out.holds (came words contents o asked defined) front
]

-- ---- acceptances

pub numbers_are_accepted_once : AcceptedOnce → NumbersAreAcceptedOnce
numbers_are_accepted_once once words contents later text replied i j number frame again path way at there =
    once replied.known replied.exchanges replied.are i j number frame again path way at there

-- a known device was enrolled
enrolled_known : (contents : Contents) (devices : List ScriptDevice) (known : List Known) (id : ℕ) (k : Known) → AreEnrolled contents devices known
    → device_of known id ≡ Some k → (device : ScriptDevice) × IsEnrolled contents device k
enrolled_known contents [] [] id k are found = absurd cc
enrolled_known contents [] (x ∷ known) id k are found = absurd are
enrolled_known contents (device ∷ devices) [] id k are found = absurd are
enrolled_known contents (device ∷ devices) (x ∷ known) id k are found = elim (cases_Bool (id == x.id)) [
  | inl same ↦
      let here : Path (Option Known) (Some x) (Some k) = rw same at found in
      let is : x ≡ k = cc in
      (device, subst (IsEnrolled contents device) is are.0)
  | inr differs ↦ enrolled_known contents devices known id k are.1 (rw differs at found)
]

holds : (contents : Contents) (known : List Known) (earlier : List Exchange) (frame : List ℕ) (number : ℕ) (path : List Edge)
    → (accepted : IsAcceptance known earlier frame number path) → (device : ScriptDevice) × IsEnrolled contents device accepted.device → IsOfRuns known earlier frame number path
holds contents known earlier frame number path accepted (device, enrolled) =
    let image = accepted.device.shaped in
    let session = challenge_session accepted.device accepted.challenge in
    record {
      accepted = accepted;
      headline = λ begin_at begins.
          headline image session begin_at
          (record { well_formed = enrolled.read.well_formed; shaped = enrolled.shaped; begins = begins })
          accepted.blob path ((acceptance_at_once (subject_of image session) accepted.blob path).0 accepted.verdict);
    }

pub acceptances_are_of_runs : AcceptedByVerdict → AcceptancesAreOfRuns
acceptances_are_of_runs by_verdict words contents later text replied i number frame path at =
    let accepted = by_verdict replied.known replied.exchanges replied.are i number frame path at in
    holds contents replied.known (take i replied.exchanges) frame number path accepted
    (enrolled_known contents replied.script.devices replied.known accepted.challenge.device accepted.device replied.enrolled accepted.is_known)
