-- What is said of `device`: that it has one answer, and what its statuses say.
use Rattle.std.proofs.Common.{◌≡◌, ◌↔◌, ◌∙◌, ℕ, List, ◌∷◌, inl, inr, refl, sym, ap, subst, codes, arith, []}
use Rattle.std.specs.List.{AllZip}
use Rattle.oat_shape.proofs.Laid.{opens_once}
use Rattle.oat_device.proofs.Counting.{windows_are_counted}
use Rattle.oat_page.proofs.Working.{IsDone}
use Rattle.oat_words.specs.{declared.command.Command.TheVariants.Device, Commands.files_of}
use Rattle.oat_inputs.proofs.Admitting.{Admits-one, Admits-through}
use Rattle.oat_shown.proofs.Windowing.{first_window}
use Rattle.oat_room_device.specs.Device.{IsBlobUnder, Runs, RunsCase, ShowsRun, sealed, unsealed, run_and_blobs, run_of}
use Rattle.oat_room_attest.specs.{Contents, Body, Opening, Image, Case, S7, Everywhere, Run, opening_of, IsSealed, sealed_bodies, IsOne, Done, Unsealed, Outcome, line, Answer, shows, as_outcome, File}
use Rattle.oat_room_attest.specs.{AreLoaded}
use Rattle.oat_tool.specs.DeviceLaws.{IsMeasuredRun, RunIsShown, RunIsNotRejected, OneDeviceAnswer}
use Rattle.oat_tool.proofs.{Setting.work_is_done, Answering.work_is_of_command}

-- ---- one answer

one_list : (key : List ℕ) (bodies : List Body) (one two : List (List ℕ)) → AllZip (IsBlobUnder key) bodies one → AllZip (IsBlobUnder key) bodies two → one ≡ two
one_list key [] [] [] first second = refl
one_list key [] [] (b ∷ two) first second = absurd second
one_list key [] (a ∷ one) two first second = absurd first
one_list key (body ∷ bodies) [] two first second = absurd first
one_list key (body ∷ bodies) (a ∷ one) [] first second = absurd second
one_list key (body ∷ bodies) (a ∷ one) (b ∷ two) first second =
    let same = first.0.layout ∙ sym second.0.layout in
    let rest = one_list key bodies one two first.1 second.1 in
    λ i. same i ∷ rest i

one_shown : (o : Opening) (key : List ℕ) (run : Run) → IsOne Answer (ShowsRun o key run)
one_shown o key run a b (sealed is blobs all shown) (sealed is' blobs' all' shown') =
    shown ∙ (ap (λ (xs : List (List ℕ)). shows Done (run_and_blobs run xs) []) (one_list key (sealed_bodies o run.measurements) blobs blobs' all all') ∙ sym shown')
one_shown o key run a b (sealed is blobs all shown) (unsealed none blobs' all' shown') = absurd (none is)
one_shown o key run a b (unsealed none blobs all shown) (sealed is blobs' all' shown') = absurd (none is)
one_shown o key run a b (unsealed none blobs all shown) (unsealed none' blobs' all' shown') =
    shown ∙ (ap (λ (xs : List (List ℕ)). shows Unsealed (run_and_blobs run xs) (line (codes "no blob"))) (one_list key (sealed_bodies o run.measurements) blobs blobs' all all') ∙ sym shown')

one_run : (image : Image) (case : Case) → Everywhere (S7 image.map) → IsOne Answer (RunsCase image case)
one_run image case paired a b one two =
    let same = opens_once image.map case.session.op one.begin_at two.begin_at paired one.begins two.begins in
    one_shown (opening_of image case.session one.begin_at) case.session.key (run_of image case one.begin_at) a b one.shown
    (subst (λ (at : ℕ). ShowsRun (opening_of image case.session at) case.session.key (run_of image case at) b) same two.shown)

pub one_device_answer : OneDeviceAnswer
one_device_answer [] a b one two = absurd one
one_device_answer (image ∷ []) a b one two = absurd one
one_device_answer (image ∷ case ∷ []) a b one two =
    Admits-one image case RunsCase (λ i c admitted. one_run i c admitted.shaped.paired) a b one two
one_device_answer (image ∷ case ∷ other ∷ files) a b one two = absurd one

-- ---- what the statuses say

as_told : (o p : Outcome) (X : Type 0) → o ≡ p → (p.status ≡ 0 ↔ X) × (p.status ≡ 7 ↔ ¬ X) → (o.status ≡ 0 ↔ X) × (o.status ≡ 7 ↔ ¬ X)
as_told o p X same told = subst (λ (q : Outcome). (q.status ≡ 0 ↔ X) × (q.status ≡ 7 ↔ ¬ X)) (sym same) told

statuses : (o : Opening) (key : List ℕ) (run : Run) (a : Answer) → ShowsRun o key run a
    → ((as_outcome a).status ≡ 0 ↔ IsSealed run) × ((as_outcome a).status ≡ 7 ↔ ¬ IsSealed run)
statuses o key run a (sealed is blobs all shown) =
    as_told (as_outcome a) (as_outcome (shows Done (run_and_blobs run blobs) [])) (IsSealed run) (ap as_outcome shown)
    ((λ zeroth. is, λ all. refl), (λ seven. absurd (omega (arith, seven)), λ none. absurd (none is)))
statuses o key run a (unsealed none blobs all shown) =
    as_told (as_outcome a) (as_outcome (shows Unsealed (run_and_blobs run blobs) (line (codes "no blob")))) (IsSealed run) (ap as_outcome shown)
    ((λ zeroth. absurd (omega (arith, zeroth)), λ all. absurd (none all)), (λ seven. none, λ is. refl))

run_shown : (words : List (List ℕ)) (contents : Contents) (files : List File) (a : Answer) → AreLoaded contents (files_of words Device) files
    → Runs files a → IsDone (as_outcome a).status → IsMeasuredRun words contents (as_outcome a)
run_shown words contents [] a held none is_done = absurd none
run_shown words contents (image ∷ []) a held none is_done = absurd none
run_shown words contents (image ∷ case ∷ []) a held runs is_done =
    let through = Admits-through image case RunsCase a is_done runs in
    let told = statuses _ _ _ a through.after.shown in
    record {
      image = image;
      case = case;
      held = held;
      i = through.i;
      c = through.c;
      admitted = through.admitted;
      answer = a;
      runs = through.after;
      is = refl;
      seals = told.0;
      leaves_unsealed = told.1;
      counted = windows_are_counted through.i (opening_of through.i through.c.session through.after.begin_at) through.c.inputs through.c.writes through.c.steps
          (first_window through.c.session.calls through.admitted.case_read.limits.calls);
    }
run_shown words contents (image ∷ case ∷ other ∷ files) a held none is_done = absurd none

pub run_is_shown : RunIsShown
run_is_shown words contents o asked defined work =
    let answered = work_is_of_command words contents Device o asked defined work in
    subst (λ (p : Outcome). IsMeasuredRun words contents p) (sym answered.does.is)
    (run_shown words contents answered.files answered.does.answer answered.held answered.does.given
    (λ two. work_is_done o.status work (ap (λ (p : Outcome). p.status) answered.does.is ∙ two)))

never_rejected : (status : ℕ) (X : Type 0) → (status ≡ 0 ↔ X) → (status ≡ 7 ↔ ¬ X) → status ≡ 1 → ⊥
never_rejected status X seals others first =
    let never : ¬ X = λ all. omega (arith, first, seals.1 all) in omega (arith, first, others.1 never)

pub run_is_not_rejected : RunIsNotRejected
run_is_not_rejected words contents o asked defined first =
    let run = run_is_shown words contents o asked defined (inr (inl first)) in
    never_rejected o.status _ run.seals run.leaves_unsealed first
