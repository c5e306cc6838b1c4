-- Laws of the runs of any source: what each step keeps is kept by all of them.
use Rattle.std.proofs.Common.{◌≡◌, ◌+◌, ℕ, zero, suc, List, [], ◌++◌, Option, Some, refl, sym, ap, ◌∙◌, arith, append_assoc, append-nil}
use Rattle.oat_map.specs.Turns.{Turn}
use Rattle.oat_events.specs.{Cells.Cells, Events.Active, Events.Passes, Events.SourceEvent, Events.Stacks, Source.Finish, Source.SourceKeeps, Source.SourceMachine, Source.shown_from}
use Rattle.oat_events.specs.{Source.state_after}
use Rattle.oat_events.proofs.EventLaws.{passes_joined, stacks_joined}

pub good_after : (S : SourceMachine) (words : Cells) (keeps : SourceKeeps S words) (n : ℕ) (s : S.State) → keeps.Good s → keeps.Good (state_after S n s)
good_after S words keeps zero s good = good
good_after S words keeps (suc n) s good = good_after S words keeps n (S.next s) (keeps.goes s good)

-- Operations never nest, and each load gives the last value.
pub passes_after : (S : SourceMachine) (words : Cells) (keeps : SourceKeeps S words) (n : ℕ) (s : S.State) → keeps.Good s
    → Passes (keeps.active s) (keeps.cells s) (shown_from S n s) (keeps.active (state_after S n s)) (keeps.cells (state_after S n s))
passes_after S words keeps zero s good = (refl, refl)
passes_after S words keeps (suc n) s good =
    passes_joined (S.show s) (shown_from S n (S.next s)) _ _ _ _ _ _ (keeps.passes s good) (passes_after S words keeps n (S.next s) (keeps.goes s good))

-- Calls and returns pair, where each step says so.
pub stacks_after : (S : SourceMachine) (words : Cells) (keeps : SourceKeeps S words) {P : Type 0} (turn : S.Edge → Turn P) (active : S.State → Option (Active P))
    → ((s : S.State) → keeps.Good s → Stacks turn (active s) (S.show s) (active (S.next s)))
    → (n : ℕ) (s : S.State) → keeps.Good s → Stacks turn (active s) (shown_from S n s) (active (state_after S n s))
stacks_after S words keeps turn active step zero s good = refl
stacks_after S words keeps turn active step (suc n) s good =
    stacks_joined turn (S.show s) (shown_from S n (S.next s)) _ _ _ (step s good) (stacks_after S words keeps turn active step n (S.next s) (keeps.goes s good))

-- ---- more steps

none_more : (k : ℕ) → 0 + k ≡ k
none_more k = omega arith

one_more : (n k : ℕ) → suc n + k ≡ suc (n + k)
one_more n k = omega arith

pub state_after_more : (S : SourceMachine) (n k : ℕ) (s : S.State) → state_after S (n + k) s ≡ state_after S k (state_after S n s)
state_after_more S zero k s = ap (λ m. state_after S m s) (none_more k)
state_after_more S (suc n) k s = ap (λ m. state_after S m s) (one_more n k) ∙ state_after_more S n k (S.next s)

pub shown_from_more : (S : SourceMachine) (n k : ℕ) (s : S.State) → shown_from S (n + k) s ≡ shown_from S n s ++ shown_from S k (state_after S n s)
shown_from_more S zero k s = ap (λ m. shown_from S m s) (none_more k)
shown_from_more S (suc n) k s =
    ap (λ m. shown_from S m s) (one_more n k) ∙ ap (λ (es : List (SourceEvent S.Edge)). S.show s ++ es) (shown_from_more S n k (S.next s))
    ∙ sym (append_assoc (S.show s) (shown_from S n (S.next s)) _)

-- Where ended states stay and are quiet, an ended run stays as it is and shows nothing more.
ended_stays : (S : SourceMachine) → ((s : S.State) (why : Finish) → S.end s ≡ Some why → S.next s ≡ s) → ((s : S.State) (why : Finish) → S.end s ≡ Some why → S.show s ≡ [])
    → (k : ℕ) (s : S.State) (why : Finish) → S.end s ≡ Some why → (state_after S k s ≡ s) × (shown_from S k s ≡ [])
ended_stays S stays quiet zero s why is = (refl, refl)
ended_stays S stays quiet (suc k) s why is =
    let here = stays s why is in
    let rest = ended_stays S stays quiet k s why is in
    (ap (state_after S k) here ∙ rest.0, ap (λ (es : List (SourceEvent S.Edge)). es ++ shown_from S k (S.next s)) (quiet s why is) ∙ ap (shown_from S k) here ∙ rest.1)

pub ended_runs_stay : (S : SourceMachine) → ((s : S.State) (why : Finish) → S.end s ≡ Some why → S.next s ≡ s) → ((s : S.State) (why : Finish) → S.end s ≡ Some why → S.show s ≡ [])
    → (n k : ℕ) (s : S.State) (why : Finish) → S.end (state_after S n s) ≡ Some why
    → (state_after S (n + k) s ≡ state_after S n s) × (shown_from S (n + k) s ≡ shown_from S n s)
ended_runs_stay S stays quiet n k s why is =
    let rest = ended_stays S stays quiet k (state_after S n s) why is in (
      state_after_more S n k s ∙ rest.0,
      shown_from_more S n k s ∙ ap (λ (es : List (SourceEvent S.Edge)). shown_from S n s ++ es) rest.1 ∙ append-nil (shown_from S n s),
    )
