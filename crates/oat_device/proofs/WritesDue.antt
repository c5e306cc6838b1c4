-- The writes that are due, from the first one on, and those that are left behind them.
use Rattle.std.proofs.Common.{◌≡◌, ◌+◌, ◌==◌, ◌<◌, ◌≤◌, ℕ, Bool, true, false, cond, List, [], ◌∷◌, refl, sym, ap, subst, ◌∙◌, arith}
use Rattle.std.specs.List.{AllByRecursion, fold, filter}
use Rattle.std.proofs.lemmas.Bool.{leb-true, le-leb, ne_eqb, eq-eqb}
use Rattle.oat_journal.specs.{with_bytes, Write, IsInLimits, RisesFrom, Run.poked}
use Rattle.oat_device.specs.Bare.{DoesFrom}

pub poked-first : (w : Write) (ws : List Write) (k : ℕ) (memory : ℕ → ℕ)
    → poked (w ∷ ws) k memory ≡ poked ws k (cond (w.before == k) (with_bytes memory w.address w.bytes) memory)
poked-first w ws k memory =
    elim (w.before == k) as (λ (due : Bool). fold (λ (old : ℕ → ℕ) (write : Write). with_bytes old write.address write.bytes) memory (cond due (w ∷ filter (λ (write : Write). write.before == k) ws) (filter (λ (write : Write). write.before == k) ws)) ≡ poked ws k (cond due (with_bytes memory w.address w.bytes) memory)) [
      | true ↦ refl
      | false ↦ refl
    ]

-- a write of another instruction
poked-other : (w : Write) (ws : List Write) (k : ℕ) (memory : ℕ → ℕ) → (w.before ≡ k → ⊥) → poked (w ∷ ws) k memory ≡ poked ws k memory
poked-other w ws k memory other =
    poked-first w ws k memory ∙ ap (λ (due : Bool). poked ws k (cond due (with_bytes memory w.address w.bytes) memory)) (ne_eqb w.before k other)

-- a write of this instruction
poked-due : (w : Write) (ws : List Write) (k : ℕ) (memory : ℕ → ℕ) → w.before ≡ k → poked (w ∷ ws) k memory ≡ poked ws k (with_bytes memory w.address w.bytes)
poked-due w ws k memory due =
    poked-first w ws k memory ∙ ap (λ (due : Bool). poked ws k (cond due (with_bytes memory w.address w.bytes) memory)) (eq-eqb w.before k due)

-- no write is due before the first one's instruction
quiet : (ws : List Write) (least k : ℕ) (memory : ℕ → ℕ) → RisesFrom least ws → k < least → poked ws k memory ≡ memory
quiet [] least k memory rises early = refl
quiet (w ∷ ws) least k memory rises early =
    let above = leb-true least w.before rises.0 in
    poked-other w ws k memory (λ e. absurd (omega (arith, above, e))) ∙ quiet ws w.before k memory rises.1 (omega (arith, above))

-- Some of the writes are made: these are left, and memory is on its way from the first one.
pub record IsDue (made : ℕ) (left writes : List Write) (memory first : ℕ → ℕ) : Type 0 where
  pub fit : AllByRecursion IsInLimits left
  pub rise : RisesFrom made left
  pub leads : poked left made memory ≡ poked writes made first
  pub does : DoesFrom (made + 1) left writes

pub due-first : (made : ℕ) (writes : List Write) (memory : ℕ → ℕ) → AllByRecursion IsInLimits writes → RisesFrom made writes → IsDue made writes writes memory memory
due-first made writes memory fit rise = record { fit = fit; rise = rise; leads = refl; does = λ k memory later. refl }

pub due-next : (made : ℕ) (w : Write) (rest writes : List Write) (memory next first : ℕ → ℕ) → IsDue made (w ∷ rest) writes memory first
    → w.before ≡ made → next ≡ with_bytes memory w.address w.bytes → IsDue made rest writes next first
due-next made w rest writes memory next first due now is = record {
  fit = due.fit.1;
  rise = subst (λ (k : ℕ). RisesFrom k rest) now due.rise.1;
  leads = ap (poked rest made) is ∙ sym (poked-due w rest made memory now) ∙ due.leads;
  does = λ k old later. sym (poked-other w rest k old (λ e. absurd (omega (arith, now, e, later)))) ∙ due.does k old later;
}

-- what the writes that are due leave
pub record Done (made : ℕ) (left writes : List Write) (memory first : ℕ → ℕ) : Type 0 where
  pub leads : memory ≡ poked writes made first
  pub fit : AllByRecursion IsInLimits left
  pub rise : RisesFrom (made + 1) left
  pub does : DoesFrom (made + 1) left writes

pub due-done : (made : ℕ) (w : Write) (rest writes : List Write) (memory first : ℕ → ℕ) → IsDue made (w ∷ rest) writes memory first
    → (w.before ≡ made → ⊥) → Done made (w ∷ rest) writes memory first
due-done made w rest writes memory first due later =
    let above = leb-true made w.before due.rise.0 in
    let beyond : made + 1 ≤ w.before = omega (arith, above, later) in
    let rises : RisesFrom (made + 1) (w ∷ rest) = (le-leb (made + 1) w.before beyond, due.rise.1) in
    record { leads = sym (quiet (w ∷ rest) (made + 1) made memory rises (omega arith)) ∙ due.leads; fit = due.fit; rise = rises; does = due.does }

pub due-all : (made : ℕ) (writes : List Write) (memory first : ℕ → ℕ) → IsDue made [] writes memory first → Done made [] writes memory first
due-all made writes memory first due = record { leads = due.leads; fit = tt; rise = tt; does = due.does }
