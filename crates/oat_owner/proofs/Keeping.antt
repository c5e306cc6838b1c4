-- What is kept of each challenge stays kept.
use Rattle.std.proofs.Common.{◌≡◌, ℕ, zero, suc, true, List, [], ◌∷◌, ◌++◌, ◌⊎◌, length, slice_get, Option, Some, None, refl, sym, ap, subst, ◌∙◌, inl, inr, arith, Bor, IsSome}
use Rattle.std.specs.Option.{option_copied}
use Rattle.oat_verify.specs.{IsOperation, BeginsAt, Map}
use Rattle.oat_owner.specs.{declared.device.Known.Known, declared.challenge.Challenge.Challenge, Ledger.device_of, Ledger.spent_at, Kept.IsKept, Kept.AreKept}

-- an item of a longer list is one of the list, or the last
pub pushed_item : {X : Type 0} (xs : List X) (y : X) (n : ℕ) (x : X) → slice_get (xs ++ y ∷ []) n ≡ Some x → (slice_get xs n ≡ Some x) ⊎ ((n ≡ length xs) × (y ≡ x))
pushed_item [] y zero x at = inr (refl, cc)
pushed_item [] y (suc n) x at = absurd cc
pushed_item (z ∷ xs) y zero x at = inl at
pushed_item (z ∷ xs) y (suc n) x at =
    elim (pushed_item xs y n x at) [
      | inl there ↦ inl there
      | inr (last, same) ↦ inr ((omega (arith, last)), same)
    ]

-- a challenge behind one that is spent is one of before, but for being spent
pub spent_item : (challenges : List Challenge) (n m : ℕ) (c : Challenge) → slice_get (spent_at n challenges) m ≡ Some c
    → (d : Challenge) × (slice_get challenges m ≡ Some d) × (d.device ≡ c.device) × (d.op ≡ c.op) × (d.nonce ≡ c.nonce)
spent_item [] n m c at = absurd cc
spent_item (x ∷ challenges) zero zero c at =
    let same : Path (Option Challenge) (Some (record x { spent = true })) (Some c) = at in
    let is : record x { spent = true } ≡ c = cc in
    (x, refl, ap (λ (y : Challenge). y.device) is, ap (λ (y : Challenge). y.op) is, ap (λ (y : Challenge). y.nonce) is)
spent_item (x ∷ challenges) zero (suc m) c at = (c, at, refl, refl, refl)
spent_item (x ∷ challenges) (suc n) zero c at = (c, at, refl, refl, refl)
spent_item (x ∷ challenges) (suc n) (suc m) c at = spent_item challenges n m c at

module _ (known : List Known) where
  pub kept_more : (challenges : List Challenge) (c : Challenge) → AreKept known challenges → IsKept known c → AreKept known (challenges ++ c ∷ [])
  kept_more challenges c are is n d at =
      elim (pushed_item challenges c n d at) [
        | inl there ↦ are n d there
        | inr (last, same) ↦ subst (IsKept known) same is
      ]

  pub kept_spent : (challenges : List Challenge) (number : ℕ) → AreKept known challenges → AreKept known (spent_at number challenges)
  kept_spent challenges number are n c at =
      let before = spent_item challenges number n c at in
      let is = are n before.0 before.1 in
      record {
        device = is.device;
        is_known = ap (device_of known) (sym before.2) ∙ is.is_known;
        operation = subst (IsOperation is.device.shaped.map) before.3 is.operation;
      }

  -- the operation of a challenge is one of its device
  pub kept_operation : (challenges : List Challenge) (n : ℕ) (c : Challenge) (device : ℕ) (k : Known) → AreKept known challenges → slice_get challenges n ≡ Some c
      → c.device ≡ device → device_of known device ≡ Some k → IsOperation k.shaped.map c.op
  kept_operation challenges n c device k are at same found =
      let is = are n c at in
      let both : Path (Option Known) (Some is.device) (Some k) = sym is.is_known ∙ ap (device_of known) same ∙ found in
      let one : is.device ≡ k = cc in
      subst (λ (d : Known). IsOperation d.shaped.map c.op) one is.operation

pub begun_operation : (m : Map) (op begin_at : ℕ) → BeginsAt m op begin_at → IsOperation m op
begun_operation m op begin_at at = (at.0, at.1)

pub some_copied : {X : Type 0} (o : Option (Bor X)) (x : X) → option_copied o ≡ Some x → IsSome o
some_copied None x is = absurd cc
some_copied (Some y) x is = refl
