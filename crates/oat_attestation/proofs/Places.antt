-- Two lists that go together place by place, and the items at their places.
use Rattle.std.proofs.Common.{◌≡◌, ◌+◌, ◌<◌, ◌++◌, ℕ, zero, suc, List, [], ◌∷◌, length, take, Some, Option, sym, ap, subst, ◌∙◌, refl, arith}
use Rattle.std.specs.List.{AllZip, slice_get}
use Rattle.std.proofs.lemmas.{List.take_more, Option.get_or_from_slice_get}

pub item_at : {X : Type 0} (xs : List X) (s : ℕ) → s < length xs → (x : X) × (slice_get xs s ≡ Some x)
item_at [] s below = absurd (omega (arith, below))
item_at (x ∷ xs) zero below = (x, refl)
item_at (x ∷ xs) (suc s) below = item_at xs s (omega (arith, below))

module _ {A B : Type 0} (R : A → B → Type 0) where
  -- what the second list has at a place goes with what the first has there
  pub partner : (xs : List A) (ys : List B) (s : ℕ) (y : B) → AllZip R xs ys → slice_get ys s ≡ Some y → (x : A) × (slice_get xs s ≡ Some x) × R x y
  partner [] [] s y all is = absurd (cc)
  partner [] (b ∷ ys) s y all is = absurd all
  partner (x ∷ xs) [] s y all is = absurd all
  partner (x ∷ xs) (b ∷ ys) zero y all is = let same : b ≡ y = cc in (x, refl, subst (R x) same all.0)
  partner (x ∷ xs) (b ∷ ys) (suc s) y all is = partner xs ys s y all.1 is

  pub zip_more : (xs : List A) (ys : List B) (x : A) (y : B) → AllZip R xs ys → R x y → AllZip R (xs ++ x ∷ []) (ys ++ y ∷ [])
  zip_more [] [] x y all last = (last, tt)
  zip_more [] (b ∷ ys) x y all last = absurd all
  zip_more (a ∷ xs) [] x y all last = absurd all
  zip_more (a ∷ xs) (b ∷ ys) x y all last = (all.0, zip_more xs ys x y all.1 last)

  pub zip_up_to : (xs : List A) (ys : List B) (s : ℕ) (y : B) → s < length xs → AllZip R (take s xs) ys → ((x : A) → slice_get xs s ≡ Some x → R x y) → AllZip R (take (s + 1) xs) (ys ++ y ∷ [])
  zip_up_to xs ys s y below all last =
      let found = item_at xs s below in
      let more : take s xs ++ found.0 ∷ [] ≡ take (s + 1) xs = sym (take_more xs s found.0 below ∙ ap (λ (x : A). take s xs ++ x ∷ []) (get_or_from_slice_get xs s found.0 found.0 found.1)) in
      subst (λ (zs : List A). AllZip R zs (ys ++ y ∷ [])) more (zip_more (take s xs) ys found.0 y all (last found.0 found.1))
