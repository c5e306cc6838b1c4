-- Lists whose items are told apart.
use Rattle.std.proofs.Common.{◌≡◌, ◌↔◌, ℕ, ◌<◌, Bool, true, false, List, [], ◌∷◌, length, get_or, Some, refl, sym, ◌∙◌, ap, subst, inl, inr, arith}
use Rattle.std.specs.{Prelude.IsTrue, List.slice_get, List.All, List.AllByRecursion, List.IsDistinct}
use Rattle.std.proofs.lemmas.{Bool.cases_lt, Bool.false≢true, Bool.both_ways, Map.Keys.apart_from_distinct, Map.Keys.IsDistinct-cons, Map.Keys.IsDistinct-head, Map.Keys.IsDistinct-tail}
use Rattle.std.proofs.lemmas.{Option.slice_get_within, Option.get_or_from_slice_get}

-- the items behind one that is unlike them
pub rest_alike : {X : Type 0} (e : X → X → Bool) (xs rest items : List X) (x : X) (b : Bool) → b ≡ true → xs ≡ x ∷ rest
    → (IsTrue b ↔ AllByRecursion (λ y. e x y ≡ false) rest) → IsDistinct e xs ↔ IsDistinct e items → IsDistinct e rest ↔ IsDistinct e items
rest_alike e xs rest items x b new is tells ways = (
  λ d. ways.0 (rw is (IsDistinct-cons e x rest (tells.0 new) d)),
  λ d. IsDistinct-tail e x rest (subst (IsDistinct e) is (ways.1 d)),
)

unlike_later : {X : Type 0} (e : X → X → Bool) (xs : List X) (i j : ℕ) (x y : X) → IsDistinct e xs → i < j
    → slice_get xs i ≡ Some x → slice_get xs j ≡ Some y → e x y ≡ false
unlike_later e xs i j x y d before at again =
    sym (ap (λ z. e z (get_or xs j x)) (get_or_from_slice_get xs i x x at) ∙ ap (e x) (get_or_from_slice_get xs j y x again))
    ∙ apart_from_distinct e xs i j x d before (slice_get_within xs j y again)

-- items that are alike stand at one place
pub one_place : {X : Type 0} (e : X → X → Bool) (xs : List X) (i j : ℕ) (x y : X) → IsDistinct e xs
    → slice_get xs i ≡ Some x → slice_get xs j ≡ Some y → e x y ≡ true → e y x ≡ true → i ≡ j
one_place e xs i j x y d at again alike back =
    elim (cases_lt i j) as (λ _. i ≡ j) [
      | inl low ↦ absurd (false≢true (sym (unlike_later e xs i j x y d low at again) ∙ alike))
      | inr high ↦
          elim (cases_lt j i) as (λ _. i ≡ j) [
            | inl low ↦ absurd (false≢true (sym (unlike_later e xs j i y x d low again at) ∙ back))
            | inr same ↦ omega arith
          ]
    ]

pub stops : {X : Type 0} (e : X → X → Bool) (xs rest items : List X) (x : X) (b : Bool) → b ≡ false → xs ≡ x ∷ rest
    → (IsTrue b ↔ AllByRecursion (λ y. e x y ≡ false) rest) → IsDistinct e xs ↔ IsDistinct e items → IsTrue false ↔ IsDistinct e items
stops e xs rest items x b old is tells ways = (
  λ never. absurd (false≢true never),
  λ d. absurd (both_ways b old (tells.1 (IsDistinct-head e x rest (subst (IsDistinct e) is (ways.1 d))))),
)

pub empty_rest : {X : Type 0} (e : X → X → Bool) (xs items : List X) → length xs ≡ 0 → IsDistinct e xs ↔ IsDistinct e items
    → IsTrue true ↔ IsDistinct e items
unfolding IsDistinct
empty_rest e [] items none ways = (λ _. ways.0 tt, λ _. refl)
empty_rest e (x ∷ xs) items none ways = absurd (omega arith)

pub each_at : {X : Type 0} (P : X → Type 0) (xs : List X) (i : ℕ) (x : X) → All P xs → slice_get xs i ≡ Some x → P x
each_at P xs i x each at = subst P (get_or_from_slice_get xs i x x at) (each i x (slice_get_within xs i x at))
