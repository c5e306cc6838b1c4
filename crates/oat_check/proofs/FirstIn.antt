-- What is found first in a list, as a loop over its items comes to it.
use Rattle.std.proofs.Common.{◌≡◌, ◌+◌, ◌<◌, ◌≤◌, ℕ, suc, List, length, drop, get_or, Option, Some, None, sym, ap, ◌∙◌, arith, drop-cons}
use Rattle.std.specs.Option.{option_or}
use Rattle.std.proofs.Math.ListN.{drop_of_length-le}
use Rattle.oat_check.specs.Rules.{first_in}

-- nothing was found in the first n items
abbrev pub NoneBefore : {X A : Type 0} → (ℕ → X → Option A) → ℕ → List X → Type 0
NoneBefore find n xs = first_in find 0 xs ≡ first_in find n (drop n xs)

at_item : {X A : Type 0} (find : ℕ → X → Option A) (n : ℕ) (xs : List X) (x : X) → n < length xs → x ≡ get_or xs n x → NoneBefore find n xs
    → first_in find 0 xs ≡ option_or (find n x) (first_in find (suc n) (drop (suc n) xs))
at_item find n xs x low is so_far =
    so_far ∙ ap (first_in find n) (drop-cons xs n x low) ∙ ap (λ y. option_or (find n y) (first_in find (suc n) (drop (suc n) xs))) (sym is)

pub is_found : {X A : Type 0} (find : ℕ → X → Option A) (n : ℕ) (xs : List X) (x : X) (c : A) → n < length xs → x ≡ get_or xs n x → NoneBefore find n xs → find n x ≡ Some c → Some c ≡ first_in find 0 xs
is_found find n xs x c low is so_far e = sym (at_item find n xs x low is so_far ∙ ap (λ o. option_or o (first_in find (suc n) (drop (suc n) xs))) e)

pub is_passed : {X A : Type 0} (find : ℕ → X → Option A) (n : ℕ) (xs : List X) (x : X) → n < length xs → x ≡ get_or xs n x → NoneBefore find n xs → find n x ≡ None → NoneBefore find (n + 1) xs
is_passed find n xs x low is so_far e =
    let next : suc n ≡ n + 1 = omega arith in
    at_item find n xs x low is so_far ∙ ap (λ o. option_or o (first_in find (suc n) (drop (suc n) xs))) e ∙ ap (λ m. first_in find m (drop m xs)) next

pub is_nowhere : {X A : Type 0} (find : ℕ → X → Option A) (n : ℕ) (xs : List X) → length xs ≤ n → NoneBefore find n xs → None ≡ first_in find 0 xs
is_nowhere find n xs high so_far = sym (so_far ∙ ap (first_in find n) (drop_of_length-le xs high))
