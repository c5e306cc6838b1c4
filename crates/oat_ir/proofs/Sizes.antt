-- The room behind a list of things.
use Rattle.std.proofs.Common.{◌≡◌, ℕ, ◌+◌, ◌<◌, List, Some, take, ap, arith}
use Rattle.std.specs.List.{slice_get, sum_by}
use Rattle.std.proofs.lemmas.{List.Sums.sum_by_more_le, Option.slice_get_within, Option.get_or_from_slice_get}

-- an item for which there is too little room
pub is_over : {X : Type 0} (f : X → ℕ) (xs : List X) (i room left : ℕ) (x : X) → slice_get xs i ≡ Some x
    → left + sum_by f (take i xs) ≡ room → left < f x → room < sum_by f xs
is_over f xs i room left x here so_far low =
    let some = sum_by_more_le f xs i x (slice_get_within xs i x here) in
    let same = ap f (get_or_from_slice_get xs i x x here) in
    omega arith
