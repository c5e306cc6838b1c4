-- Elements of lists, by `Contains` and by their places.
use Rattle.std.proofs.Common.{◌≡◌, ℕ, List, length, Contains, Some, sym, refl}
use Rattle.std.specs.List.{slice_get}
use Rattle.std.proofs.lemmas.Option.{slice_get_within, slice_get_read, get_or_from_slice_get}

pub contains_get : {A : Type 0} (xs : List A) (k : ℕ) (x : A) → slice_get xs k ≡ Some x → Contains xs x
contains_get xs k x h = (k, slice_get_within xs k x h, get_or_from_slice_get xs k x x h)

pub get_contains : {A : Type 0} (xs : List A) (x : A) (c : Contains xs x) → slice_get xs c.0 ≡ Some x
get_contains xs x c = slice_get_read xs (length xs) c.0 x refl c.1 (sym c.2)
