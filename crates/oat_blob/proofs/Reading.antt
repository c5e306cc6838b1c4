-- Targets at their places in the bytes.
use Rattle.std.proofs.Common.{◌≡◌, ℕ, ◌<◌, List, length, Some, arith}
use Rattle.std.specs.Prelude.{slice_get}
use Rattle.std.proofs.lemmas.List.FromFn.{length-map-range_with_len}
use Rattle.oat_bits.proofs.PackedForm.{slice_get-map-range}
use Rattle.oat_blob.specs.Shown.{target_in, targets_in}

pub length-targets_in : (count : ℕ) (bytes : List ℕ) → length (targets_in count bytes) ≡ count
unfolding targets_in
length-targets_in count bytes = length-map-range_with_len (target_in bytes) 0 count

pub slice_get-targets_in : (count : ℕ) (bytes : List ℕ) (i : ℕ) → i < count → slice_get (targets_in count bytes) i ≡ Some (target_in bytes i)
unfolding targets_in
slice_get-targets_in count bytes i below = slice_get-map-range (target_in bytes) 0 count i i below (omega arith)
