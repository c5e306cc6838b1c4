-- Lower-case digits of bytes can be written piece by piece.
use Rattle.std.proofs.Common.{◌≡◌, ℕ, List, [], ◌∷◌, ◌++◌, ◌/◌, ◌%◌, refl, ap}
use Rattle.std.specs.Prelude.{slice_index}
use Rattle.hex.specs.Hex.{encode_with, encode_lower, lower_digits}

pub digits_of_joined : (front back : List ℕ) → encode_lower (front ++ back) ≡ encode_lower front ++ encode_lower back
unfolding encode_with
digits_of_joined [] back = refl
digits_of_joined (b ∷ rest) back =
    ap (λ (digits : List ℕ). slice_index lower_digits (b / 16) ∷ (slice_index lower_digits (b % 16) ∷ digits)) (digits_of_joined rest back)
