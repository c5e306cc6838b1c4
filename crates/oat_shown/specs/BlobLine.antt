-- The lines of blobs, and what is left of them while they are made (docs/FORMATS.md).
use Rattle.std.specs.{Prelude.ℕ, Prelude.Bool, Prelude.List, Prelude.[], Prelude.◌∷◌, Prelude.◌++◌, Prelude.◌+◌, Prelude.◌-◌, Prelude.length, Prelude.drop, Prelude.if◌then◌else◌, Prelude.codes}
use Rattle.std.specs.{List.flat_map, List.sum_by}
use Rattle.hex.specs.Hex.{encode_lower}
use Rattle.oat_page.specs.Outcome.{line}

abbrev pub blob_line : List ℕ → List ℕ
blob_line bytes = line (codes "blob " ++ encode_lower bytes)

-- the line of these bytes, of which the keyword was made, and the digits of the bytes before a place
abbrev pub line_left : List ℕ → Bool → ℕ → List ℕ
line_left bytes is_begun at = (if is_begun then [] else codes "blob ") ++ (encode_lower (drop at bytes) ++ 10 ∷ [])

-- the lines of these blobs, where so much was made of the first one
abbrev pub lines_left : List (List ℕ) → Bool → ℕ → List ℕ
lines_left [] is_begun at = []
lines_left (bytes ∷ others) is_begun at = line_left bytes is_begun at ++ flat_map blob_line others

abbrev pub turns_of_lines : List (List ℕ) → Bool → ℕ → ℕ
turns_of_lines [] is_begun at = 0
turns_of_lines (bytes ∷ others) is_begun at =
    (if is_begun then 0 else 1) + (length bytes - at) + 1 + sum_by (λ blob. length blob + 2) others
