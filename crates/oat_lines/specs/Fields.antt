-- Texts with one spelling: each line ends with LF, and one space stands between two words of a line (docs/FORMATS.md).
use Rattle.std.specs.{Prelude.◌≡◌, Prelude.◌≢◌, Prelude.ℕ, Prelude.◌<◌, Prelude.Bool, Prelude.true, Prelude.List, Prelude.[], Prelude.◌∷◌, Prelude.◌++◌, Prelude.◌==◌, Prelude.◌&&◌, Prelude.length}
use Rattle.std.specs.{Prelude.slice_index, Prelude.nat_lt, Prelude.Option, Prelude.Some, Prelude.None, Prelude.is_none, Prelude.option_map, Prelude.option_and_then, Prelude.if◌then◌else◌}
use Rattle.std.specs.{List.list_all}

-- no such byte stands before this place
abbrev pub IsFree : ℕ → ℕ → List ℕ → Type 0
IsFree byte place text = (k : ℕ) → k < place → slice_index text k ≢ byte

-- the place of the first such byte
abbrev pub IsFirstByte : ℕ → List ℕ → ℕ → Type 0
IsFirstByte byte text place = (place < length text) × (slice_index text place ≡ byte) × IsFree byte place text

-- what stands before the first such byte, and what stands after it
unfoldable pub cut : ℕ → List ℕ → Option (List ℕ × List ℕ)
cut byte [] = None
cut byte (b ∷ bs) = if b == byte then Some ([], bs) else option_map (λ p. (b ∷ p.0, p.1)) (cut byte bs)

-- a line of just one word
abbrev pub one_field : List ℕ → Option (List ℕ)
one_field line = if nat_lt 0 (length line) && is_none (cut 32 line) then Some line else None

-- the first word of a line, and what stands after the space behind it
abbrev pub field_and_rest : List ℕ → Option (List ℕ × List ℕ)
field_and_rest line = option_and_then (λ p. if nat_lt 0 (length p.0) then Some p else None) (cut 32 line)

-- the words of a line of two, three or four
abbrev pub two_fields : List ℕ → Option (List ℕ × List ℕ)
two_fields line = option_and_then (λ p. option_map (λ b. (p.0, b)) (one_field p.1)) (field_and_rest line)

abbrev pub three_fields : List ℕ → Option (List ℕ × List ℕ × List ℕ)
three_fields line = option_and_then (λ p. option_map (λ q. (p.0, q.0, q.1)) (two_fields p.1)) (field_and_rest line)

abbrev pub four_fields : List ℕ → Option (List ℕ × List ℕ × List ℕ × List ℕ)
four_fields line = option_and_then (λ p. option_map (λ q. (p.0, q.0, q.1, q.2)) (three_fields p.1)) (field_and_rest line)

-- the line of these words
abbrev pub spaced : List (List ℕ) → List ℕ
spaced [] = []
spaced (word ∷ []) = word
spaced (word ∷ next ∷ words) = word ++ 32 ∷ spaced (next ∷ words)

-- the line with its end
abbrev pub ended : List ℕ → List ℕ
ended line = line ++ 10 ∷ []

-- the characters above the space
abbrev pub is_visible : ℕ → Bool
is_visible b = nat_lt 32 b

-- a word of visible characters
pub record IsField (word : List ℕ) : Type 0 where
  pub visible : list_all is_visible word ≡ true
  pub nonempty : 0 < length word
