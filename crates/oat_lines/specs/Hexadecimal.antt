-- Hexadecimal numbers of texts: a fixed number of upper-case digits, the highest first (docs/FORMATS.md).
use Rattle.std.specs.{Prelude.ℕ, Prelude.zero, Prelude.suc, Prelude.◌+◌, Prelude.◌/◌, Prelude.◌%◌, Prelude.Bool, Prelude.◌&&◌, Prelude.◌||◌, Prelude.List, Prelude.[], Prelude.◌∷◌, Prelude.◌++◌}
use Rattle.std.specs.{Prelude.length, Prelude.Option, Prelude.Some, Prelude.None, Prelude.nat_le, Prelude.nat_lt, Prelude.◌==◌, Prelude.if◌then◌else◌, List.list_all, Str.Parse.digits_value}

-- the characters 0 to 9 and A to F
abbrev pub is_hexadecimal_digit : ℕ → Bool
is_hexadecimal_digit c = (nat_le 48 c && nat_le c 57) || (nat_le 65 c && nat_le c 70)

-- the number that a word of so many digits spells; None for other words
abbrev pub hexadecimal_of : ℕ → List ℕ → Option ℕ
hexadecimal_of digits word = if (length word == digits) && list_all is_hexadecimal_digit word then Some (digits_value 16 word) else None

-- the character that writes a digit below 16
abbrev pub hexadecimal_digit : ℕ → ℕ
hexadecimal_digit d = if nat_lt d 10 then 48 + d else 55 + d

-- the spelling of a number by so many digits
unfoldable pub hexadecimal : ℕ → ℕ → List ℕ
hexadecimal zero n = []
hexadecimal (suc digits) n = hexadecimal digits (n / 16) ++ hexadecimal_digit (n % 16) ∷ []
