-- Decimal numbers of texts: digits in base ten without sign, the highest first. The spelling without
-- leading zeros is that of Rust's `{}`.
use Rattle.std.specs.{Prelude.ℕ, Prelude.◌-◌, Prelude.◌^◌, Prelude.min, Prelude.Bool, Prelude.false, Prelude.◌&&◌, Prelude.List, Prelude.◌∷◌, Prelude.Option, Prelude.Some, Prelude.None}
use Rattle.std.specs.{Prelude.nat_le, Prelude.nat_lt, Prelude.◌==◌, Prelude.length, Prelude.if◌then◌else◌, List.list_all, Str.Parse.digits_value}

-- the characters 0 to 9
abbrev pub is_decimal_digit : ℕ → Bool
is_decimal_digit c = nat_le 48 c && nat_le c 57

-- the number that a word of digits spells, with leading zeros or without; None for other words
abbrev pub numeral_of : List ℕ → Option ℕ
numeral_of word = if nat_lt 0 (length word) && list_all is_decimal_digit word then Some (digits_value 10 word) else None

-- more digits stand behind a zero
abbrev pub leads_with_zero : List ℕ → Bool
leads_with_zero (c ∷ d ∷ cs) = c == 48
leads_with_zero _ = false

-- the number that a word spells without leading zeros; None for other words
abbrev pub decimal_of : List ℕ → Option ℕ
decimal_of word = if leads_with_zero word then None else numeral_of word

-- the number, or the largest of 64 bits where it is above
abbrev pub capped : ℕ → ℕ
capped n = min n (2 ^ 64 - 1)
