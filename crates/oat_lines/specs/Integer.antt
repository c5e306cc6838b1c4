-- Integers of texts: decimal digits, or decimal digits behind a minus, of a number of 64 bits in two's complement.
use Rattle.std.specs.{Prelude.ℕ, Prelude.ℤ, Prelude.pos, Prelude.negsuc, Prelude.neg_ℤ, Prelude.◌^◌, Prelude.Bool, Prelude.nat_lt, Prelude.List, Prelude.drop, Prelude.Option, Prelude.option_map}
use Rattle.std.specs.{Prelude.Result, Prelude.Ok, Prelude.Err, Prelude.if◌then◌else◌, Option.ok_or, Str.Parse.starts_with_minus}
use Rattle.oat_lines.specs.{Decimal.numeral_of, Reading.◌>>=◌, declared.integer.IntegerFault.IntegerFault, declared.integer.IntegerFault.TheVariants.Misspelled}
use Rattle.oat_lines.specs.{declared.integer.IntegerFault.TheVariants.OutOfRange}

-- digits, or digits behind a minus, with leading zeros or without; None for other words
abbrev pub integer_of : List ℕ → Option ℤ
integer_of word =
    if starts_with_minus word then option_map (λ n. neg_ℤ (pos n)) (numeral_of (drop 1 word)) else option_map (λ n. pos n) (numeral_of word)

-- a number of 64 bits in two's complement
abbrev pub is_i64 : ℤ → Bool
is_i64 (pos n) = nat_lt n (2 ^ 63)
is_i64 (negsuc n) = nat_lt n (2 ^ 63)

abbrev pub within_i64 : ℤ → Result ℤ IntegerFault
within_i64 z = if is_i64 z then Ok z else Err OutOfRange

-- the number of 64 bits that a word spells, or what is wrong with it
unfoldable pub read_as_integer : List ℕ → Result ℤ IntegerFault
read_as_integer word = ok_or (integer_of word) Misspelled >>= λ z. within_i64 z
