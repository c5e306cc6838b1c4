-- What arithmetic on words keeps.
use Rattle.std.specs.Prelude.{◌≡◌, ℕ, ◌*◌, ◌^◌, ◌<◌}
use Rattle.oat_bits.specs.Words.{wrap, difference, signed, unsigned, unsigned_quotient, signed_quotient, unsigned_remainder, signed_remainder, shifted_right, shifted_right_signed}

-- what a word is divided by or shifted by, the result is a word
abbrev pub ResultsAreWords : Type 0
ResultsAreWords =
    (a b : ℕ) → a < 2 ^ 64 → (unsigned_quotient a b < 2 ^ 64) × (signed_quotient a b < 2 ^ 64) × (unsigned_remainder a b < 2 ^ 64) × (signed_remainder a b < 2 ^ 64) × (shifted_right a b < 2 ^ 64) × (shifted_right_signed a b < 2 ^ 64)

-- the integer that a word stands for is written as that word
abbrev pub SignedReadsBack : Type 0
SignedReadsBack = (value : ℕ) → value < 2 ^ 64 → unsigned (signed value) ≡ value

-- a remainder is what the quotient times the divisor leaves, also where the least number is divided by -1, and by zero
abbrev pub RemaindersAreLeft : Type 0
RemaindersAreLeft =
    (a b : ℕ) → a < 2 ^ 64 → b < 2 ^ 64 → (difference a (wrap (unsigned_quotient a b * b)) ≡ unsigned_remainder a b) × (difference a (wrap (signed_quotient a b * b)) ≡ signed_remainder a b)
