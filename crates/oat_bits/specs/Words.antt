-- Numbers of 64 bits: sums, differences, quotients, remainders and shifts, as a processor and a program alike compute them.
use Rattle.std.specs.{Prelude.ℕ, Prelude.◌+◌, Prelude.◌-◌, Prelude.◌*◌, Prelude.◌/◌, Prelude.◌%◌, Prelude.◌^◌, Prelude.nat_eq, Prelude.if◌then◌else◌, Prelude.ℤ, Prelude.int_div, Prelude.int_rem}
use Rattle.std.specs.{Int.w64, Int.cast_signed, Int.cast_unsigned, Int.int_shr}

-- the low 64 bits of a number
abbrev pub wrap : ℕ → ℕ
wrap value = value % 2 ^ 64

abbrev pub difference : ℕ → ℕ → ℕ
difference a b = wrap (a + (2 ^ 64 - b))

-- the integer that a number stands for in two's complement, and back
abbrev pub signed : ℕ → ℤ
signed value = cast_signed w64 value

abbrev pub unsigned : ℤ → ℕ
unsigned value = cast_unsigned w64 value

-- a quotient is rounded toward zero; by zero it is zero, and the remainder is what was divided
abbrev pub unsigned_quotient : ℕ → ℕ → ℕ
unsigned_quotient a b = if nat_eq b 0 then 0 else a / b

abbrev pub signed_quotient : ℕ → ℕ → ℕ
signed_quotient a b = if nat_eq b 0 then 0 else unsigned (int_div (signed a) (signed b))

abbrev pub unsigned_remainder : ℕ → ℕ → ℕ
unsigned_remainder a b = a % b

abbrev pub signed_remainder : ℕ → ℕ → ℕ
signed_remainder a b = unsigned (int_rem (signed a) (signed b))

abbrev pub shifted_left : ℕ → ℕ → ℕ
shifted_left value amount = wrap (value * 2 ^ amount)

abbrev pub shifted_right : ℕ → ℕ → ℕ
shifted_right value amount = value / 2 ^ amount

abbrev pub shifted_right_signed : ℕ → ℕ → ℕ
shifted_right_signed value amount = unsigned (int_shr (signed value) amount)
