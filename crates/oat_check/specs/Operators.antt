-- Numbers of a program, and what its operations make of them (docs/FORMATS.md, "Program text"). A number stands for the integer of 64 bits that it is in two's complement.
use Rattle.std.specs.Prelude.{ℕ, ◌+◌, ◌*◌, ◌%◌, Bool, not, nat_eq, nat_lt, nat_le, if◌then◌else◌, Option, Some, None, ℤ, int_lt, int_le, bit_and, bit_or, bit_xor}
use Rattle.oat_bits.specs.Words.{wrap, difference, signed, unsigned, unsigned_quotient, unsigned_remainder, signed_quotient, signed_remainder, shifted_left, shifted_right, shifted_right_signed}
use Rattle.oat_ir.specs.{declared.instr.BinOp.BinOp, declared.instr.BinOp.TheVariants.Add, declared.instr.BinOp.TheVariants.Sub, declared.instr.BinOp.TheVariants.Mul}
use Rattle.oat_ir.specs.{declared.instr.BinOp.TheVariants.And, declared.instr.BinOp.TheVariants.Or, declared.instr.BinOp.TheVariants.Xor, declared.instr.BinOp.TheVariants.Shl}
use Rattle.oat_ir.specs.{declared.instr.BinOp.TheVariants.Shr, declared.instr.BinOp.TheVariants.Sar, declared.instr.BinOp.TheVariants.Eq, declared.instr.BinOp.TheVariants.Ne}
use Rattle.oat_ir.specs.{declared.instr.BinOp.TheVariants.Lt, declared.instr.BinOp.TheVariants.Le, declared.instr.BinOp.TheVariants.Ltu, declared.instr.BinOp.TheVariants.Leu}
use Rattle.oat_ir.specs.{declared.instr.BinOp.TheVariants.Div, declared.instr.BinOp.TheVariants.Rem, declared.instr.BinOp.TheVariants.Divu, declared.instr.BinOp.TheVariants.Remu}

-- an integer of the program or of its inputs; one of more bits wraps
abbrev pub number : ℤ → ℕ
number value = wrap (unsigned value)

abbrev pub truth : Bool → ℕ
truth holds = if holds then 1 else 0

-- None where the divisor is 0
abbrev pub divided : ℕ → ℕ → Option ℕ
divided divisor result = if nat_eq divisor 0 then None else Some result

-- what an operation makes of two numbers; None where it divides by 0
abbrev pub result_of : BinOp → ℕ → ℕ → Option ℕ
result_of Add a b = Some (wrap (a + b))
result_of Sub a b = Some (difference a b)
result_of Mul a b = Some (wrap (a * b))
result_of And a b = Some (bit_and a b)
result_of Or a b = Some (bit_or a b)
result_of Xor a b = Some (bit_xor a b)
result_of Shl a b = Some (shifted_left a (b % 64))
result_of Shr a b = Some (shifted_right a (b % 64))
result_of Sar a b = Some (shifted_right_signed a (b % 64))
result_of Eq a b = Some (truth (nat_eq a b))
result_of Ne a b = Some (truth (not (nat_eq a b)))
result_of Lt a b = Some (truth (int_lt (signed a) (signed b)))
result_of Le a b = Some (truth (int_le (signed a) (signed b)))
result_of Ltu a b = Some (truth (nat_lt a b))
result_of Leu a b = Some (truth (nat_le a b))
result_of Div a b = divided b (signed_quotient a b)
result_of Rem a b = divided b (signed_remainder a b)
result_of Divu a b = divided b (unsigned_quotient a b)
result_of Remu a b = divided b (unsigned_remainder a b)
