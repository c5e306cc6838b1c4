-- How tight the operators bind, from loosest to tightest.
use Rattle.std.specs.Prelude.{ℕ}
use Rattle.oat_tree.specs.declared.operator.Operator.{Operator}
use Rattle.oat_tree.specs.declared.operator.Operator.TheVariants.{Equal, Unequal, Less, AtMost, Greater, AtLeast, BitOr, BitXor, BitAnd, ShiftLeft, ShiftRight, Plus, Minus, Times, Quotient, Remainder}

abbrev pub level : Operator → ℕ
level Equal = 0
level Unequal = 0
level Less = 0
level AtMost = 0
level Greater = 0
level AtLeast = 0
level BitOr = 1
level BitXor = 2
level BitAnd = 3
level ShiftLeft = 4
level ShiftRight = 4
level Plus = 5
level Minus = 5
level Times = 6
level Quotient = 6
level Remainder = 6
