-- What the operations make of numbers below 2^64 are such numbers.
use Rattle.std.proofs.Common.{◌≡◌, ◌%◌, ◌^◌, ◌<◌, ◌≤◌, ℕ, Bool, true, false, cond, ℤ, Some, None, subst, arith, eqb, lit<}
use Rattle.std.proofs.Math.Nat.{mod-lt}
use Rattle.std.proofs.lemmas.Nat.{or_lt, xor_lt, and_le_l}
use Rattle.oat_bits.specs.Words.{wrap, unsigned, unsigned_quotient, unsigned_remainder, signed_quotient, signed_remainder}
use Rattle.oat_bits.proofs.WordLemmas.{results_are_words}
use Rattle.oat_ir.specs.{declared.instr.BinOp.BinOp, declared.instr.BinOp.TheVariants.Add, declared.instr.BinOp.TheVariants.Sub, declared.instr.BinOp.TheVariants.Mul}
use Rattle.oat_ir.specs.{declared.instr.BinOp.TheVariants.And, declared.instr.BinOp.TheVariants.Or, declared.instr.BinOp.TheVariants.Xor, declared.instr.BinOp.TheVariants.Shl}
use Rattle.oat_ir.specs.{declared.instr.BinOp.TheVariants.Shr, declared.instr.BinOp.TheVariants.Sar, declared.instr.BinOp.TheVariants.Eq, declared.instr.BinOp.TheVariants.Ne}
use Rattle.oat_ir.specs.{declared.instr.BinOp.TheVariants.Lt, declared.instr.BinOp.TheVariants.Le, declared.instr.BinOp.TheVariants.Ltu, declared.instr.BinOp.TheVariants.Leu}
use Rattle.oat_ir.specs.{declared.instr.BinOp.TheVariants.Div, declared.instr.BinOp.TheVariants.Rem, declared.instr.BinOp.TheVariants.Divu, declared.instr.BinOp.TheVariants.Remu}
use Rattle.oat_check.specs.Operators.{divided, number, result_of, truth}

wrap_small : (n : ℕ) → wrap n < 2 ^ 64
wrap_small n = mod-lt n (lit< tt)

pub number_small : (z : ℤ) → number z < 2 ^ 64
number_small z = wrap_small (unsigned z)

truth_small : (b : Bool) → truth b < 2 ^ 64
truth_small true = lit< tt
truth_small false = lit< tt

some_small : (a v : ℕ) → a < 2 ^ 64 → Some a ≡ Some v → v < 2 ^ 64
some_small a v h e = let f : a ≡ v = cc in subst (λ (x : ℕ). x < 2 ^ 64) f h

below : (a b : ℕ) → a ≤ b → b < 2 ^ 64 → a < 2 ^ 64
below a b h l = omega arith

divided_small : (b a v : ℕ) → a < 2 ^ 64 → divided b a ≡ Some v → v < 2 ^ 64
divided_small b a v h = by (eqb b 0) where
  by : (t : Bool) → cond t None (Some a) ≡ Some v → v < 2 ^ 64
  by true e = absurd (cc)
  by false e = some_small a v h e

pub result_small : (op : BinOp) (a b v : ℕ) → a < 2 ^ 64 → b < 2 ^ 64 → result_of op a b ≡ Some v → v < 2 ^ 64
result_small Add a b v l m h = some_small _ v (wrap_small _) h
result_small Sub a b v l m h = some_small _ v (wrap_small _) h
result_small Mul a b v l m h = some_small _ v (wrap_small _) h
result_small And a b v l m h = some_small _ v (below _ a (and_le_l a b) l) h
result_small Or a b v l m h = some_small _ v (or_lt 64 a b l m) h
result_small Xor a b v l m h = some_small _ v (xor_lt 64 a b l m) h
result_small Shl a b v l m h = some_small _ v (wrap_small _) h
result_small Shr a b v l m h = some_small _ v (results_are_words a (b % 64) l).4 h
result_small Sar a b v l m h = some_small _ v (results_are_words a (b % 64) l).5 h
result_small Eq a b v l m h = some_small _ v (truth_small _) h
result_small Ne a b v l m h = some_small _ v (truth_small _) h
result_small Lt a b v l m h = some_small _ v (truth_small _) h
result_small Le a b v l m h = some_small _ v (truth_small _) h
result_small Ltu a b v l m h = some_small _ v (truth_small _) h
result_small Leu a b v l m h = some_small _ v (truth_small _) h
result_small Div a b v l m h = divided_small b (signed_quotient a b) v (results_are_words a b l).1 h
result_small Rem a b v l m h = divided_small b (signed_remainder a b) v (results_are_words a b l).3 h
result_small Divu a b v l m h = divided_small b (unsigned_quotient a b) v (results_are_words a b l).0 h
result_small Remu a b v l m h = divided_small b (unsigned_remainder a b) v (results_are_words a b l).2 h
