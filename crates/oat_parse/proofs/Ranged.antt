-- Numbers that fit their types.
use Rattle.std.proofs.Common.{◌≡◌, ℕ, ◌≤◌, ◌<◌, ◌^◌, Bool, true, false, arith}
use Rattle.std.proofs.lemmas.Bool.{and_parts}
use Rattle.std.proofs.lemmas.Bool.Decides.{nat_tests}
use Rattle.std.specs.Prelude.{nat_le}
use Rattle.oat_tree.specs.Syntax.{Word}
use Rattle.oat_grammar.specs.declared.token.Token.TheVariants.{Number}
use Rattle.oat_grammar.specs.Machine.{at_length}
use Rattle.oat_grammar.specs.FirstFaults.{heading_range, is_within}

pub length_low : (c : Bool) (x : Word) (n : ℕ) → is_within (heading_range (at_length c x)) (Number n) ≡ true → n < 2 ^ 32
length_low true x n h = let p = and_parts (nat_le 1 n) (nat_le n 4096) h in let le = p.1 in grind (arith, nat_tests)
length_low false x n h = let p = and_parts (nat_le 1 n) (nat_le n 65536) h in let le = p.1 in grind (arith, nat_tests)
