use Rattle.std.proofs.Common.{◌≡◌, true, take}
use Rattle.oat_grammar.specs.Spots.{are_of_line}
use Rattle.oat_parse.proofs.words.split_line.Given as goal

abbrev pub invariant-loop-place : goal.invariant-loop-place
invariant-loop-place l = are_of_line (take l.place l.text) ≡ true
