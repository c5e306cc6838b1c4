use Rattle.std.proofs.Common.{◌≡◌, true, take}
use Rattle.oat_grammar.specs.Spots.{are_of_word}
use Rattle.oat_parse.proofs.words.split_word.Given as goal

abbrev pub invariant-loop-place : goal.invariant-loop-place
invariant-loop-place l = are_of_word (take l.place l.text) ≡ true
