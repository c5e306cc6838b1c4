use Rattle.std.proofs.Common.{◌≡◌, map, drop}
use Rattle.oat_policy.specs.{EdgeWords.meets_each, Pieces.path_word}
use Rattle.oat_policy.proofs.matching.meets_each.Given as goal

abbrev pub invariant-loop-i : goal.invariant-loop-i
invariant-loop-i l = meets_each (drop l.i l.pattern) (map path_word (drop l.i l.words)) ≡ meets_each l.pattern (map path_word l.words)
