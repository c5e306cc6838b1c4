use Rattle.std.proofs.Common.{◌≡◌, ◌+◌, take}
use Rattle.std.specs.List.{sum_by}
use Rattle.oat_check.specs.Globals.{size_in_words}
use Rattle.oat_check.proofs.first_fault.words_left.Given as goal

abbrev pub invariant-loop-global : goal.invariant-loop-global
invariant-loop-global l = l.left + sum_by size_in_words (take l.global-index l.globals) ≡ 65536
