use Rattle.std.proofs.Common.{◌≡◌, ◌+◌, drop}
use Rattle.oat_asm.specs.Items.{words_needed}
use Rattle.oat_asm.proofs.passes.words_needed.Given as goal

abbrev pub invariant-loop-item : goal.invariant-loop-item
invariant-loop-item l = l.words + words_needed (drop l.item-index l.items) ≡ words_needed l.items
