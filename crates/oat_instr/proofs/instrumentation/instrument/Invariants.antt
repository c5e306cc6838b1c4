use Rattle.std.proofs.Common.{◌≡◌, ◌++◌, drop}
use Rattle.oat_asm.specs.Expansion.{expansion}
use Rattle.oat_instr.proofs.instrumentation.instrument.Given as goal

abbrev pub invariant-loop-item : goal.invariant-loop-item
invariant-loop-item l = l.out.items ++ expansion (drop l.item-index l.item-items) ≡ expansion l.item-items
