use Rattle.oat_check.specs.Rules.{fault_in_block}
use Rattle.oat_check.proofs.FirstIn.{NoneBefore}
use Rattle.oat_check.proofs.first_fault.fault_in_blocks.Given as goal

abbrev pub invariant-loop-block : goal.invariant-loop-block
invariant-loop-block l = NoneBefore (fault_in_block l.program l.func l.number) l.block l.code-items
