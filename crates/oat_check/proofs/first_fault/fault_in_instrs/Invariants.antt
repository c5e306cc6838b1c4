use Rattle.oat_check.specs.{Lines.instruction, Rules.fault_in_line}
use Rattle.oat_check.proofs.FirstIn.{NoneBefore}
use Rattle.oat_check.proofs.first_fault.fault_in_instrs.Given as goal

abbrev pub invariant-loop-place : goal.invariant-loop-place
invariant-loop-place l = NoneBefore (λ place i. fault_in_line l.program l.func l.number l.block place (instruction i)) l.place l.instrs
