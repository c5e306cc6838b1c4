use Rattle.oat_check.specs.Rules.{fault_in_func}
use Rattle.oat_check.proofs.FirstIn.{NoneBefore}
use Rattle.oat_check.proofs.first_fault.fault_in_funcs.Given as goal

abbrev pub invariant-loop-number : goal.invariant-loop-number
invariant-loop-number l = NoneBefore (fault_in_func l.program) l.number l.func-items
