use Rattle.oat_check.proofs.Numbers.{has_funcs}
use Rattle.oat_check.proofs.first_fault.first_fault.Goals as goal

pub fault_in_funcs-requires : goal.fault_in_funcs-requires
fault_in_funcs-requires c = has_funcs c.args.program.now c.requires
