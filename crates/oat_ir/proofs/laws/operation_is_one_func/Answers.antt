use Rattle.oat_ir.proofs.OneFunc.{by_operation}
use Rattle.oat_ir.proofs.laws.operation_is_one_func.Goals as goal

pub returns : goal.returns
returns c = by_operation
