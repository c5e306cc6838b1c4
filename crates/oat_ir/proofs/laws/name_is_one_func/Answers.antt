use Rattle.oat_ir.proofs.OneFunc.{by_name}
use Rattle.oat_ir.proofs.laws.name_is_one_func.Goals as goal

pub returns : goal.returns
returns c = by_name
