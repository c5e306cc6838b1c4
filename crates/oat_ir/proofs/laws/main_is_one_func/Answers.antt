use Rattle.oat_ir.proofs.OneFunc.{by_main}
use Rattle.oat_ir.proofs.laws.main_is_one_func.Goals as goal

pub returns : goal.returns
returns c = by_main
