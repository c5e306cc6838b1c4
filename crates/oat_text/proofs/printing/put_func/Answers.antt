use Rattle.std.proofs.Common.{arith}
use Rattle.oat_text.proofs.Printed.{func_printed}
use Rattle.oat_text.proofs.printing.put_func.Goals as goal

pub returns : goal.returns
returns c = grind (arith, func_printed c.args.out.now.items c.args.program.now c.args.func.now)
