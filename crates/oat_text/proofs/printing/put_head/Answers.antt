use Rattle.std.proofs.Common.{arith}
use Rattle.oat_text.proofs.Printed.{head_printed}
use Rattle.oat_text.proofs.printing.put_head.Goals as goal

pub returns : goal.returns
returns c = grind (arith, head_printed c.args.out.now.items c.args.func.now c.args.func.now.role c.requires.role)
