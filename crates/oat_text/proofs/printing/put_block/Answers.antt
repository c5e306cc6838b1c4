use Rattle.std.proofs.Common.{arith}
use Rattle.oat_text.proofs.Printed.{block_printed}
use Rattle.oat_text.proofs.printing.put_block.Goals as goal

pub returns : goal.returns
returns c = grind (arith, block_printed c.args.out.now.items c.args.program.now c.args.func.now c.args.block.now)
