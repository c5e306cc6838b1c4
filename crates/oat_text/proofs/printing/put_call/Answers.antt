use Rattle.std.proofs.Common.{arith}
use Rattle.oat_text.specs.Grammar.{local_at}
use Rattle.oat_text.proofs.Printed.{call_printed}
use Rattle.oat_text.proofs.printing.put_call.Goals as goal

pub returns : goal.returns
returns c = grind (arith, call_printed c.args.out.now.items c.args.keyword.now c.args.x.now c.args.callee.now (local_at c.args.func.now) c.args.args.now)
