use Rattle.oat_tree.proofs.SeenLists.{call_seen}
use Rattle.oat_tree.proofs.expr.Expr.call.Goals as goal

pub returns : goal.returns
returns c = call_seen c.args.function c.args.arguments
