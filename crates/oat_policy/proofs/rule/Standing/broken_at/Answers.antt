use Rattle.oat_policy.proofs.InTurn.{order_broken_at}
use Rattle.oat_policy.proofs.rule.Standing.broken_at.Goals as goal

pub returns-in-Order : goal.returns-in-Order
returns-in-Order c = λ flow path edges same.
    order_broken_at flow c.args.rule.now c.in-Order.patterns path c.args.self c.len.result c.args.edges c.broken_order.result c.in-Order.is same edges c.len.ensures c.broken_order.ensures
