use Rattle.oat_ir.proofs.Places.{rest_alike, stops, empty_rest}
use Rattle.oat_ir.proofs.distinct.are_distinct.Goals as goal

pub returns-then-not-is_unlike : goal.returns-then-not-is_unlike
returns-then-not-is_unlike g c =
    stops g.K.Likeness.alike c.items.rest.now c.in-Some.others.now c.args.items.now c.in-Some.item.now c.is_unlike.result
    c.if-not-is_unlike.true c.in-Some.ensures.cases.0 c.is_unlike.ensures c.items.invariant

pub items-preserved : goal.items-preserved
items-preserved g c =
    rest_alike g.K.Likeness.alike c.items.rest.now c.in-Some.others.now c.args.items.now c.in-Some.item.now c.is_unlike.result
    c.if-not-is_unlike.false c.in-Some.ensures.cases.0 c.is_unlike.ensures c.items.invariant

pub returns : goal.returns
returns g c = empty_rest g.K.Likeness.alike c.items.rest.now c.args.items.now c.in_default.ensures.cases c.items.invariant
