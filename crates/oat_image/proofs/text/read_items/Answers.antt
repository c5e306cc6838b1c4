use Rattle.std.proofs.Common.{None}
use Rattle.std.proofs.lemmas.Result.{err_from_is_err_and}
use Rattle.oat_image.specs.{Reading.items_at, Seen.seen}
use Rattle.oat_image.proofs.Loop.{goes_on, ends, is_done}
use Rattle.oat_image.proofs.text.read_items.Goals as goal

pub returns-in_err-item : goal.returns-in_err-item
returns-in_err-item g c =
    let p = err_from_is_err_and c.from_residual.result c.from_residual.ensures.1 in
    rw (p.1, p.2) (ends g.F.Form.reads g.F.Form.key c.in_err-item.field-0.0 c.loop.items.items c.args.count c.loop.counter c.loop.last (seen c.loop.text) (items_at g.F.Form.reads g.F.Form.key c.args.count None (seen c.args.text.now)) c.loop-test.true c.in_err-item.ensures c.loop.invariant)

pub loop-preserved : goal.loop-preserved
loop-preserved g c =
    rw (c.in_ok-push.ensures.items, c.key-last.ensures)
    (goes_on g.F.Form.reads g.F.Form.key c.loop.items.items c.args.count c.loop.counter c.loop.last (seen c.loop.text) c.in_ok-item.item (seen c.read_item.new.text) (items_at g.F.Form.reads g.F.Form.key c.args.count None (seen c.args.text.now)) c.loop-test.true c.in_ok-item.ensures c.loop.invariant)

pub returns : goal.returns
returns g c = is_done g.F.Form.reads g.F.Form.key c.loop.items.items c.args.count c.loop.counter c.loop.last (seen c.loop.text) (items_at g.F.Form.reads g.F.Form.key c.args.count None (seen c.args.text.now)) c.loop-test.false c.loop.invariant
