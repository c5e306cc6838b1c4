use Rattle.std.proofs.Common.{refl}
use Rattle.std.proofs.lemmas.Option.{slice_get_read}
use Rattle.oat_ir.proofs.Sizes.{is_over}
use Rattle.oat_ir.proofs.size.room_behind_all.Goals as goal

pub returns-in_err-left : goal.returns-in_err-left
returns-in_err-left g c =
    let here = slice_get_read c.args.items.now _ c.loop-item.item-index c.item-item.result refl c.loop-item-test.true c.item-item.is in
    rw c.from_residual.ensures (is_over g.C.Counted.size c.args.items.now c.loop-item.item-index c.args.room c.loop-item.left c.item-item.result here c.loop-item.invariant c.in_err-left.ensures)
