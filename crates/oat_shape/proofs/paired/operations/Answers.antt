use Rattle.std.proofs.Common.{ap, ◌∙◌, nat_cmp}
use Rattle.std.specs.List.{list_any}
use Rattle.std.proofs.lemmas.{List.take_all, Option.slice_get-get_or}
use Rattle.oat_image.specs.{Jump, begins}
use Rattle.oat_shape.proofs.Loops.{Seen-none, Seen-more}
use Rattle.oat_shape.proofs.paired.operations.Goals as goal

pub loop-row-init : goal.loop-row-init
loop-row-init c = Seen-none nat_cmp begins c.args.rows.now c.new-begun.result c.new-begun.ensures.empty

pub loop-row-preserved : goal.loop-row-preserved
loop-row-preserved c =
    let here = slice_get-get_or c.args.rows.now c.loop-row.row-index (Jump 0 0) c.loop-row-test.true in
    Seen-more nat_cmp begins c.args.rows.now c.loop-row.row-index _ c.loop-row.begun c.add_begun.new.begun here
    c.in_ok-add_begun.ensures.added c.loop-row.invariant

pub returns : goal.returns
returns c = λ op.
    c.loop-row.invariant op ∙ ap (list_any (begins op)) (take_all c.loop-row.row-index c.args.rows.now c.loop-row-test.false)
