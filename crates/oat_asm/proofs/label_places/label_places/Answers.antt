use Rattle.oat_asm.proofs.Seen.{finds_place}
use Rattle.oat_asm.proofs.label_places.label_places.Goals as goal

pub returns : goal.returns
returns c = λ label once.
    finds_place c.args.items.now c.loop-item.item-index c.loop-item.here label _ c.loop-item-test.false (c.loop-item.invariant.labels label) once
