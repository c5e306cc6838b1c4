use Rattle.std.proofs.Common.{◌+◌, [], refl, sym, ap, subst, ◌∙◌}
use Rattle.oat_shape.proofs.Laid.{laid}
use Rattle.oat_attest.specs.{Case, Image, start_cells, Opening, at_start, IsLaid}
use Rattle.oat_device.specs.DeviceRun.{DeviceRun}
use Rattle.oat_watch.specs.Collecting.{Collects, IsCollected}
use Rattle.oat_watch.proofs.Whole.{all-windows, at-first}
use Rattle.oat_watch.proofs.windows.windows_of.Goals as goal

pub loop-init : goal.loop-init
loop-init c =
    let collects : (o : Opening) → Collects c.args.shaped.now o (at_start o (start_cells c.args.shaped.now)) [] c.in_ok-collection.collection = λ o. subst (λ (i : Image). Collects i o (at_start o (start_cells i)) [] c.in_ok-collection.collection) c.image-image.ensures.same (c.in_ok-collection.ensures o) in (
      refl,
      at-first c.args.shaped.now c.args.device.now c.in_ok-collection.collection c.requires.start.none_made collects c.requires.start.image,
      ap (λ (x : Case). x.steps) c.requires.start.case,
    )

pub loop-preserved : goal.loop-preserved
loop-preserved c =
    let next = c.advance.new.device in
    let collected = c.in_ok-advance.ensures.collected c.loop.counter (subst (λ (i : Image). IsCollected i c.loop.device c.loop.collection c.loop.counter) (sym c.image-image.ensures.same) c.loop.invariant.1) in (
      c.in_ok-advance.ensures.same ∙ ap (λ (d : DeviceRun). record d { turns = next.turns }) c.loop.invariant.0,
      subst (λ (i : Image). IsCollected i next c.advance.new.collection (c.loop.counter + 1)) c.image-image.ensures.same collected,
      c.loop.invariant.2,
    )

pub returns-clause-windows : goal.returns-clause-windows
returns-clause-windows c = all-windows c.args.shaped.now c.loop.device c.loop.collection c.loop.counter c.loop.invariant.1

pub advance-requires-clause-laid : goal.advance-requires-clause-laid
advance-requires-clause-laid c =
    subst IsLaid (sym c.image-image.ensures.same) (laid c.args.shaped.now c.image-image.ensures.well_formed c.image-image.ensures.shaped)
