use Rattle.std.proofs.Common.{◌↔◌, None, drop}
use Rattle.oat_image.specs.Rising.{Rising}
use Rattle.oat_image.proofs.well_formed.is_rising.Given as goal

abbrev pub invariant-loop-item : goal.invariant-loop-item
invariant-loop-item g l = Rising g.F.Form.key l.last (drop l.item-index l.items) ↔ Rising g.F.Form.key None l.items
