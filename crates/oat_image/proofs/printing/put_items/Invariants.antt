use Rattle.std.proofs.Common.{take}
use Rattle.std.specs.List.{flat_map}
use Rattle.oat_lines.specs.Fields.{ended}
use Rattle.oat_image.specs.Printing.{Takes}
use Rattle.oat_image.proofs.printing.put_items.Given as goal

abbrev pub invariant-loop-item : goal.invariant-loop-item
invariant-loop-item g l =
    Takes g.R.Receiver.holds (flat_map (λ item. ended (g.F.Form.spelling item)) (take l.item-index l.items)) l.initial.out l.out
