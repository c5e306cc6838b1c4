use Rattle.std.proofs.Common.{◌↔◌, length}
use Rattle.std.specs.List.{IsDistinct}
use Rattle.oat_ir.proofs.distinct.are_distinct.Given as goal

abbrev pub invariant-items : goal.invariant-items
invariant-items g l = IsDistinct g.K.Likeness.alike l.rest ↔ IsDistinct g.K.Likeness.alike l.items

abbrev pub decreases-items : goal.decreases-items
decreases-items g l = length l.rest
