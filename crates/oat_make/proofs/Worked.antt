-- The drill of 1, by computing.
use Rattle.std.proofs.Common.{refl}
use Rattle.oat_make.specs.Worked.{FirstDrillIsShown}

pub first_drill_is_shown : FirstDrillIsShown
first_drill_is_shown = record { limit = refl; constants = refl; inputs = refl; outputs = refl; ended = refl; not_before = refl }
