use Rattle.std.proofs.Common.{refl}
use Rattle.oat_report.proofs.Places.{place_of-parts}
use Rattle.oat_report.proofs.place.place_at_or_below.Goals as goal

pub returns : goal.returns
returns c = rw (place_of-parts c.args.map.now c.args.address, c.greatest_start.ensures, c.greatest_entry-entry.ensures, c.as_slice.ensures, c.as_slice-2.ensures) refl
