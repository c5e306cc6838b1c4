use Rattle.oat_locals.proofs.Sizes.{lines-are-in-range}
use Rattle.oat_locals.proofs.laws.lines_are_in_range.Goals as goal

pub returns : goal.returns
returns c = lines-are-in-range
