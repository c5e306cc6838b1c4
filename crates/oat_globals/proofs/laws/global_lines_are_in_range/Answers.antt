use Rattle.oat_globals.proofs.Ranges.{global_lines_are_in_range}
use Rattle.oat_globals.proofs.laws.global_lines_are_in_range.Goals as goal

pub returns : goal.returns
returns c = global_lines_are_in_range
