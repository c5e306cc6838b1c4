use Rattle.std.proofs.Common.{refl}
use Rattle.std.specs.Fmt.{digits}
use Rattle.oat_report.proofs.laws.worked_lines.Goals as goal

pub returns : goal.returns
unfolding digits
returns c = refl
