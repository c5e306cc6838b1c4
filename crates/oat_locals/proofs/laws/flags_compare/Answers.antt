use Rattle.oat_locals.proofs.Flags.{flags-compare}
use Rattle.oat_locals.proofs.laws.flags_compare.Goals as goal

pub returns : goal.returns
returns c = flags-compare
