use Rattle.oat_locals.proofs.Terminators.{halts-end}
use Rattle.oat_locals.proofs.laws.halts_end.Goals as goal

pub returns : goal.returns
returns c = halts-end
