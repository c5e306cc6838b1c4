use Rattle.oat_locals.proofs.Binaries.{divisions-trap}
use Rattle.oat_locals.proofs.laws.divisions_trap.Goals as goal

pub returns : goal.returns
returns c = divisions-trap
