use Rattle.oat_locals.proofs.Terminators.{branches-are-apart}
use Rattle.oat_locals.proofs.laws.branches_are_apart.Goals as goal

pub returns : goal.returns
returns c = branches-are-apart
