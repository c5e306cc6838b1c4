use Rattle.oat_check.proofs.Locals.{references_are_known}
use Rattle.oat_check.proofs.laws.references_are_known.Goals as goal

pub returns : goal.returns
returns c = references_are_known
