use Rattle.oat_globals.proofs.Operations.{operation_returns_lead}
use Rattle.oat_globals.proofs.laws.operation_returns_lead.Goals as goal

pub returns : goal.returns
returns c = operation_returns_lead
