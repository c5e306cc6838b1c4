use Rattle.oat_globals.proofs.Operations.{operation_calls_lead}
use Rattle.oat_globals.proofs.laws.operation_calls_lead.Goals as goal

pub returns : goal.returns
returns c = operation_calls_lead
