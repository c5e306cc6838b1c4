use Rattle.oat_tool.proofs.VerifySaying.{acceptance_is_reported, refusal_is_reported, verdict_is_sealed}
use Rattle.oat_tool.proofs.laws.verify.statuses.Goals as goal

pub returns : goal.returns
returns c = record { accepted = acceptance_is_reported; refused = refusal_is_reported; sealed = verdict_is_sealed }
