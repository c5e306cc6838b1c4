use Rattle.oat_verify.proofs.OneVerdict as lemmas
use Rattle.oat_verify.proofs.laws.acceptance_at_once.Goals as goal

pub returns : goal.returns
returns c = lemmas.acceptance_at_once
