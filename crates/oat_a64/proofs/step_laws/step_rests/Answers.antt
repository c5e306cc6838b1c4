use Rattle.oat_a64.proofs.Steps as lemmas
use Rattle.oat_a64.proofs.step_laws.step_rests.Goals as goal

pub returns : goal.returns
returns c = lemmas.step_rests
