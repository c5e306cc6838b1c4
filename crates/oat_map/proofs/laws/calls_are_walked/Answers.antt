use Rattle.oat_map.proofs.WorkedLemmas.{calls_walked}
use Rattle.oat_map.proofs.laws.calls_are_walked.Goals as goal

pub returns : goal.returns
returns c = calls_walked
