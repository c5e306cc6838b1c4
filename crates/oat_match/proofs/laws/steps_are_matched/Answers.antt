use Rattle.oat_match.proofs.Stepping.{steps_are_matched}
use Rattle.oat_match.proofs.laws.steps_are_matched.Goals as goal

pub returns : goal.returns
returns c = steps_are_matched c.elements_are_numbered.ensures
