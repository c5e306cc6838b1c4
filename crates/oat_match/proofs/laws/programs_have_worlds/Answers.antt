use Rattle.oat_match.proofs.Worlds.{programs_have_worlds}
use Rattle.oat_match.proofs.laws.programs_have_worlds.Goals as goal

pub returns : goal.returns
returns c = programs_have_worlds
