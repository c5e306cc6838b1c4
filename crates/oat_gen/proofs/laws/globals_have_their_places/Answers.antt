use Rattle.oat_gen.proofs.Placing.{globals_have_their_places}
use Rattle.oat_gen.proofs.laws.globals_have_their_places.Goals as goal

pub returns : goal.returns
returns c = globals_have_their_places
