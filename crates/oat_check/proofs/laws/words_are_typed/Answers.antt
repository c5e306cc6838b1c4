use Rattle.oat_check.proofs.Locals.{words_are_typed}
use Rattle.oat_check.proofs.laws.words_are_typed.Goals as goal

pub returns : goal.returns
returns c = words_are_typed
