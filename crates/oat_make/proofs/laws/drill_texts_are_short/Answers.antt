use Rattle.oat_make.proofs.Made.{drill_texts_are_short}
use Rattle.oat_make.proofs.laws.drill_texts_are_short.Goals as goal

pub returns : goal.returns
returns c = drill_texts_are_short
