use Rattle.oat_parts.proofs.Making.{words_add}
use Rattle.oat_parts.proofs.laws.words_add.Goals as goal

pub returns : goal.returns
returns c = words_add
