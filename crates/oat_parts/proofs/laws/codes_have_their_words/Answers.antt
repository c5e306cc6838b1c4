use Rattle.oat_parts.proofs.Making.{codes_have}
use Rattle.oat_parts.proofs.laws.codes_have_their_words.Goals as goal

pub returns : goal.returns
returns c = codes_have
