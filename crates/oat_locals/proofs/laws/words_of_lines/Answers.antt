use Rattle.oat_locals.proofs.Sizes.{words-of-lines}
use Rattle.oat_locals.proofs.laws.words_of_lines.Goals as goal

pub returns : goal.returns
returns c = words-of-lines
