use Rattle.oat_globals.proofs.Sizes.{words_of_global_lines}
use Rattle.oat_globals.proofs.laws.words_of_global_lines.Goals as goal

pub returns : goal.returns
returns c = words_of_global_lines
