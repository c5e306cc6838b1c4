use Rattle.oat_grammar.proofs.Sizes.{text_sized, read_sized}
use Rattle.oat_grammar.proofs.laws.trees_are_small.Goals as goal

pub returns : goal.returns
returns c = record { tokens = λ ts tree d. text_sized d; bytes = read_sized }
