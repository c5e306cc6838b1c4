use Rattle.oat_grammar.proofs.TextsRead.{one_tree}
use Rattle.oat_grammar.proofs.laws.one_tree.Goals as goal

pub returns : goal.returns
returns c = λ ts a b d e. one_tree d e
