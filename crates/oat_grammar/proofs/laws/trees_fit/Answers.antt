use Rattle.oat_grammar.proofs.Fitting.{read_fits}
use Rattle.oat_grammar.proofs.laws.trees_fit.Goals as goal

pub returns : goal.returns
returns c = read_fits
