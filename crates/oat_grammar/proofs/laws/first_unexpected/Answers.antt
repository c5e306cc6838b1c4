use Rattle.oat_grammar.proofs.Viable.{goes_on, goes_nowhere}
use Rattle.oat_grammar.proofs.laws.first_unexpected.Goals as goal

pub returns : goal.returns
returns c = record { before = goes_on; there = goes_nowhere }
