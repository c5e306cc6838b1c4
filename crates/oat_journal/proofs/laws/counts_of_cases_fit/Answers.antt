use Rattle.oat_journal.proofs.Lengths.{counts_of_cases_fit}
use Rattle.oat_journal.proofs.laws.counts_of_cases_fit.Goals as goal

pub returns : goal.returns
returns c = counts_of_cases_fit
