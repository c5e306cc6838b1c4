use Rattle.oat_symbols.proofs.Worked.{idle_is_built}
use Rattle.oat_symbols.proofs.laws.idle_is_built.Goals as goal

pub returns : goal.returns
returns c = idle_is_built c.fetches_by_the_table.ensures
