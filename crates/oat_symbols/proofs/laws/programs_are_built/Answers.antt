use Rattle.oat_symbols.proofs.Codes.{programs_are_built}
use Rattle.oat_symbols.proofs.laws.programs_are_built.Goals as goal

pub returns : goal.returns
returns c = programs_are_built c.fetches_by_the_table.ensures
