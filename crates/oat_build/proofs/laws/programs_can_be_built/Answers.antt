use Rattle.oat_build.proofs.Promising.{programs_can_be_built}
use Rattle.oat_build.proofs.laws.programs_can_be_built.Goals as goal

pub returns : goal.returns
returns c = programs_can_be_built c.program_items_can_be_expanded.ensures c.codes_are_of_the_program.ensures c.functions_have_their_code.ensures c.programs_have_symbols.ensures
