use Rattle.oat_gen.proofs.Building.{program_items_can_be_expanded}
use Rattle.oat_gen.proofs.laws.program_items_can_be_expanded.Goals as goal

pub returns : goal.returns
returns c = program_items_can_be_expanded c.codes_are_of_the_program.ensures c.functions_have_their_code.ensures c.programs_are_built.ensures
