use Rattle.oat_gen.proofs.Building.{fitting_programs_are_built}
use Rattle.oat_gen.proofs.laws.fitting_programs_are_built.Goals as goal

pub returns : goal.returns
returns c = fitting_programs_are_built c.codes_are_of_the_program.ensures c.functions_have_their_code.ensures c.programs_are_built.ensures
