use Rattle.oat_gen.proofs.Words.{programs_have_few_words}
use Rattle.oat_gen.proofs.laws.programs_have_few_words.Goals as goal

pub returns : goal.returns
returns c = programs_have_few_words c.codes_are_of_the_program.ensures c.functions_have_their_code.ensures
