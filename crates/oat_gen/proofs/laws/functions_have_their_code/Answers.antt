use Rattle.oat_gen.proofs.FunctionParts.{functions_have_their_code}
use Rattle.oat_gen.proofs.laws.functions_have_their_code.Goals as goal

pub returns : goal.returns
returns c = functions_have_their_code c.programs_have_their_labels.ensures c.programs_have_their_cells.ensures c.words_are_few.ensures
