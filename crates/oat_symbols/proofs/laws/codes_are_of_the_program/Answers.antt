use Rattle.oat_symbols.proofs.Codes.{codes_are_of_the_program}
use Rattle.oat_symbols.proofs.laws.codes_are_of_the_program.Goals as goal

pub returns : goal.returns
returns c = codes_are_of_the_program
