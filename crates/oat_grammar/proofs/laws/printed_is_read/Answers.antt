use Rattle.oat_grammar.proofs.Printed.{text_printed}
use Rattle.oat_grammar.proofs.Spelled.{spelled}
use Rattle.oat_grammar.proofs.laws.printed_is_read.Goals as goal

pub returns : goal.returns
returns c = record { printed = λ ts tree d. text_printed d; spelled = spelled }
