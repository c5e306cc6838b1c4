use Rattle.oat_grammar.proofs.TextsRead.{text_read}
use Rattle.oat_grammar.proofs.TextsSaid.{is_text}
use Rattle.oat_grammar.proofs.laws.texts_are_read.Goals as goal

pub returns : goal.returns
returns c = record { read = λ ts tree d. text_read d; text = is_text }
