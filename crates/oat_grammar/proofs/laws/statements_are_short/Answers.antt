use Rattle.oat_grammar.proofs.ShortStmts.{text_short}
use Rattle.oat_grammar.proofs.StayingShort.{text_stays}
use Rattle.oat_grammar.proofs.laws.statements_are_short.Goals as goal

pub returns : goal.returns
returns c = record { short = λ ts tree d. text_short d; stays = λ ts tree d. text_stays d }
