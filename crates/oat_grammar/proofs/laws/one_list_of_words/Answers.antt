use Rattle.oat_grammar.proofs.Spotted.{is_spotted, scanned}
use Rattle.oat_grammar.proofs.laws.one_list_of_words.Goals as goal

pub returns : goal.returns
returns c = record { words = is_spotted; one = λ text ss d. scanned d }
