use Rattle.oat_case.proofs.Law.{stands, is_read}
use Rattle.oat_case.proofs.laws.grammar.Goals as goal

pub returns : goal.returns
returns c = λ text case. (stands text case, is_read text case)
