use Rattle.oat_text.proofs.ReadBack.{printed_back}
use Rattle.oat_text.proofs.laws.printed_is_read.Goals as goal

pub returns : goal.returns
returns c = printed_back
