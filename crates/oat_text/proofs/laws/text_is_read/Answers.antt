use Rattle.oat_text.proofs.ReadBack.{text_read}
use Rattle.oat_text.proofs.laws.text_is_read.Goals as goal

pub returns : goal.returns
returns c = text_read
