use Rattle.oat_text.proofs.ReadTexts.{read_is_text}
use Rattle.oat_text.proofs.laws.read_is_text.Goals as goal

pub returns : goal.returns
returns c = read_is_text
