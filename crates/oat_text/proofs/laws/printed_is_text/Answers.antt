use Rattle.oat_text.proofs.Programs.{printed}
use Rattle.oat_text.proofs.laws.printed_is_text.Goals as goal

pub returns : goal.returns
returns c = printed
