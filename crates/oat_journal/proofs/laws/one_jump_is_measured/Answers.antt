use Rattle.oat_journal.proofs.OneJump.{one_jump_is_measured}
use Rattle.oat_journal.proofs.laws.one_jump_is_measured.Goals as goal

pub returns : goal.returns
returns c = one_jump_is_measured
