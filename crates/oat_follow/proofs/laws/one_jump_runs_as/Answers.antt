use Rattle.oat_follow.proofs.OneJump.{one_jump_runs_as}
use Rattle.oat_follow.proofs.laws.one_jump_runs_as.Goals as goal

pub returns : goal.returns
returns c = one_jump_runs_as
