use Rattle.oat_check.proofs.Worked.{attested_loop_is_shown}
use Rattle.oat_check.proofs.laws.attested_loop_is_shown.Goals as goal

pub returns : goal.returns
returns c = attested_loop_is_shown
