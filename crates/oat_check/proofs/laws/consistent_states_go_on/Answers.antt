use Rattle.oat_check.proofs.Lines.{consistent_states_go_on}
use Rattle.oat_check.proofs.laws.consistent_states_go_on.Goals as goal

pub returns : goal.returns
returns c = consistent_states_go_on
