use Rattle.oat_match.proofs.GoingBack.{compiled_windows_go_back}
use Rattle.oat_match.proofs.laws.compiled_windows_go_back.Goals as goal

pub returns : goal.returns
returns c = compiled_windows_go_back c.compiled_programs_mean.ensures c.steps_take_edges.ensures
