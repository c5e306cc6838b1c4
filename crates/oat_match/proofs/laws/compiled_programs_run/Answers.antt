use Rattle.oat_match.proofs.Following.{compiled_programs_run}
use Rattle.oat_match.proofs.laws.compiled_programs_run.Goals as goal

pub returns : goal.returns
returns c = compiled_programs_run c.steps_are_matched.ensures c.starts_are_matched.ensures c.steps_take_edges.ensures c.cells_start_alike.ensures
