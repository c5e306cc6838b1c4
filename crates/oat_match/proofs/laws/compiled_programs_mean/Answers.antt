use Rattle.oat_match.proofs.Following.{compiled_programs_mean}
use Rattle.oat_match.proofs.laws.compiled_programs_mean.Goals as goal

pub returns : goal.returns
returns c = compiled_programs_mean c.compiled_programs_run.ensures
