use Rattle.oat_gen.proofs.Sparing.{programs_spare_stack}
use Rattle.oat_gen.proofs.laws.programs_spare_stack.Goals as goal

pub returns : goal.returns
returns c = programs_spare_stack
