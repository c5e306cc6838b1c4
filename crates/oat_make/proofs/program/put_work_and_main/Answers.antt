use Rattle.std.specs.Fmt.{digits}
use Rattle.oat_make.proofs.program.put_work_and_main.Goals as goal

pub returns : goal.returns
unfolding digits
returns c = c.put.ensures
