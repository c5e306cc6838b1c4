use Rattle.oat_programs.proofs.Programming.{keeps_or_refuses}
use Rattle.oat_programs.proofs.programs.checked_of.Goals as goal

pub returns : goal.returns
returns c = keeps_or_refuses c.args.file.now c.in_ok-program.program _ c.checked_in.result c.in_ok-program.ensures c.checked_in.ensures
