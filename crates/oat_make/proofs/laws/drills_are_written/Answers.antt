use Rattle.oat_make.proofs.Written.{drills_are_written}
use Rattle.oat_make.proofs.laws.drills_are_written.Goals as goal

pub returns : goal.returns
returns c = drills_are_written c.printed_is_text.ensures
