use Rattle.oat_room_drill.proofs.Drilling.{drills_have_operation}
use Rattle.oat_room_drill.proofs.laws.operations.Goals as goal

pub returns : goal.returns
returns c = drills_have_operation c.drills_can_be_attested.ensures
