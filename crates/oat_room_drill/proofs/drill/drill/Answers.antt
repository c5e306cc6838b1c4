use Rattle.oat_room_drill.proofs.Making.{one_drill}
use Rattle.oat_room_drill.proofs.drill.drill.Goals as goal

pub returns : goal.returns
returns c = one_drill c.args.numbers.now _ c.requires c.in_ok-page.ensures
