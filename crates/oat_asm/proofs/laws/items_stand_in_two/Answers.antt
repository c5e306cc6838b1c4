use Rattle.oat_asm.proofs.StandingItems.{stand_in_two}
use Rattle.oat_asm.proofs.laws.items_stand_in_two.Goals as goal

pub returns : goal.returns
returns c = stand_in_two
