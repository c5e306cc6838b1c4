use Rattle.oat_asm.proofs.LayoutLaws.{branches_reach}
use Rattle.oat_asm.proofs.laws.branches_reach_places.Goals as goal

pub returns : goal.returns
returns c = branches_reach
