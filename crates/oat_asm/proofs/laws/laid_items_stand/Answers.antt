use Rattle.oat_asm.proofs.StandingItems.{laid_items_stand}
use Rattle.oat_asm.proofs.laws.laid_items_stand.Goals as goal

pub returns : goal.returns
returns c = laid_items_stand c.fetches_by_the_table.ensures
