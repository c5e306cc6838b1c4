use Rattle.oat_asm.proofs.LayoutLaws.{instructions_stand}
use Rattle.oat_asm.proofs.laws.instructions_stand_at_their_addresses.Goals as goal

pub returns : goal.returns
returns c = instructions_stand c.fetches_by_the_table.ensures
