use Rattle.oat_asm.proofs.LayoutLaws.{addresses_put}
use Rattle.oat_asm.proofs.laws.addresses_are_put.Goals as goal

pub returns : goal.returns
returns c = addresses_put c.fetches_by_the_table.ensures
