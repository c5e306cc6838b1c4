use Rattle.oat_asm.proofs.Standing.{groups_of_rows}
use Rattle.oat_asm.proofs.laws.groups_are_those_of_rows.Goals as goal

pub returns : goal.returns
returns c = groups_of_rows
