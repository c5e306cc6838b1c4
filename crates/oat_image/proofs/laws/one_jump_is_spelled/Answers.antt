use Rattle.oat_image.proofs.Examples.{one_jump_is}
use Rattle.oat_image.proofs.laws.one_jump_is_spelled.Goals as goal

pub returns : goal.returns
returns c = one_jump_is
