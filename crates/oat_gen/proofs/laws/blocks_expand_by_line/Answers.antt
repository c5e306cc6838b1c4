use Rattle.oat_gen.proofs.Expanding.{blocks_expand_by_line}
use Rattle.oat_gen.proofs.laws.blocks_expand_by_line.Goals as goal

pub returns : goal.returns
returns c = blocks_expand_by_line
