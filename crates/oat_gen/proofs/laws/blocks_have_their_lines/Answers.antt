use Rattle.oat_gen.proofs.Expanding.{blocks_have_their_lines}
use Rattle.oat_gen.proofs.laws.blocks_have_their_lines.Goals as goal

pub returns : goal.returns
returns c = blocks_have_their_lines
