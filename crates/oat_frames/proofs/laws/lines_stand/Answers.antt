use Rattle.oat_frames.proofs.Blocks.{lines-stand}
use Rattle.oat_frames.proofs.laws.lines_stand.Goals as goal

pub returns : goal.returns
returns c = lines-stand
