use Rattle.oat_frames.proofs.Blocks.{words-add-up}
use Rattle.oat_frames.proofs.laws.words_add_up.Goals as goal

pub returns : goal.returns
returns c = words-add-up
