use Rattle.oat_follow.proofs.Sounding.{ordered_uses_are_sound}
use Rattle.oat_follow.proofs.laws.ordered_uses_are_sound.Goals as goal

pub returns : goal.returns
returns c = ordered_uses_are_sound
