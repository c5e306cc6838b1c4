use Rattle.oat_asm.proofs.LayoutLaws.{word_at_place}
use Rattle.oat_asm.proofs.laws.words_stand_at_their_places.Goals as goal

pub returns : goal.returns
returns c = word_at_place
