use Rattle.oat_asm.proofs.LayoutLaws.{label_placed}
use Rattle.oat_asm.proofs.laws.labels_have_the_places_of_their_items.Goals as goal

pub returns : goal.returns
returns c = label_placed
