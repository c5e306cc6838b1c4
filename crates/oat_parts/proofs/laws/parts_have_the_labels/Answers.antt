use Rattle.oat_parts.proofs.Assembling.{parts_have_the_labels}
use Rattle.oat_parts.proofs.laws.parts_have_the_labels.Goals as goal

pub returns : goal.returns
returns c = parts_have_the_labels
