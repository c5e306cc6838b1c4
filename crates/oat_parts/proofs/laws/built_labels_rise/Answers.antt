use Rattle.oat_parts.proofs.Building.{built_labels_rise}
use Rattle.oat_parts.proofs.laws.built_labels_rise.Goals as goal

pub returns : goal.returns
returns c = built_labels_rise
