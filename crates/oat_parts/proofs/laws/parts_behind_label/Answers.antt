use Rattle.oat_parts.proofs.Making.{behind_label}
use Rattle.oat_parts.proofs.laws.parts_behind_label.Goals as goal

pub returns : goal.returns
returns c = behind_label
