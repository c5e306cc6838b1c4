use Rattle.oat_parts.proofs.Making.{join}
use Rattle.oat_parts.proofs.laws.parts_join.Goals as goal

pub returns : goal.returns
returns c = join
