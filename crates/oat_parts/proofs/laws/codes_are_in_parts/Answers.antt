use Rattle.oat_parts.proofs.Making.{codes_are_in_parts}
use Rattle.oat_parts.proofs.laws.codes_are_in_parts.Goals as goal

pub returns : goal.returns
returns c = codes_are_in_parts
