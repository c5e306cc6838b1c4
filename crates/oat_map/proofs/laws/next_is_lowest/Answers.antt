use Rattle.oat_map.proofs.RowLemmas.{next_lowest}
use Rattle.oat_map.proofs.laws.next_is_lowest.Goals as goal

pub returns : goal.returns
returns c = next_lowest
