use Rattle.oat_parts.proofs.Building.{built_items_stand}
use Rattle.oat_parts.proofs.laws.built_items_stand.Goals as goal

pub returns : goal.returns
returns c = built_items_stand c.fetches_by_the_table.ensures
