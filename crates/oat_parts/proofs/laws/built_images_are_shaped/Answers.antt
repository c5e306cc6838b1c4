use Rattle.oat_parts.proofs.Building.{built_images_are_shaped}
use Rattle.oat_parts.proofs.laws.built_images_are_shaped.Goals as goal

pub returns : goal.returns
returns c = built_images_are_shaped c.fetches_by_the_table.ensures
