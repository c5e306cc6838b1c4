use Rattle.oat_shape.proofs.Laid.{laid}
use Rattle.oat_shape.proofs.laws.shaped_images_are_laid.Goals as goal

pub returns : goal.returns
returns c = laid
