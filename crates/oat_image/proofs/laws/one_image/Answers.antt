use Rattle.oat_image.proofs.Images.{one_of_text}
use Rattle.oat_image.proofs.laws.one_image.Goals as goal

pub returns : goal.returns
returns c = one_of_text
