use Rattle.oat_image.proofs.Images.{image_takes, image_reads}
use Rattle.oat_image.proofs.laws.grammar.Goals as goal

pub returns : goal.returns
returns c = λ text image. (image_takes text image, image_reads text image)
