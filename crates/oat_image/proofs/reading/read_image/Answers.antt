use Rattle.oat_image.proofs.Images.{is_found, is_only}
use Rattle.oat_image.proofs.reading.read_image.Goals as goal

pub returns-clause-found : goal.returns-clause-found
returns-clause-found c = is_found c.args.text.now c.read_whole.result c.read_whole.ensures

pub returns-clause-only : goal.returns-clause-only
returns-clause-only c = λ image is. is_only c.args.text.now c.read_whole.result c.read_whole.ensures image is
