use Rattle.std.proofs.Common.{refl, sym}
use Rattle.oat_image.proofs.line.read_name.Goals as goal

pub returns-in-Some : goal.returns-in-Some
returns-in-Some c = rw (sym c.in-Some.ensures.read) refl

pub returns-in-None : goal.returns-in-None
returns-in-None c = rw (sym c.in-None.ensures.read) refl
