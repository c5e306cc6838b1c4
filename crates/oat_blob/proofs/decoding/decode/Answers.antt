use Rattle.oat_blob.proofs.OneLayout.{one_body}
use Rattle.oat_blob.proofs.decoding.decode.Goals as goal

pub returns-in-Ok-clause-only : goal.returns-in-Ok-clause-only
returns-in-Ok-clause-only c = λ body mac other. one_body c.args.bytes.now c.in-Ok.blob.body body c.in-Ok.blob.mac mac c.in-Ok.ensures.found other
