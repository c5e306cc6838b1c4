use Rattle.oat_blob.proofs.OneLayout as layout
use Rattle.oat_blob.proofs.laws.one_body.Goals as goal

pub returns : goal.returns
returns c = layout.one_body
