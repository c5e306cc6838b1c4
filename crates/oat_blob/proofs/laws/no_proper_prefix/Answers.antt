use Rattle.oat_blob.proofs.OneLayout as layout
use Rattle.oat_blob.proofs.laws.no_proper_prefix.Goals as goal

pub returns : goal.returns
returns c = layout.no_proper_prefix
