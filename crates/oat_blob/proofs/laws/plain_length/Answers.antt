use Rattle.oat_blob.proofs.Plain as plain
use Rattle.oat_blob.proofs.laws.plain_length.Goals as goal

pub returns : goal.returns
returns c = plain.plain_length
