use Rattle.oat_tool.proofs.VerifySaying as room
use Rattle.oat_tool.proofs.laws.verify.one_verification.Goals as goal

pub returns : goal.returns
returns c = room.one_verification
