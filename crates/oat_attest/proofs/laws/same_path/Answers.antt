use Rattle.oat_attest.proofs.Joining.{same_path}
use Rattle.oat_attest.proofs.laws.same_path.Goals as goal

pub returns : goal.returns
returns c = same_path
