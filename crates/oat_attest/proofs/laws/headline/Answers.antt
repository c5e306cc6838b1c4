use Rattle.oat_attest.proofs.Headlines.{headline}
use Rattle.oat_attest.proofs.laws.headline.Goals as goal

pub returns : goal.returns
returns c = headline
