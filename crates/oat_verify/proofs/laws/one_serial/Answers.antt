use Rattle.oat_verify.proofs.OneVerdict as lemmas
use Rattle.oat_verify.proofs.laws.one_serial.Goals as goal

pub returns : goal.returns
returns c = lemmas.one_serial
