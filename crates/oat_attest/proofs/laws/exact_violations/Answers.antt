use Rattle.oat_journal.specs.Measured.{opening_of}
use Rattle.oat_journal.proofs.RunLaws.{bodies_tell_windows}
use Rattle.oat_attest.proofs.laws.exact_violations.Goals as goal

pub returns : goal.returns
returns c = λ image session begin_at inputs writes n s body has. (bodies_tell_windows image (opening_of image session begin_at) inputs writes n s body has).violation
