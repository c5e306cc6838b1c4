use Rattle.oat_check.proofs.Places.{faults_stand}
use Rattle.oat_check.proofs.laws.faults_stand.Goals as goal

pub returns : goal.returns
returns c = faults_stand
