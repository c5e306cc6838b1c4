use Rattle.oat_attest.proofs.Running.{sound_runs_are_accepted}
use Rattle.oat_attest.proofs.laws.sound_runs_are_accepted.Goals as goal

pub returns : goal.returns
returns c = sound_runs_are_accepted
