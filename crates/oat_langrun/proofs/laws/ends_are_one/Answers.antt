use Rattle.oat_langrun.proofs.Runs.{ends_are_one}
use Rattle.oat_langrun.proofs.laws.ends_are_one.Goals as goal

pub returns : goal.returns
returns c = ends_are_one
