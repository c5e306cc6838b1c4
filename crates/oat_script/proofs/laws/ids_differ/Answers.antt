use Rattle.oat_script.proofs.Ids.{ids_differ}
use Rattle.oat_script.proofs.laws.ids_differ.Goals as goal

pub returns : goal.returns
returns c = ids_differ
