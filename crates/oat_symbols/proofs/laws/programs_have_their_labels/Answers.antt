use Rattle.oat_symbols.proofs.Programs.{programs_have_their_labels}
use Rattle.oat_symbols.proofs.laws.programs_have_their_labels.Goals as goal

pub returns : goal.returns
returns c = programs_have_their_labels
