use Rattle.oat_gen.proofs.Expanding.{marked_code_expands}
use Rattle.oat_gen.proofs.laws.marked_code_expands.Goals as goal

pub returns : goal.returns
returns c = marked_code_expands
