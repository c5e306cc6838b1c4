use Rattle.oat_locals.proofs.Plain.{input-ends-trap}
use Rattle.oat_locals.proofs.laws.input_ends_trap.Goals as goal

pub returns : goal.returns
returns c = input-ends-trap
