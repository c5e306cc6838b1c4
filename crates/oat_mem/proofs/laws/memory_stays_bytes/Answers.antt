use Rattle.oat_mem.proofs.Words.{memory_stays_bytes}
use Rattle.oat_mem.proofs.laws.memory_stays_bytes.Goals as goal

pub returns : goal.returns
returns c = memory_stays_bytes
