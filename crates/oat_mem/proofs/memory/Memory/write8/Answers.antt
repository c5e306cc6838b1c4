use Rattle.std.proofs.Common.{sym}
use Rattle.oat_mem.specs.DataMemory.{with_word}
use Rattle.oat_mem.proofs.Parts.{can_access-fits}
use Rattle.oat_mem.proofs.memory.Memory.write8.Goals as goal

pub poke-requires : goal.poke-requires
poke-requires c = rw c.to_le_bytes.ensures (can_access-fits c.args.address (sym c.if-not-can_access.ensures))

pub returns-clause-written : goal.returns-clause-written
unfolding with_word
returns-clause-written c = rw (← c.to_le_bytes.ensures) c.poke.ensures
