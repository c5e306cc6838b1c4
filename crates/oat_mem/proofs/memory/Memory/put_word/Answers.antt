use Rattle.oat_mem.specs.DataMemory.{with_word}
use Rattle.oat_mem.proofs.Parts.{global_word-fits}
use Rattle.oat_mem.proofs.memory.Memory.put_word.Goals as goal

pub poke-requires : goal.poke-requires
poke-requires c = rw (c.to_le_bytes.ensures, c.from.ensures) (global_word-fits c.args.index c.requires)

pub returns : goal.returns
unfolding with_word
returns c = rw (← c.to_le_bytes.ensures, ← c.from.ensures) c.poke.ensures
