use Rattle.oat_mem.proofs.Parts.{byte_at-zeros}
use Rattle.oat_mem.proofs.memory.Memory.zeroed.Goals as goal

pub returns : goal.returns
returns c = byte_at-zeros c.in_ok-globals.globals.items c.in_ok-stack.stack.items c.in_ok-globals.ensures.zero c.in_ok-stack.ensures.zero
