use Rattle.std.proofs.Common.{arith, ap, length, sym}
use Rattle.oat_mem.proofs.Parts.{can_access-fits, fits_else, read_globals, read_stack}
use Rattle.oat_mem.proofs.memory.Memory.read8.Goals as goal

pub overflow_sub-address : goal.overflow_sub-address
overflow_sub-address c =
    (fits_else c.args.address 8 (can_access-fits c.args.address (sym c.if-not-can_access.ensures)) c.in-None.ensures).0

pub word_at-requires-in-None : goal.word_at-requires-in-None
word_at-requires-in-None c =
    let bounds = fits_else c.args.address 8 (can_access-fits c.args.address (sym c.if-not-can_access.ensures)) c.in-None.ensures in
    omega (arith, ap (length) c.deref-in-None.ensures.value)

pub returns-in-Some : goal.returns-in-Some
returns-in-Some c =
    let read = read_globals c.self.inside.globals.items c.self.inside.stack.items c.args.address c.in-Some.ensures.0 in
    (sym c.if-not-can_access.ensures, rw (c.word_at.ensures, c.deref.ensures.value, c.in-Some.ensures.1, ← c.self.view_is) read)

pub returns-in-None : goal.returns-in-None
returns-in-None c =
    let bounds = fits_else c.args.address 8 (can_access-fits c.args.address (sym c.if-not-can_access.ensures)) c.in-None.ensures in
    let read = read_stack c.self.inside.globals.items c.self.inside.stack.items c.args.address bounds.0 bounds.1 in
    (sym c.if-not-can_access.ensures, rw (c.word_at-in-None.ensures, c.deref-in-None.ensures.value, ← c.self.view_is) read)
