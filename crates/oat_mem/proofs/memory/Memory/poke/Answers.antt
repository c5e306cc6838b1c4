use Rattle.std.proofs.Common.{length, arith, ap, ◌∙◌}
use Rattle.std.proofs.lemmas.List.{with_items_is}
use Rattle.oat_mem.proofs.Parts.{write_globals, write_stack, fits_else}
use Rattle.oat_mem.proofs.memory.Memory.poke.Goals as goal

pub overflow_sub-address : goal.overflow_sub-address
overflow_sub-address c = (fits_else c.args.address (length c.args.bytes.now) c.requires c.in-None.ensures).0

pub write_at-requires-in-None : goal.write_at-requires-in-None
write_at-requires-in-None c =
    let bounds = fits_else c.args.address (length c.args.bytes.now) c.requires c.in-None.ensures in
    omega (arith, ap (length) c.deref_mut-in-None.ensures.value)

pub returns-in-Some : goal.returns-in-Some
returns-in-Some c =
    rw (← c.self.view_is, with_items_is c.self.inside.globals c.write_at.new.buffer (c.write_at.auto.buffer ∙ c.deref_mut.ensures.len), c.write_at.ensures, c.deref_mut.ensures.value, c.in-Some.ensures.1)
    (write_globals c.self.inside.globals.items c.self.inside.stack.items c.args.bytes.now c.args.address c.self.invariant.0 c.in-Some.ensures.0)

pub returns-in-None : goal.returns-in-None
returns-in-None c =
    let bounds = fits_else c.args.address (length c.args.bytes.now) c.requires c.in-None.ensures in
    rw (← c.self.view_is, with_items_is c.self.inside.stack c.write_at-in-None.new.buffer (c.write_at-in-None.auto.buffer ∙ c.deref_mut-in-None.ensures.len), c.write_at-in-None.ensures, c.deref_mut-in-None.ensures.value)
    (write_stack c.self.inside.globals.items c.self.inside.stack.items c.args.bytes.now c.args.address c.self.invariant.1 bounds.0 bounds.1)
