use Rattle.std.proofs.Common.{◌-◌, refl, inl, arith}
use Rattle.oat_device.specs.{Bare.running_of, Records.bits_taken, Records.targets_taken, Standing.shelf_bits, Standing.shelf_targets, Standing.spare_bits, Standing.spare_targets}
use Rattle.oat_device.proofs.Rooms.{Takes, room-for, turn-takes, ready-next}
use Rattle.oat_device.proofs.course.Course.turn.Goals as goal

takes : (c : goal.After-tell-arg-1) → Takes c.args.self.now.bare.code.now 3 c.args.self.now.bare.cpu.pc c.turn-event.new.self.cpu.pc (bits_taken c.in-Some.call)
    × Takes c.args.self.now.bare.code.now 4 c.args.self.now.bare.cpu.pc c.turn-event.new.self.cpu.pc (targets_taken c.in-Some.call)
takes c =
    let bare = c.args.self.now.bare in
    turn-takes bare.code.now bare.writes.now (running_of bare) (running_of c.turn-event.new.self) c.turn-event.result c.in-Some.call
    c.requires.going c.turn-event.ensures.event c.in-Some.ensures c.turn-event.ensures.after

pub tell-requires-clause-bits : goal.tell-requires-clause-bits
tell-requires-clause-bits c =
    let now = c.args.self.now in
    let left = c.requires.left in
    room-for now.bare.code.now 3 (now.steps - now.bare.made) (spare_bits now.engine) now.bare.cpu.pc c.turn-event.new.self.cpu.pc (bits_taken c.in-Some.call)
    c.requires.ready.bits (omega (arith, left)) (takes c).0

pub tell-requires-clause-targets : goal.tell-requires-clause-targets
tell-requires-clause-targets c =
    let now = c.args.self.now in
    let left = c.requires.left in
    room-for now.bare.code.now 4 (now.steps - now.bare.made) (spare_targets now.engine) now.bare.cpu.pc c.turn-event.new.self.cpu.pc (targets_taken c.in-Some.call)
    c.requires.ready.targets (omega (arith, left)) (takes c).1

pub tell-requires-clause-bits_to_shelve : goal.tell-requires-clause-bits_to_shelve
tell-requires-clause-bits_to_shelve c =
    let now = c.args.self.now in
    let left = c.requires.left in
    room-for now.bare.code.now 3 (now.steps - now.bare.made) (shelf_bits now) now.bare.cpu.pc c.turn-event.new.self.cpu.pc (bits_taken c.in-Some.call)
    c.requires.ready.bits_to_shelve (omega (arith, left)) (takes c).0

pub tell-requires-clause-targets_to_shelve : goal.tell-requires-clause-targets_to_shelve
tell-requires-clause-targets_to_shelve c =
    let now = c.args.self.now in
    let left = c.requires.left in
    room-for now.bare.code.now 4 (now.steps - now.bare.made) (shelf_targets now) now.bare.cpu.pc c.turn-event.new.self.cpu.pc (targets_taken c.in-Some.call)
    c.requires.ready.targets_to_shelve (omega (arith, left)) (takes c).1

pub returns-in-Some-clause-ready : goal.returns-in-Some-clause-ready
returns-in-Some-clause-ready c =
    let t = c.turn-event.ensures in
    let bare = c.args.self.now.bare in
    let both = turn-takes bare.code.now bare.writes.now (running_of bare) (running_of c.turn-event.new.self) c.turn-event.result c.in-Some.call
    c.requires.going t.event c.in-Some.ensures t.after in
    let leaves = c.tell.ensures.room in
    ready-next c.args.self.now c.tell.new.self c.turn-event.new.self (bits_taken c.in-Some.call) (targets_taken c.in-Some.call) c.requires.ready c.requires.left
    (record { code = t.code; made = t.made; outputs = t.outputs; capacity = t.capacity; fit = t.fit; rise = t.rise })
    c.tell.ensures.bare c.tell.ensures.steps c.tell.ensures.opening both.0 both.1
    (record { window = leaves.window; bits = leaves.bits; targets = leaves.targets; shelf = leaves.shelf; bits_to_shelve = leaves.bits_to_shelve; targets_to_shelve = leaves.targets_to_shelve })

pub returns-in_default-clause-ready : goal.returns-in_default-clause-ready
returns-in_default-clause-ready c =
    let t = c.turn-event.ensures in
    let now = c.args.self.now in
    let room = c.requires.ready.shelf in
    ready-next now (record { bare = c.turn-event.new.self; steps = now.steps; engine = now.engine; shelf = now.shelf }) c.turn-event.new.self 0 0 c.requires.ready c.requires.left
    (record { code = t.code; made = t.made; outputs = t.outputs; capacity = t.capacity; fit = t.fit; rise = t.rise })
    refl refl refl (inl refl) (inl refl) (record {
      window = refl;
      bits = inl (omega arith);
      targets = inl (omega arith);
      shelf = record { bits = room.bits; targets = room.targets; bodies = room.bodies; few = room.few };
      bits_to_shelve = omega arith;
      targets_to_shelve = omega arith;
    })
