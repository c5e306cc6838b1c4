use Rattle.std.proofs.Common.{◌+◌, ◌++◌, [], ◌∷◌, List, ℕ, take, sym, ap, subst, ◌∙◌, arith}
use Rattle.std.specs.List.{AllZip}
use Rattle.oat_shown.specs.{bodies_so_far}
use Rattle.oat_room_device.specs.Device.{IsBlobUnder}
use Rattle.oat_room_device.proofs.Running.{blobs_up_to}
use Rattle.oat_room_device.proofs.device.blobs_of.Goals as goal

pub loop-serial-preserved : goal.loop-serial-preserved
loop-serial-preserved c =
    let device = c.args.device.now in
    let bodies = bodies_so_far device in
    let serial = c.loop-serial.serial in
    let inv = c.loop-serial.invariant in
    let below = c.loop-serial-test.true in
    let count = c.bodies-count.ensures in
    let items = c.push_reserved.ensures.items ∙ ap (λ (bytes : List ℕ). c.loop-serial.blobs.items ++ bytes ∷ []) c.from_vec.ensures in
    let len = c.push_reserved.ensures.len in
    let counted = inv.counted in
    let capacity = c.push_reserved.ensures.capacity in
    let room = inv.room in record {
      all =
          subst (λ (blobs : List (List ℕ)). AllZip (IsBlobUnder device.case.session.key) (take (serial + 1) bodies) blobs) (sym items)
          (blobs_up_to device.case.session.key bodies c.loop-serial.blobs.items serial c.in_ok-blob.field-0.items (omega (arith, below, count)) inv.all c.in_ok-blob.ensures);
      counted = omega (arith, len, counted);
      room = omega (arith, capacity, room);
    }
