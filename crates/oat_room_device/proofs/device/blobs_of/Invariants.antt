use Rattle.std.proofs.Common.{◌≡◌, ◌≤◌, take, vec_len, vec_capacity}
use Rattle.std.specs.List.{AllZip}
use Rattle.oat_shown.specs.{bodies_so_far}
use Rattle.oat_room_device.specs.Device.{IsBlobUnder}
use Rattle.oat_room_device.proofs.device.blobs_of.Given as goal

abbrev pub invariant-loop-serial : goal.invariant-loop-serial
invariant-loop-serial l = record {
  all : AllZip (IsBlobUnder l.device.case.session.key) (take l.serial (bodies_so_far l.device)) l.blobs.items;
  counted : vec_len l.blobs ≡ l.serial;
  room : l.count ≤ vec_capacity l.blobs;
}
