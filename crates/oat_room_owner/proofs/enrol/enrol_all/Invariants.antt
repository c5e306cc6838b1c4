use Rattle.std.proofs.Common.{◌≡◌, ◌≤◌, map, take, Some}
use Rattle.oat_owner.specs.Ledger.{ids_of}
use Rattle.oat_shown.specs.{Contents}
use Rattle.oat_room_owner.specs.Owner.{AreEnrolled}
use Rattle.oat_room_owner.proofs.enrol.enrol_all.Given as goal

abbrev pub invariant-loop-device : goal.invariant-loop-device
invariant-loop-device g l = record {
  same : g.F.Files.told l.files ≡ g.F.Files.told l.initial.files;
  faults_stay : g.F.Files.faults l.initial.files ≤ g.F.Files.faults l.files;
  ids : ids_of l.known.items ≡ map (λ device. device.id) (take l.device-index l.devices);
  enrolled : (contents : Contents) → g.F.Files.told l.initial.files ≡ Some contents → AreEnrolled contents (take l.device-index l.devices) l.known.items;
}
