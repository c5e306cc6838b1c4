use Rattle.std.proofs.Common.{◌≡◌, take, drop}
use Rattle.oat_owner.specs.Ledger.{ids_of, repeated_behind, repeated_id}
use Rattle.oat_owner.proofs.device.ids_of.Given as goal

abbrev pub invariant-loop-device : goal.invariant-loop-device
invariant-loop-device l = record {
  so_far : l.ids.keys ≡ ids_of (take l.device-index l.known);
  rest : repeated_behind l.ids.keys (ids_of (drop l.device-index l.known)) ≡ repeated_id l.known;
}
