use Rattle.std.proofs.Common.{◌≡◌, drop}
use Rattle.oat_script.specs.Reading.{is_new}
use Rattle.oat_script.proofs.draft.is_new.Given as goal

abbrev pub invariant-loop-device : goal.invariant-loop-device
invariant-loop-device l = is_new (drop l.device-index l.devices) l.id ≡ is_new l.devices l.id
