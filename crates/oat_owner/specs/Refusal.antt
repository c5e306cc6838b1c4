-- Why devices are no owner's (docs/DEFINITIONS.md, "Owner's replies").
use Rattle.std.specs.Prelude.{◌≡◌, List, Some, ⊤}
use Rattle.oat_owner.specs.{declared.device.Known.Known, declared.device.OwnerFault.OwnerFault, declared.device.OwnerFault.TheVariants.Twice, declared.device.OwnerFault.TheVariants.Memory}
use Rattle.oat_owner.specs.{Ledger.repeated_id}

abbrev pub IsOwnerFault : List Known → OwnerFault → Type 0
IsOwnerFault known (Twice id) = repeated_id known ≡ Some id
IsOwnerFault known Memory = ⊤
