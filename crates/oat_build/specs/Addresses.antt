-- The address of a label among those that are known.
use Rattle.std.specs.{Prelude.ℕ, Prelude.unwrap_or, Ordering.nat_cmp, BTreeMap.get}
use Rattle.oat_build.specs.declared.addresses.LabelAddresses.{LabelAddresses}

-- where it isn't known, the address behind all code
abbrev pub address_in : LabelAddresses → ℕ → ℕ
address_in addresses label = unwrap_or (get nat_cmp addresses.known label) addresses.end
