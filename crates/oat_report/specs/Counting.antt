-- The rows that are numbered before an address, by the place that is the greatest at or below it: a row has that place where it stands at or above it (docs/FORMATS.md).
use Rattle.std.specs.Prelude.{ℕ, Bool, true, ◌&&◌, Option, None, Some, nat_le, nat_lt}
use Rattle.oat_verify.specs.{Row, address_of, is_numbered}

-- the place isn't above the address
abbrev pub is_not_above : Option ℕ → ℕ → Bool
is_not_above None address = true
is_not_above (Some place) address = nat_le place address

abbrev pub is_counted : Option ℕ → ℕ → Row → Bool
is_counted place address row = is_numbered row && nat_lt (address_of row) address && is_not_above place (address_of row)
