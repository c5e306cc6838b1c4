use Rattle.std.proofs.Common.{◌≡◌, ℕ, drop, None}
use Rattle.std.specs.{Ordering.nat_cmp, BTreeMap.get}
use Rattle.oat_build.proofs.Labels.{last_known}
use Rattle.oat_build.proofs.addresses.LabelAddresses.new.Given as goal

-- the entries that are left lead to what all of them do
abbrev pub invariant-loop-entry : goal.invariant-loop-entry
invariant-loop-entry l = (label : ℕ) → last_known label (drop l.entry-index l.entry-items) (get nat_cmp l.known label) ≡ last_known label l.entry-items None
