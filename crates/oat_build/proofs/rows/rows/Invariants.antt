use Rattle.std.proofs.Common.{◌≡◌, take, map}
use Rattle.oat_match.specs.{NoteAt, row_of}
use Rattle.oat_build.specs.Addresses.{address_in}
use Rattle.oat_build.proofs.rows.rows.Given as goal

abbrev pub invariant-loop-entry : goal.invariant-loop-entry
invariant-loop-entry l = l.rows.items ≡ map (λ (entry : NoteAt). row_of (address_in l.addresses) entry.at entry.note) (take l.entry-index l.notes)
