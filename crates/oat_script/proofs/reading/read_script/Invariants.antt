use Rattle.std.proofs.Common.{length}
use Rattle.oat_script.specs.Draft.{read_so_far}
use Rattle.oat_script.proofs.Loop.{Reads}
use Rattle.oat_script.proofs.reading.read_script.Given as goal

abbrev pub invariant-lines : goal.invariant-lines
invariant-lines l = Reads l.text l.rest l.number (read_so_far l.draft)

abbrev pub decreases-lines : goal.decreases-lines
decreases-lines l = length l.rest
