use Rattle.std.proofs.Common.{length}
use Rattle.oat_case.specs.Draft.{gathered}
use Rattle.oat_case.proofs.Loop.{Reads}
use Rattle.oat_case.proofs.reading.case_in.Given as goal

abbrev pub invariant-lines : goal.invariant-lines
invariant-lines l = Reads l.text l.rest l.number (gathered l.draft)

abbrev pub decreases-lines : goal.decreases-lines
decreases-lines l = length l.rest
