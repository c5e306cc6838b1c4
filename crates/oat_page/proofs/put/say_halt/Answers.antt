use Rattle.std.proofs.Common.{refl}
use Rattle.oat_page.specs.{Outcome.says, Texts.starved, Shows.ended, Shows.at_once}
use Rattle.oat_page.proofs.{Putting.Adds-nothing, Showing.Shows-said}
use Rattle.oat_page.proofs.put.say_halt.Goals as goal

pub returns-in-ReadFault-clause-shows : goal.returns-in-ReadFault-clause-shows
returns-in-ReadFault-clause-shows g c = λ out faults.
    rw c.in-ReadFault.is (Shows-said _ (says 4 c.in-ReadFault.line.items) _ _ _ (ended refl) (Adds-nothing _) (rw c.as_slice.ensures.value at c.say.ensures.says))

pub returns-in-Refused-clause-shows : goal.returns-in-Refused-clause-shows
returns-in-Refused-clause-shows g c = λ out faults.
    rw c.in-Refused.is (Shows-said _ (says 2 c.in-Refused.line.items) _ _ _ (ended refl) (Adds-nothing _) (rw c.as_slice-in-Refused.ensures.value at c.say-in-Refused.ensures.says))

pub returns-in-Starved-clause-shows : goal.returns-in-Starved-clause-shows
returns-in-Starved-clause-shows g c = λ out faults. Shows-said _ starved _ _ _ (at_once refl) (Adds-nothing _) c.say_starved.ensures.says
