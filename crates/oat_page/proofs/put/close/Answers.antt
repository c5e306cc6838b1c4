use Rattle.std.proofs.Common.{◌∙◌, refl, sym, subst, Err}
use Rattle.oat_world.specs.declared.sink.SinkFault.{SinkFault}
use Rattle.oat_page.specs.{Texts.starved, Answer.shows, Answer.as_outcome, Puts.PutsAll, Shows.ended, Shows.behind}
use Rattle.oat_page.proofs.Showing.{Shows-said, Shows-cut}
use Rattle.oat_page.proofs.put.close.Goals as goal

pub returns-in_default-clause-shows : goal.returns-in_default-clause-shows
returns-in_default-clause-shows g c = λ text out puts.
    let whole = subst (PutsAll text out) c.in_default.is puts in
    Shows-said _ (as_outcome (shows c.args.ended text c.args.said.now)) out _ _ (ended refl) whole.1 (rw c.status.ensures at c.say.ensures.says)

pub returns-in-Failed-clause-shows : goal.returns-in-Failed-clause-shows
returns-in-Failed-clause-shows g c = λ text out puts.
    let front = subst (λ (fault : SinkFault). PutsAll text out (Err fault)) c.in-Failed.is (subst (PutsAll text out) c.in-Err.is puts) in
    Shows-cut _ (as_outcome (shows c.args.ended text c.args.said.now)) out _ _ _ (ended refl) front.0 front.1

pub returns-in-Memory-clause-shows : goal.returns-in-Memory-clause-shows
returns-in-Memory-clause-shows g c = λ text out puts.
    let front = (subst (λ (fault : SinkFault). PutsAll text out (Err fault)) c.in-Memory.is (subst (PutsAll text out) c.in-Err.is puts)).1 in
    Shows-said _ (record { status = 6; out = front.0; err = starved.err }) out _ _
    (behind (as_outcome (shows c.args.ended text c.args.said.now)) refl front.1 refl refl)
    front.2 c.say_starved.ensures.says

pub returns-in_default-clause-stopped : goal.returns-in_default-clause-stopped
returns-in_default-clause-stopped g c = λ fault o out failed puts. absurd (let bad = sym c.in_default.is ∙ failed in cc)

pub returns-in-Failed-clause-stopped : goal.returns-in-Failed-clause-stopped
returns-in-Failed-clause-stopped g c = λ fault o out failed puts.
    let front = subst (λ (fault : SinkFault). PutsAll o.out out (Err fault)) c.in-Failed.is (subst (PutsAll o.out out) c.in-Err.is puts) in
    Shows-cut _ o out _ _ _ (ended refl) front.0 front.1

pub returns-in-Memory-clause-stopped : goal.returns-in-Memory-clause-stopped
returns-in-Memory-clause-stopped g c = λ fault o out failed puts.
    let front = (subst (λ (fault : SinkFault). PutsAll o.out out (Err fault)) c.in-Memory.is (subst (PutsAll o.out out) c.in-Err.is puts)).1 in
    Shows-said _ (record { status = 6; out = front.0; err = starved.err }) out _ _ (behind o refl front.1 refl refl) front.2 c.say_starved.ensures.says
