use Rattle.oat_shape.specs.{MapRules.S7, MapRules.S8, Shape.S5, Shape.S6}
use Rattle.oat_shape.proofs.BrokenRules.{here, later}
use Rattle.oat_shape.proofs.rules.later_broken.Goals as goal

pub returns-in-Some-2 : goal.returns-in-Some-2
returns-in-Some-2 c =
    let i = c.args.image.now in
    later (S5 i) 5 _ _ (rw c.in-None.is at c.in_ok-at.ensures)
    (here (S6 i) 6 _ _ (rw c.in-Some-2.is at c.in_ok-at-2.ensures))

pub returns-in-Some-3 : goal.returns-in-Some-3
returns-in-Some-3 c =
    let i = c.args.image.now in
    later (S5 i) 5 _ _ (rw c.in-None.is at c.in_ok-at.ensures)
    (later (S6 i) 6 _ _ (rw c.in-None-2.is at c.in_ok-at-2.ensures)
    (here (S7 i.map) 7 _ _ (rw c.in-Some-3.is at c.in_ok-at-3.ensures)))

pub returns-in-Some-4 : goal.returns-in-Some-4
returns-in-Some-4 c =
    let i = c.args.image.now in
    later (S5 i) 5 _ _ (rw c.in-None.is at c.in_ok-at.ensures)
    (later (S6 i) 6 _ _ (rw c.in-None-2.is at c.in_ok-at-2.ensures)
    (later (S7 i.map) 7 _ _ (rw c.in-None-3.is at c.in_ok-at-3.ensures)
    (here (S8 i.map) 8 _ _ (rw c.in-Some-4.is at c.in_ok-at-4.ensures))))
