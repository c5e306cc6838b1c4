use Rattle.oat_shape.specs.{MapRules.S2, MapRules.S4, Shape.S1, Shape.S3}
use Rattle.oat_shape.proofs.BrokenRules.{here, later, others_decide}
use Rattle.oat_shape.proofs.rules.first_broken.Goals as goal

pub returns-in-Some-s2 : goal.returns-in-Some-s2
returns-in-Some-s2 c =
    let i = c.args.image.now in
    later (S1 i) 1 _ _ c.in-None.ensures (here (S2 i.map) 2 _ _ c.in-Some-s2.ensures)

pub returns-in-Some-s3 : goal.returns-in-Some-s3
returns-in-Some-s3 c =
    let i = c.args.image.now in
    later (S1 i) 1 _ _ c.in-None.ensures (later (S2 i.map) 2 _ _ c.in-None-s2.ensures (here (S3 i) 3 _ _ c.in-Some-s3.ensures))

pub returns-in-Some-2 : goal.returns-in-Some-2
returns-in-Some-2 c =
    let i = c.args.image.now in
    later (S1 i) 1 _ _ c.in-None.ensures
    (later (S2 i.map) 2 _ _ c.in-None-s2.ensures
    (later (S3 i) 3 _ _ c.in-None-s3.ensures
    (here (S4 i.map) 4 _ _ (rw c.in-Some-2.is at c.in_ok-at.ensures))))

pub returns : goal.returns
returns c =
    others_decide c.args.image.now c.later_broken.result c.in-None.ensures c.in-None-s2.ensures c.in-None-s3.ensures
    (rw c.in-None-2.is at c.in_ok-at.ensures) c.later_broken.ensures
