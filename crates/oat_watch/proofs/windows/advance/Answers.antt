use Rattle.std.proofs.lemmas.Result.{on_ok_weaker}
use Rattle.oat_device.specs.DeviceRun.{run_so_far, window_opening}
use Rattle.oat_watch.proofs.Whole.{goes, with-entry, without-entry}
use Rattle.oat_watch.proofs.windows.advance.Goals as goal

pub returns-in-Some-clause-collected : goal.returns-in-Some-clause-collected
returns-in-Some-clause-collected c =
    let image = c.args.image.now in
    let old = c.args.device.now in
    let new = c.advance.new.self in
    let h = c.in-Some.ensures.answers in
    on_ok_weaker c.take.result
    (λ more made collected.
    let g = goes image old c.args.collection.now made collected c.requires.goes_on in
    with-entry image old new c.advance.ensures.same made c.args.collection.now c.take.new.self c.in-Some.entry collected c.requires.goes_on h
    (more (window_opening old) (run_so_far old).measurements (run_so_far new).measurements (run_so_far old).journal h.entry h.shows c.requires.operation h.measured c.inside-was_inside.ensures c.inside.ensures g.collects))
    c.take.ensures.more

pub returns-in-None-clause-collected : goal.returns-in-None-clause-collected
returns-in-None-clause-collected c = λ made collected.
    without-entry c.args.image.now c.args.device.now c.advance.new.self c.advance.ensures.same made c.args.collection.now collected c.requires.goes_on c.in-None.ensures.answers
