-- The whole run of a case.
use Rattle.std.proofs.Common.{sym, ap, subst, ◌∙◌}
use Rattle.oat_journal.specs.{Case, BeginsAt, Measured.dev, Measured.opening_of}
use Rattle.oat_device.specs.DeviceRun.{DeviceRun, StepsMakeTheRun}

pub steps_make_the_run : StepsMakeTheRun
steps_make_the_run given asked old new start is =
    let image = ap (λ (d : DeviceRun). d.image) is ∙ start.image in
    let case = ap (λ (d : DeviceRun). d.case) is ∙ start.case in
    let turns = ap (λ (d : DeviceRun). d.turns) is ∙ ap (λ (c : Case). c.steps) start.case in
    record {
      begins = subst (BeginsAt given.map asked.session.op) (sym (ap (λ (d : DeviceRun). d.begin_at) is)) start.begins;
      opening = λ i. opening_of (image i) (case i).session new.begin_at;
      run = λ i. dev (image i) (opening_of (image i) (case i).session new.begin_at) (case i).inputs (case i).writes (turns i);
    }
