use Rattle.std.proofs.Common.{◌≡◌, Option, Some, sym, ap, subst, ◌∙◌}
use Rattle.oat_journal.specs.{Engine, measured_on, engine_shown, Progress.Progress, Progress.with_measurement}
use Rattle.oat_device.specs.{declared.course.Course.Course, Bare.running_of, Records.bits_taken, Records.targets_taken, Standing.LeavesRoom, Standing.engine_opening, Standing.progress_of}
use Rattle.oat_device.specs.{Telling.unnumbered}
use Rattle.oat_device.proofs.Telling.{told-fits, told-known, told-leaves, told-on}
use Rattle.oat_device.proofs.course.Course.tell.Goals as goal

pub settled-requires : goal.settled-requires
settled-requires c =
    let t = c.told-engine.ensures in
    let k = told-known c.args.self.now c.unwrap.result c.told-engine.result.0 c.told-engine.result.1 c.args.call (sym c.take.ensures.value ∙ c.unwrap.ensures) c.requires.shelf c.requires.bits_to_shelve c.requires.targets_to_shelve
    (record { opening = t.opening; room = t.room; bits = t.bits; targets = t.targets }) t.outcome c.in_default.is in
    record { fits = told-fits c.unwrap.result c.told-engine.result.0 c.args.self.now.shelf c.args.call k.has k.takes k.leaves }

pub returns-clause-after : goal.returns-clause-after
returns-clause-after c =
    let t = c.told-engine.ensures in
    let old = c.args.self.now in
    let k = told-known c.args.self.now c.unwrap.result c.told-engine.result.0 c.told-engine.result.1 c.args.call (sym c.take.ensures.value ∙ c.unwrap.ensures) c.requires.shelf c.requires.bits_to_shelve c.requires.targets_to_shelve
    (record { opening = t.opening; room = t.room; bits = t.bits; targets = t.targets }) t.outcome c.in_default.is in
    λ o same.
    let both : Some (unnumbered (engine_shown c.unwrap.result).opening) ≡ Some (unnumbered o) = sym (ap engine_opening k.is) ∙ same in
    let own : unnumbered (engine_shown c.unwrap.result).opening ≡ unnumbered o = cc in
    let at : Option Engine → Progress = λ held. progress_of (record old { engine = held }) in
    told-on o c.unwrap.result c.told-engine.result.0 c.settled.result old.shelf c.settled.new.shelf c.args.call (running_of old.bare) own k.leaves k.takes.opening c.settled.ensures.measurements
    ∙ ap (λ (held : Option Engine). with_measurement (at held) (measured_on o (at held).measurements (Some c.args.call))) (sym k.is)

pub returns-clause-room : goal.returns-clause-room
returns-clause-room c =
    let t = c.told-engine.ensures in
    let old = c.args.self.now in
    let k = told-known c.args.self.now c.unwrap.result c.told-engine.result.0 c.told-engine.result.1 c.args.call (sym c.take.ensures.value ∙ c.unwrap.ensures) c.requires.shelf c.requires.bits_to_shelve c.requires.targets_to_shelve
    (record { opening = t.opening; room = t.room; bits = t.bits; targets = t.targets }) t.outcome c.in_default.is in
    let next : Course = record old { engine = Some c.settled.result; shelf = c.settled.new.shelf } in
    let Leaves : Course → Type 0 = λ device. LeavesRoom (bits_taken c.args.call) (targets_taken c.args.call) device next in
    subst Leaves (λ i. record old { engine = sym k.is i })
    (told-leaves old.bare old.bare old.steps old.steps c.unwrap.result c.told-engine.result.0 c.settled.result old.shelf c.settled.new.shelf c.args.call k.has k.takes k.leaves c.settled.ensures.goes_on)
