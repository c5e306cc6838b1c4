use Rattle.std.proofs.Common.{refl, sym, ap, ◌∙◌}
use Rattle.oat_cpu.specs.Processor.{regs_of}
use Rattle.oat_journal.specs.{Progress.call_told, Event}
use Rattle.oat_device.proofs.course.call_told.Goals as goal

pub returns-in-Svc : goal.returns-in-Svc
returns-in-Svc c =
    let r = regs_of c.args.found.now in
    c.call_numbered.ensures r refl refl refl refl ∙ ap (λ (e : Event). call_told e r) (sym c.in-Svc.is)
