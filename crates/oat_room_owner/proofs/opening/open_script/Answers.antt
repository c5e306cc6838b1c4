use Rattle.std.proofs.lemmas.Result.{err_from_is_err_and}
use Rattle.oat_page.proofs.Holding.{HaltsWith-more}
use Rattle.oat_shown.specs.{fails, passes, Outcome, Rose}
use Rattle.oat_room_owner.specs.Owner.{EnrolmentsFail, RefusesScript, ServesScript}
use Rattle.oat_room_owner.proofs.Enrolling.{stop_halts}
use Rattle.oat_room_owner.proofs.opening.open_script.Goals as goal

pub returns-in_err-script-clause-opens : goal.returns-in_err-script-clause-opens
returns-in_err-script-clause-opens g c = λ contents told.
    let p = err_from_is_err_and c.from_residual.result c.from_residual.ensures.1 in
    rw (p.1, p.2) (stop_halts (RefusesScript c.args.file.now) (ServesScript contents _ c.args.file.now) _ (λ o refused. fails refused) c.in_err-script.ensures)

pub returns-in_err-known-clause-opens : goal.returns-in_err-known-clause-opens
returns-in_err-known-clause-opens g c = λ contents told.
    let p = err_from_is_err_and c.from_residual-in_err-known.result c.from_residual-in_err-known.ensures.1 in
    let failed = rw c.as_slice.ensures at (c.in_err-known.ensures.enrols contents told) in
    let script = c.in_ok-script.script in
    rw (p.1, p.2)
    (HaltsWith-more (EnrolmentsFail contents (Rose (g.F.Files.faults c.args.files.now) (g.F.Files.faults c.enrol_all.new.files)) script.devices)
    (ServesScript contents (Rose (g.F.Files.faults c.args.files.now) (g.F.Files.faults c.enrol_all.new.files)) c.args.file.now) c.in_err-known.field-0.0
    (λ (o : Outcome) fault. passes script c.in_ok-script.ensures (fails fault)) failed)
