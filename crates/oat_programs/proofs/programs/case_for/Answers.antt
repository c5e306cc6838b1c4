use Rattle.std.proofs.Common.{ap}
use Rattle.oat_page.proofs.Working.{RefusesWith-stops}
use Rattle.oat_inputs.specs.{no_operation}
use Rattle.oat_programs.specs.Programs.{RefusesCaseOf, lacking}
use Rattle.oat_programs.proofs.Programming.{isnt_held}
use Rattle.oat_programs.proofs.programs.case_for.Goals as goal

pub returns-then-not-has_operation : goal.returns-then-not-has_operation
returns-then-not-has_operation c =
    RefusesWith-stops (RefusesCaseOf c.args.checked.now c.args.file.now) (no_operation c.name.result.now c.in_ok-case.case.session.op) _
    c.in_ok-no_operation.ensures
    (lacking c.in_ok-case.case c.in_ok-case.ensures (isnt_held _ _ c.has_operation.ensures c.if-not-has_operation.true)
    (ap (λ name. no_operation name c.in_ok-case.case.session.op) c.name.ensures))
