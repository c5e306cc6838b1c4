use Rattle.std.proofs.Common.{◌∙◌, ap}
use Rattle.oat_meaning.specs.SourceRun.{SourceRun}
use Rattle.oat_room_program.specs.Interpret.{path_told}
use Rattle.oat_room_program.proofs.interpret.case_run.Goals as goal

pub returns-clause-path : goal.returns-clause-path
returns-clause-path c =
    let started = rw c.as_slice-inputs.ensures at c.in_ok-source.ensures in
    c.in_ok-path.ensures ∙ ap path_told (c.run-end.ensures.whole ∙ ap (λ (run : SourceRun). record run { made = run.steps }) started)
