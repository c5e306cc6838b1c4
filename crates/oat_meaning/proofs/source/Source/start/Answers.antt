use Rattle.std.proofs.Common.{subst}
use Rattle.oat_check.specs.{Program}
use Rattle.oat_meaning.specs.{Made.HasReached, SourceRun.first_run}
use Rattle.oat_meaning.proofs.source.Source.start.Goals as goal

pub invariant_of-result : goal.invariant_of-result
invariant_of-result c =
    subst (λ (p : Program). HasReached c.in_ok-interpreter.interpreter (first_run p c.args.inputs.now c.args.op c.args.steps)) c.program-program.ensures.same c.in_ok-interpreter.ensures
