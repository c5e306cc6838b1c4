use Rattle.std.proofs.Common.{ap, ◌∙◌}
use Rattle.oat_langrun.specs.LangRuns.{outputs_so_far}
use Rattle.oat_langrun.proofs.Making.{outputs_told}
use Rattle.oat_langrun.proofs.run.LangRun.outputs.Goals as goal

pub returns : goal.returns
returns c = c.outputs.ensures ∙ outputs_told c.self.inside.interpreter _ c.self.invariant ∙ ap outputs_so_far c.self.view_is
