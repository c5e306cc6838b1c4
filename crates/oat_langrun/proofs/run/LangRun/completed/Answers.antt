use Rattle.std.proofs.Common.{ap, ◌∙◌}
use Rattle.oat_langrun.specs.LangRuns.{completed_so_far}
use Rattle.oat_langrun.proofs.Making.{completed_told}
use Rattle.oat_langrun.proofs.run.LangRun.completed.Goals as goal

pub returns : goal.returns
returns c = c.completed.ensures ∙ completed_told c.self.inside.interpreter _ c.self.invariant ∙ ap completed_so_far c.self.view_is
