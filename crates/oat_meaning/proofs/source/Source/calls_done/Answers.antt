use Rattle.std.proofs.Common.{ap, ◌∙◌}
use Rattle.oat_meaning.specs.SourceRun.{calls_so_far}
use Rattle.oat_meaning.proofs.Told.{calls_told}
use Rattle.oat_meaning.proofs.source.Source.calls_done.Goals as goal

pub returns : goal.returns
returns c = c.calls.ensures ∙ calls_told c.self.inside.interpreter _ c.self.invariant ∙ ap calls_so_far c.self.view_is
