use Rattle.std.proofs.Common.{◌∙◌, ap, ltb, sym}
use Rattle.oat_meaning.specs.SourceRun.{SourceRun, completed_so_far}
use Rattle.oat_meaning.proofs.Told.{calls_told, counted}
use Rattle.oat_meaning.proofs.source.Source.completed.Goals as goal

pub returns : goal.returns
returns c =
    ap (ltb 0) (c.calls.ensures ∙ calls_told c.self.inside.interpreter _ c.self.invariant) ∙ sym (counted c.self.inside.interpreter _ c.self.invariant 0)
    ∙ ap (λ (run : SourceRun). completed_so_far run 0) c.self.view_is
