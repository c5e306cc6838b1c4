use Rattle.std.proofs.Common.{◌<◌, ◌∙◌, ap, subst, sym}
use Rattle.oat_meaning.specs.SourceRun.{SourceRun, calls_so_far, completed_so_far, loads_so_far}
use Rattle.oat_meaning.proofs.Told.{first_done, first_loads_told, none_done}
use Rattle.oat_meaning.proofs.source.Source.loads.Goals as goal

pub loads_of-requires : goal.loads_of-requires
loads_of-requires c =
    subst (λ (run : SourceRun). 0 < calls_so_far run) c.self.view_is
    (first_done c.self.inside.interpreter _ c.self.invariant (ap (λ (run : SourceRun). completed_so_far run 0) c.self.view_is ∙ sym c.completed.ensures ∙ c.if-completed.true))

pub returns-else-completed : goal.returns-else-completed
returns-else-completed c =
    let none = none_done c.self.inside.interpreter _ c.self.invariant (ap (λ (run : SourceRun). completed_so_far run 0) c.self.view_is ∙ sym c.completed.ensures ∙ c.if-completed.false) in
    c.loads.ensures ∙ first_loads_told c.self.inside.interpreter _ c.self.invariant none ∙ ap (λ (run : SourceRun). loads_so_far run 0) c.self.view_is
