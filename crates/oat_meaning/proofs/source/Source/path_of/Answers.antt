use Rattle.std.proofs.Common.{◌<◌, ◌∙◌, ap, subst, sym}
use Rattle.oat_meaning.specs.SourceRun.{SourceRun, calls_so_far, path_so_far}
use Rattle.oat_meaning.proofs.{CallItems.part_at, Told.path_told}
use Rattle.oat_meaning.proofs.source.Source.path_of.Goals as goal

pub part-requires-clause-ordered : goal.part-requires-clause-ordered
part-requires-clause-ordered c =
    let low = subst (λ (run : SourceRun). c.args.call < calls_so_far run) (sym c.self.view_is) c.requires in
    (part_at _ _ _ _ _ _ _ (path_told c.self.inside.interpreter _ c.self.invariant c.args.call low) c.edges.ensures c.path_end.ensures c.path_end-2.ensures).ordered

pub part-requires-clause-inside : goal.part-requires-clause-inside
part-requires-clause-inside c =
    let low = subst (λ (run : SourceRun). c.args.call < calls_so_far run) (sym c.self.view_is) c.requires in
    (part_at _ _ _ _ _ _ _ (path_told c.self.inside.interpreter _ c.self.invariant c.args.call low) c.edges.ensures c.path_end.ensures c.path_end-2.ensures).inside

pub returns : goal.returns
returns c =
    let low = subst (λ (run : SourceRun). c.args.call < calls_so_far run) (sym c.self.view_is) c.requires in
    c.part.ensures ∙ (part_at _ _ _ _ _ _ _ (path_told c.self.inside.interpreter _ c.self.invariant c.args.call low) c.edges.ensures c.path_end.ensures c.path_end-2.ensures).is
    ∙ ap (λ (run : SourceRun). path_so_far run c.args.call) c.self.view_is
