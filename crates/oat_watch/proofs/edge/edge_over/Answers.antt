use Rattle.std.proofs.Common.{◌≡◌, ◌∙◌, Bool, true, false, cond, Some, sym, ap}
use Rattle.oat_attest.specs.{Row, edge_over}
use Rattle.oat_watch.proofs.Targets.{no-target}
use Rattle.oat_map.specs.declared.edge.Edge.TheVariants as edges
use Rattle.oat_watch.proofs.edge.edge_over.Goals as goal

pub returns-in-Branch : goal.returns-in-Branch
returns-in-Branch c =
    c.branch_edge.ensures c.args.image.now.map c.in-Branch.other
    ∙ ap (λ (row : Row). edge_over c.args.image.now.map (Some row) c.args.pc c.args.next) (sym c.in-Branch.is)

pub returns-else-is_indirect_target : goal.returns-else-is_indirect_target
returns-else-is_indirect_target c =
    let none = no-target c.args.image.now.map.functions c.in-ICall.params c.args.next (λ allowed. absurd (let q : false ≡ true = c.if-is_indirect_target.ensures.1 allowed in cc)) in
    ap (λ (b : Bool). cond b (Some (edges.ICall c.in-ICall.at c.args.next)) (Some (edges.Stray c.args.pc c.args.next))) (sym none)
    ∙ ap (λ (row : Row). edge_over c.args.image.now.map (Some row) c.args.pc c.args.next) (sym c.in-ICall.is)
