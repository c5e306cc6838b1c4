use Rattle.std.proofs.Common.{◌∷◌, [], ◌+◌, ◌++◌, drop, take, get_or, refl}
use Rattle.std.proofs.lemmas.Result.{err_from_is_err_and}
use Rattle.oat_map.specs.declared.edge.Edge.TheVariants.{Jump}
use Rattle.oat_page.proofs.Putting.{PutsAll-behind}
use Rattle.oat_shown.specs.Report.{path_text}
use Rattle.oat_shown.proofs.PathLines.{path_next}
use Rattle.oat_shown.proofs.report.put_edges.Goals as goal

pub returns-in_err-put_edge : goal.returns-in_err-put_edge
returns-in_err-put_edge g c =
    let p = err_from_is_err_and c.from_residual.result c.from_residual.ensures.1 in
    let so_far = c.loop-edge.invariant in
    let flow = c.args.map.now in
    let path = c.args.path.now in
    let k = c.loop-edge.edge-index in
    let piece = path_text flow (get_or path k (Jump 0 0) ∷ []) in
    let left = path_text flow (drop (k + 1) path) in
    rw (p.1, p.2) (PutsAll-behind (path_text flow path) (piece ++ left) (path_text flow (take k path)) piece left _ _ _ _ _ _ _
    (path_next flow path k (Jump 0 0) c.loop-edge-test.true) refl so_far.1 so_far.0 c.in_err-put_edge.ensures)
