use Rattle.std.proofs.Common.{◌∙◌, option_map, sym, ap, arith}
use Rattle.oat_attest.specs.{cells_of}
use Rattle.oat_watch.proofs.Using.{is-cell, is-used, used-as}
use Rattle.oat_watch.proofs.window.use_found.Goals as goal

pub returns-in_err-defined : goal.returns-in_err-defined
returns-in_err-defined c =
    let words = c.args.cells.now.words.items in
    λ initial before held.
    ap (option_map Rattle.oat_watch.specs.Shown.use_of) c.from_residual.ensures
    ∙ (ap (option_map (used-as c.args.cell c.args.found)) c.in_err-defined.ensures ∙ is-used initial before (cells_of words) c.args.cell c.args.found held)

pub overflow_cast-result : goal.overflow_cast-result
overflow_cast-result c =
    let low = is-cell c.args.cells.now.words.items c.args.cell c.in_ok-defined.defined (sym c.in_ok-defined.ensures) in
    let few = c.requires.few in
    omega (arith, low, few)

pub returns : goal.returns
returns c =
    let words = c.args.cells.now.words.items in
    λ initial before held.
    ap (option_map (used-as c.args.cell c.args.found)) c.in_ok-defined.ensures ∙ is-used initial before (cells_of words) c.args.cell c.args.found held
