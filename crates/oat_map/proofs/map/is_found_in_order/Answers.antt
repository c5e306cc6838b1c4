use Rattle.std.proofs.Common.{sym, ap, ◌∙◌}
use Rattle.std.proofs.lemmas.List.Folds.{list_any_at}
use Rattle.oat_map.specs.Rows.{is_called_at}
use Rattle.oat_map.proofs.map.is_found_in_order.Goals as goal

pub returns : goal.returns
returns c = λ found.
    list_any_at (is_called_at c.args.params c.args.target) c.args.functions.now c.partition_point-place.result
    c.index-functions-place.result c.if-place-functions.false
    (ap (is_called_at c.args.params c.args.target) (sym c.index-functions-place.is) ∙ sym c.is_called_at.ensures ∙ found)
