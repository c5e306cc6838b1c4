use Rattle.std.proofs.Common.{◌≡◌, true, ◌∙◌, sym, ap}
use Rattle.std.specs.List.{list_any}
use Rattle.oat_map.specs.Rows.{is_called_at}
use Rattle.oat_map.proofs.TargetLemmas.{target_found, target_listed}
use Rattle.oat_map.proofs.map.Map.is_indirect_target.Goals as goal

pub returns-then-is_found_in_order : goal.returns-then-is_found_in_order
returns-then-is_found_in_order c =
    let listed : list_any (is_called_at c.args.params c.args.target) c.args.self.now.functions ≡ true =
    ap (list_any (is_called_at c.args.params c.args.target)) (sym c.as_slice-functions.ensures)
    ∙ c.is_found_in_order.ensures c.if-is_found_in_order.true in
    (λ found. target_found _ _ _ listed, λ allowed. c.if-is_found_in_order.true)

pub returns-else-is_found_in_order : goal.returns-else-is_found_in_order
returns-else-is_found_in_order c =
    let same : c.any_called_at.result ≡ list_any (is_called_at c.args.params c.args.target) c.args.self.now.functions =
    c.any_called_at.ensures ∙ ap (list_any (is_called_at c.args.params c.args.target)) c.as_slice-functions.ensures in
    (λ found. target_found _ _ _ (sym same ∙ found), λ allowed. same ∙ target_listed _ _ _ allowed)
