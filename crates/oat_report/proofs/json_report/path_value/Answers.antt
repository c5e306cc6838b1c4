use Rattle.std.proofs.Common.{◌≡◌, ◌∙◌, ◌+◌, List, map, take, ap, sym, subst}
use Rattle.serde_json.specs.{Data.string, View.view, declared.value.Value.Value}
use Rattle.oat_report.specs.JsonLine.{IsPlainText}
use Rattle.oat_report.proofs.JsonTexts.{plain_at, value_more, values_all}
use Rattle.oat_report.proofs.json_report.path_value.Goals as goal

pub plain_value-requires : goal.plain_value-requires
plain_value-requires c =
    subst IsPlainText (sym (c.as_slice.ensures ∙ c.line-item.is)) (plain_at c.args.path.now c.loop-line.line-index c.line-item.result c.requires c.loop-line-test.true)

pub loop-line-init : goal.loop-line-init
loop-line-init c = ap (map view) c.new-values.ensures.items

pub loop-line-preserved : goal.loop-line-preserved
loop-line-preserved c =
    subst (λ (values : List Value). map view values ≡ map string (take (c.loop-line.line-index + 1) c.args.path.now)) (sym c.in_ok-push.ensures.items)
    (value_more string c.args.path.now c.loop-line.values.items _ c.loop-line.line-index c.line-item.result c.loop-line-test.true c.loop-line.invariant
    (c.in_ok-plain_value.ensures ∙ ap string (c.as_slice.ensures ∙ c.line-item.is)))

pub returns : goal.returns
returns c = c.from.ensures ∙ values_all string c.args.path.now c.loop-line.values.items c.loop-line.line-index c.loop-line-test.false c.loop-line.invariant
