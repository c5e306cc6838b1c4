use Rattle.std.proofs.Common.{rules, w64, get_or, ◌≡◌, ◌∙◌, ◌+◌, pos, List, map, take, ap, sym, subst}
use Rattle.std.proofs.lemmas.Int.{to_z-of_z}
use Rattle.serde_json.specs.{View.view, declared.value.Value.Value}
use Rattle.oat_report.specs.JsonData.{number_data}
use Rattle.oat_report.proofs.JsonTexts.{value_more, values_all}
use Rattle.oat_report.proofs.json_report.outputs_value.Goals as goal

pub loop-output-init : goal.loop-output-init
loop-output-init c = ap (map view) c.new-values.ensures.items

pub loop-output-preserved : goal.loop-output-preserved
loop-output-preserved c =
    subst (λ (values : List Value). map view values ≡ map number_data (take (c.loop-output.output-index + 1) c.args.outputs.now)) (sym c.in_ok-push.ensures.items)
    (value_more number_data c.args.outputs.now c.loop-output.values.items _ c.loop-output.output-index (pos 0) c.loop-output-test.true c.loop-output.invariant
    (c.output_value.ensures ∙ ap number_data (to_z-of_z w64 (get_or c.args.outputs.now c.loop-output.output-index (pos 0)) (search rules))))

pub returns : goal.returns
returns c = c.from.ensures ∙ values_all number_data c.args.outputs.now c.loop-output.values.items c.loop-output.output-index c.loop-output-test.false c.loop-output.invariant
