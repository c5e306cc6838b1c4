use Rattle.std.proofs.Common.{◌≡◌, map, take}
use Rattle.serde_json.specs.View.{view}
use Rattle.oat_report.specs.JsonData.{number_data}
use Rattle.oat_report.proofs.json_report.outputs_value.Given as goal

abbrev pub invariant-loop-output : goal.invariant-loop-output
invariant-loop-output l = map view l.values.items ≡ map number_data (take l.output-index l.outputs)
