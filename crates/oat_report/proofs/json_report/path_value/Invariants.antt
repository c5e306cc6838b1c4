use Rattle.std.proofs.Common.{◌≡◌, map, take}
use Rattle.serde_json.specs.{Data.string, View.view}
use Rattle.oat_report.proofs.json_report.path_value.Given as goal

abbrev pub invariant-loop-line : goal.invariant-loop-line
invariant-loop-line l = map view l.values.items ≡ map string (take l.line-index l.path)
