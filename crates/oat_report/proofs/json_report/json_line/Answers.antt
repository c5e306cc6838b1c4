use Rattle.std.proofs.Common.{◌∙◌, ap}
use Rattle.serde_json.specs.{Data.object, Written.has_float, Written.compact_text}
use Rattle.serde_json.proofs.Views.{view-Object}
use Rattle.oat_report.proofs.JsonTexts.{report_said, report_whole}
use Rattle.oat_report.proofs.json_report.json_line.Goals as goal

pub returns : goal.returns
returns c =
    let view_is = view-Object c.in_ok-members.field-0 ∙ ap object c.in_ok-members.ensures in
    let whole = ap has_float view_is ∙ report_whole c.args.report.now in
    ap (λ v. v.items) c.into_bytes.ensures.value ∙ c.in_ok-to_string.ensures.text whole ∙ ap compact_text view_is ∙ report_said c.args.report.now c.requires
