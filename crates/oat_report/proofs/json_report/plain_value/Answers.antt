use Rattle.std.proofs.Common.{rules}
use Rattle.oat_report.proofs.PlainTexts.{plain_utf8}
use Rattle.oat_report.proofs.json_report.plain_value.Goals as goal

pub unwrap-requires : goal.unwrap-requires
unwrap-requires c = search (rules, c.from_utf8.ensures.cases, plain_utf8 c.args.text.now c.requires)
