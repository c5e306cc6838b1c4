-- The value whose text is the line of a window, for private clauses.
use Rattle.std.specs.Prelude.{ℕ, ℤ, map, Option, Some, None, is_some, codes}
use Rattle.serde_json.specs.{Data.Data, Data.boolean, Data.number, Data.unsigned, Data.string, Data.array, Data.Members, Data.no_members, Data.member, Find.of_integer, View.items_of}
use Rattle.oat_verify.specs.{declared.verdict.Verdict.Verdict, declared.verdict.Verdict.TheVariants.Accept, declared.verdict.Verdict.TheVariants.Refuse}
use Rattle.oat_report.specs.{VerdictLine.cause_text, JsonLine.is_accepted, declared.json_report.Report.Report}

abbrev pub number_data : ℤ → Data
number_data value = number (of_integer value)

abbrev pub with_cause : Option Verdict → Members → Members
with_cause (Some (Refuse cause)) members = member (codes "cause") (string (cause_text cause)) members
with_cause (Some (Accept path)) members = members
with_cause None members = members

abbrev pub serial_members : Option ℕ → Members
serial_members None = no_members
serial_members (Some serial) = member (codes "serial") (number (unsigned serial)) no_members

abbrev pub report_members : Report → Members
report_members report =
    member (codes "accepted") (boolean (is_accepted report.verdict)) (with_cause report.verdict (
    member (codes "end") (string report.end) (
    member (codes "outputs") (array (items_of (map number_data report.outputs))) (
    member (codes "path") (array (items_of (map string report.path))) (
    member (codes "sealed") (boolean (is_some report.verdict)) (serial_members report.serial))))))
