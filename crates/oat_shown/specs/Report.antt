-- What a verdict puts: its line, and after an acceptance the lines of the path (docs/FORMATS.md).
use Rattle.std.specs.{Prelude.ℕ, Prelude.Option, Prelude.List, Prelude.[], Prelude.◌++◌, List.flat_map}
use Rattle.oat_journal.specs.{Map, Edge}
use Rattle.oat_verify.specs.{declared.verdict.Verdict.Verdict, declared.verdict.Verdict.TheVariants.Accept, declared.verdict.Verdict.TheVariants.Refuse}
use Rattle.oat_report.specs.{PathLine.edge_line, VerdictLine.verdict_text}
use Rattle.oat_page.specs.{declared.page.Ended.Ended, declared.page.Ended.TheVariants.Done, declared.page.Ended.TheVariants.Rejected, Outcome.line, Answer.Answer, Answer.shows}

-- the lines of a path
abbrev pub path_text : Map → List Edge → List ℕ
path_text flow path = flat_map (λ edge. line (edge_line flow edge)) path

-- the path of an acceptance
abbrev pub path_in : Verdict → List Edge
path_in (Accept path) = path
path_in (Refuse cause) = []

abbrev pub ended_of : Verdict → Ended
ended_of (Accept path) = Done
ended_of (Refuse cause) = Rejected

-- the lines of a verdict on a blob with such a serial number
abbrev pub report_text : Map → Option ℕ → Verdict → List ℕ
report_text flow serial verdict = line (verdict_text serial verdict) ++ path_text flow (path_in verdict)

abbrev pub report_of : Map → Option ℕ → Verdict → Answer
report_of flow serial verdict = shows (ended_of verdict) (report_text flow serial verdict) []
