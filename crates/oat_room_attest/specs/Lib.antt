pub use Rattle.oat_a64.specs.Kinds.{is_transfer}
pub use Rattle.oat_a64.specs.Step.{Regs, act, branch_target, instruction_at}
pub use Rattle.oat_a64.specs.declared.inst.Inst.{Inst}
pub use Rattle.oat_a64.specs.declared.inst.Inst.TheVariants.{B, Bl}
pub use Rattle.oat_map.specs.Rows.{BeginsAt, IsIndirectTarget, IsOperation, after, is_call, is_called_at, is_returned_to, row_over}
pub use Rattle.oat_map.specs.Walk.{returns_of}
pub use Rattle.oat_map.specs.declared.edge.Edge.{Edge}
pub use Rattle.oat_map.specs.declared.map.Function.{Function}
pub use Rattle.oat_map.specs.declared.map.Map.{Map}
pub use Rattle.oat_map.specs.declared.row.Row.{Row}
pub use Rattle.oat_check.specs.RunLaws.{CallsAreCounted}
pub use Rattle.oat_check.specs.Runs.{source_events}
pub use Rattle.oat_case.specs.Grammar.{InputIs, IsCaseText, SayStatements, SaysStatement, Statement, WriteIs, input_in, write_in}
pub use Rattle.oat_case.specs.Laws.{WritesCanBeMade}
pub use Rattle.oat_case.specs.declared.case.Case.{Case}
pub use Rattle.oat_case.specs.declared.case.Session.{Session}
pub use Rattle.oat_case.specs.declared.case.Write.{Write}
pub use Rattle.oat_measure.specs.Shelving.{sealed_bodies, serial_of}
pub use Rattle.oat_measure.specs.declared.opening.Opening.{Opening}
pub use Rattle.oat_journal.specs.Journal.{IsEntryBounded, IsMade, takes_input}
pub use Rattle.oat_journal.specs.Measured.{Run, opening_of, window_of}
pub use Rattle.oat_journal.specs.Run.{AreGiven, Entry, next_of, pc_of}
pub use Rattle.oat_journal.specs.Uses.{CheckedUse, IsSound}
pub use Rattle.oat_journal.specs.Window.{edge_over, executed_path, made_call, returns_of_run, seals_window, shown_edge}
pub use Rattle.oat_build.specs.Built.{IsImageOf}
pub use Rattle.oat_verify.specs.Verdict.{CarriesSerial, IsVerdict, Subject, head_of, subject_of}
pub use Rattle.oat_verify.specs.declared.verdict.Cause.{Cause}
pub use Rattle.oat_verify.specs.declared.verdict.Verdict.{Verdict}
pub use Rattle.oat_verify.specs.declared.verdict.Verdict.TheVariants.{Accept, Refuse}
pub use Rattle.oat_attestation.specs.Attestation.{Attests, TellsRun}
pub use Rattle.oat_attestation.specs.Laws.{AcceptsAllCalls, AttestationsAreComplete, HonestRunsAreAttested, IsHonest, JudgesWindows, RunsAreHeadlined, WindowsAreJudged, calls_measured, opening_told}
pub use Rattle.oat_attestation.specs.Laws.{run_told}
pub use Rattle.oat_attestation.specs.declared.attested.Attested.{Attested}
pub use Rattle.oat_report.specs.SameLines.{IsEdgeOf}
pub use Rattle.oat_report.specs.TraceLine.{apart_text, same_text, use_text}
pub use Rattle.oat_report.specs.VerdictLine.{verdict_text}
pub use Rattle.oat_page.specs.Answer.{Answer, IsAnswered, as_outcome, refused, shows, status_of}
pub use Rattle.oat_page.specs.Loads.{AreLoaded, File, IsLoaded, LoadFails, LoadsFail, Read, Wanted, absent, faulted, long, read_of, wanted_of}
pub use Rattle.oat_page.specs.Outcome.{IsPrefix, Outcome, line, says}
pub use Rattle.oat_page.specs.Puts.{PutsFront}
pub use Rattle.oat_page.specs.Shows.{HasFailed, IsLeft, OrStarved, Put, Shows, at_once, behind, cut, cut_said, ended, put_of, starved_said, whole}
pub use Rattle.oat_page.specs.Texts.{read_fault, starved}
pub use Rattle.oat_page.specs.declared.page.Ended.{Ended}
pub use Rattle.oat_page.specs.declared.page.Ended.TheVariants.{Done, Rejected, Unsealed}
pub use Rattle.oat_programs.specs.{Admits, AreAdmitted, Covers, HasDigits, IsBlobText, Program, RefusesBlob, RefusesImage, RefusesShape, S7, calls_done, instructions_for}
pub use Rattle.oat_programs.specs.Programs.{CodeFits, IsCaseOf, IsCheckedText, RefusesCaseOf, RefusesCode, RefusesProgram}
pub use Rattle.oat_shown.specs.{Adds, Body, Contents, CountsItsWindows, DiffersAt, Everywhere, First, Image, IsBlobOf, IsDecisive, IsImageText, IsLaid, IsOne, IsReturnSite, IsSealed, IsShaped, Rose}
pub use Rattle.oat_shown.specs.{Stands, TextWord, fails, fault_text, image_text, is_i64, passes}
unfoldable pub use Rattle.oat_shown.specs.{messages}
pub use Rattle.oat_shown.specs.Report.{ended_of, path_in, path_text, report_of}
pub use Rattle.oat_shown.specs.Windows.{are_few, ended_with, refuses_one, want_text, window_number}
pub use Rattle.oat_map.specs.declared.edge.Edge.TheVariants as edges
pub use Rattle.oat_map.specs.declared.row.Row.TheVariants as rows
pub mod Attest
pub mod Json
