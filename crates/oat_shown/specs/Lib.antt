pub use Rattle.oat_a64.specs.declared.event.FaultKind.{FaultKind}
pub use Rattle.oat_a64.specs.declared.event.FaultKind.TheVariants.{Access, Fetch, Undefined}
pub use Rattle.oat_map.specs.Rows.{BeginsAt, IsOperation, start}
pub use Rattle.oat_map.specs.Walk.{Step, edge_of, moved, passed, path_of}
pub use Rattle.oat_map.specs.declared.edge.Edge.{Edge}
pub use Rattle.oat_map.specs.declared.map.Map.{Map}
pub use Rattle.oat_map.specs.declared.trap.TrapKind.{TrapKind}
pub use Rattle.oat_map.specs.declared.trap.TrapKind.TheVariants.{Depth, DivZero, Index, InputEnd, NullCall}
pub use Rattle.oat_lines.specs.FaultText.{fault_text}
pub use Rattle.oat_lines.specs.Faults.{Fails}
unfoldable pub use Rattle.oat_lines.specs.Hexadecimal.{hexadecimal}
pub use Rattle.oat_lines.specs.Integer.{is_i64}
pub use Rattle.oat_lines.specs.Lines.{TextWord}
pub use Rattle.oat_lines.specs.declared.fault.Fault.{Fault}
pub use Rattle.oat_lines.specs.declared.fault.Fault.TheVariants.{Memory}
pub use Rattle.oat_image.specs.Grammar.{IsImageText, IsWellFormedImage, image_text}
pub use Rattle.oat_image.specs.declared.image.Image.{Image}
pub use Rattle.oat_case.specs.Limits.{IsWellFormedCase}
pub use Rattle.oat_case.specs.declared.case.Case.{Case}
pub use Rattle.oat_measure.specs.Shelving.{sealed_bodies}
pub use Rattle.oat_measure.specs.declared.opening.Opening.{Opening}
pub use Rattle.oat_measure.specs.declared.stop.StopKind.{StopKind}
pub use Rattle.oat_measure.specs.declared.stop.StopKind.TheVariants.{Nested, WrongEnd}
pub use Rattle.oat_journal.specs.{Body, DiffersAt, Finish, IsBlobOf, end_after, halted, has_completed, outputs_of, path_of_call, trapped}
unfoldable pub use Rattle.oat_journal.specs.{messages}
pub use Rattle.oat_journal.specs.Measured.{Run, dev, end_of, opening_of}
pub use Rattle.oat_journal.specs.declared.end.DeviceEnd.{DeviceEnd}
pub use Rattle.oat_journal.specs.declared.end.DeviceEnd.TheVariants.{Halted, OutOfSteps, Stopped, Trap}
pub use Rattle.oat_device.specs.DeviceRun.{CountsItsWindows, DeviceRun, HasRun, IsSealed, bodies_so_far}
pub use Rattle.oat_verify.specs.{Everywhere, First, IsDecisive, IsLaid, IsOne, IsReturnSite, IsShaped, Replay, Stands, StandsBehind, Tests, fails, passes}
pub use Rattle.oat_verify.specs.Verdict.{Accepts, CarriesSerial, IsVerdict, Subject, subject_of}
pub use Rattle.oat_verify.specs.declared.verdict.Cause.{Cause}
pub use Rattle.oat_verify.specs.declared.verdict.Verdict.{Verdict}
pub use Rattle.oat_verify.specs.declared.verdict.Verdict.TheVariants.{Accept, Refuse}
pub use Rattle.oat_report.specs.JsonLine.{IsPlainReport, IsPlainText, cause_member, is_accepted, json_text}
pub use Rattle.oat_report.specs.PathLine.{edge_line}
pub use Rattle.oat_report.specs.SourceLine.{source_edge_line}
pub use Rattle.oat_report.specs.TraceLine.{apart_text, same_text, use_text}
pub use Rattle.oat_report.specs.VerdictLine.{verdict_text}
pub use Rattle.oat_page.specs.{Adds, Contents, Rose, SinkFault}
pub use Rattle.oat_page.specs.Answer.{Answer, IsAnswered, IsWorkOutcome, as_outcome, refused, refuses, shows}
pub use Rattle.oat_page.specs.Limits.{blob_limit, case_limit, image_limit, policy_limit, program_limit, script_limit}
pub use Rattle.oat_page.specs.Loads.{File, IsLoaded, LoadFails, LoadsFail, Read, Wanted, absent, faulted, long, read_of}
pub use Rattle.oat_page.specs.Outcome.{Outcome, line, says}
pub use Rattle.oat_page.specs.Pieces.{turns_of_some}
pub use Rattle.oat_page.specs.Puts.{PutsAll}
pub use Rattle.oat_page.specs.Shows.{Put, Shows, at_once, put_of}
pub use Rattle.oat_page.specs.Texts.{read_fault, starved}
pub use Rattle.oat_page.specs.Works.{FaultsRose, HaltsWith, IsHaltOutcome, IsReadFault, IsRefusal, StopsWith, Works, answer_in, halt_of}
pub use Rattle.oat_page.specs.declared.page.Ended.{Ended}
pub use Rattle.oat_page.specs.declared.page.Ended.TheVariants.{Done, Rejected, Unsealed}
pub use Rattle.oat_page.specs.declared.page.Halt.{Halt}
pub use Rattle.oat_page.specs.declared.page.Stop.{Stop}
pub use Rattle.oat_page.specs.sink as sink
pub mod RunText
pub mod BlobLine
pub mod Report
pub mod Windows
