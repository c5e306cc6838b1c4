pub use Rattle.oat_map.specs.Rows.{BeginsAt, IsIndirectTarget, IsOperation, IsOrdered, address_of, after, is_call, is_called_at, is_over, is_returned_to, row_over, word_count}
pub use Rattle.oat_map.specs.Walk.{return_of, returns_of}
pub use Rattle.oat_map.specs.declared.edge.Edge.{Edge}
pub use Rattle.oat_map.specs.declared.map.Function.{Function}
pub use Rattle.oat_map.specs.declared.map.Map.{Map}
pub use Rattle.oat_map.specs.declared.row.Row.{Row}
pub use Rattle.oat_map.specs.declared.row.Row.TheVariants.{Branch}
pub use Rattle.oat_shape.specs.Laid.{IsLaid}
pub use Rattle.oat_shape.specs.Shape.{Covers, IsShaped, group_end}
pub use Rattle.oat_chain.specs.Chain.{DiffersAt, window_head}
unfoldable pub use Rattle.oat_chain.specs.Chain.{chain, messages}
pub use Rattle.oat_chain.specs.Clash.{bytes_of}
pub use Rattle.oat_chain.specs.declared.message.Clash.{Clash}
pub use Rattle.oat_blob.specs.Body.{Body}
pub use Rattle.oat_blob.specs.Layout.{IsBlobOf}
pub use Rattle.oat_journal.specs.{Case, Cells, Image, IsWellFormedCase, IsWellFormedImage, Measurements, MonitorCall, Opening, Session, Stage, State, StopKind, Use, after_window, at_start}
pub use Rattle.oat_journal.specs.{before_window, beyond, body_of, cells_of, defined, inside, inside_window, is_closed, is_due, is_transfer, measured_on, measuring, opens, past, sealed, sealed_bodies}
pub use Rattle.oat_journal.specs.{seals, serial_of, settled, shelving, through, unmeasured, up_to, with_state}
unfoldable pub use Rattle.oat_journal.specs.{measures}
pub use Rattle.oat_journal.specs.Measured.{HasBody, Run, dev, end_of, opening_of, start_cells, uses_of, window_of}
pub use Rattle.oat_journal.specs.Run.{AreGiven, Entry}
unfoldable pub use Rattle.oat_journal.specs.Run.{journal_from}
pub use Rattle.oat_journal.specs.Uses.{CheckedUse, IsSound, define_of, defined_value, use_behind, uses_behind}
unfoldable pub use Rattle.oat_journal.specs.Uses.{Held}
pub use Rattle.oat_journal.specs.Window.{edge_over, executed_path, is_made, made_call, opens_window, returned, returns_of_run, seals_window, shown_edge}
pub use Rattle.oat_journal.specs.declared.end.DeviceEnd.{DeviceEnd}
pub use Rattle.oat_journal.specs.declared.end.DeviceEnd.TheVariants.{OutOfSteps}
pub use Rattle.oat_verify.specs.Verdict.{AcceptanceAtOnce, Accepts, IsVerdict, head_of, subject_of}
pub use Rattle.oat_verify.specs.declared.verdict.Verdict.{Verdict}
pub use Rattle.oat_verify.specs.declared.verdict.Verdict.TheVariants.{Accept, Refuse}
pub use Rattle.oat_journal.specs.svc as svc
pub mod Headline
pub mod Lockstep
pub mod Honest
pub mod Worked
