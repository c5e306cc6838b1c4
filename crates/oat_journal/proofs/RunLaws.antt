-- The laws of runs, for the crates above: the statements stand in specs/, each under the name of its law.
--
-- Journals: each entry is made by the machine step, follows the one before it, and is bounded.
pub use Rattle.oat_journal.proofs.Linkage.{journal_is_made, journal_is_linked}
pub use Rattle.oat_journal.proofs.Bounds.{journal_is_bounded}
-- Turns: what one makes, that an ended run rests, and turns behind turns.
pub use Rattle.oat_journal.proofs.TurnLaws.{turns_make_steps, one_turn, ended_runs_rest, turns_add, measured_turns_follow, measured_ends_stay}
pub use Rattle.oat_journal.proofs.Progress.{turns_are_the_run}
-- Lengths of journals and windows.
pub use Rattle.oat_journal.proofs.Lengths.{journals_are_short, windows_are_short}
-- The windows of the bodies that a run reports, and what these tell.
pub use Rattle.oat_journal.proofs.Reports.{bodies_are_called_for, bodies_tell_windows, no_violation_means_sound, records_are_few, counts_of_cases_fit, windows_are_traces}
-- Cells hold the values that they were last defined as: at the start, behind a define, and behind any other call.
pub use Rattle.oat_journal.proofs.Sealing.{held_first, held_define, held_other, held_is}
