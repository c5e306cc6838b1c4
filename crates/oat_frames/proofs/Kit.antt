-- Single instructions of compiled code, and runs of them, for the crates above: each leads from where it stands to the explicit next moment.
--
-- Runs: of no instruction, of one that goes on or ends the run, and of some behind others.
pub use Rattle.oat_frames.proofs.Reaching.{still, goes, goes-as, stops, thence, counted, kept-on}
-- Numbers, registers, and the machines that are left.
pub use Rattle.oat_frames.proofs.Registers.{wrap-is, difference-is, set-31, set-same, set-other, set-twice, with_x, with_sp, with_slot, compared, next-is}
-- Instructions that show nothing: of registers, of flags, of SP, of memory, and two moves.
pub use Rattle.oat_frames.proofs.Steps.{IsQuiet, below, quietly, sets, compares, sub-sp, add-sp, ldr-at, str-at, ldr, str, moves-number}
-- Tests over a BRK, calls and returns, and branches to places.
pub use Rattle.oat_frames.proofs.Transfers.{skip-is, pass-is, bcond-skips, bcond-passes, cbnz-skips, cbnz-passes, edge-shown, edge-is, bl, blr, ret, b, cbnz-leads, cbnz-falls}
-- The monitor's calls in their groups, inputs and outputs, and ends.
pub use Rattle.oat_frames.proofs.MonitorCalls.{svc-target, svc-return, svc-bit, input_next, outputs_next, svc-in, svc-out, svc-halt, svc-in-end, brk-zero, brk-null, brk-depth}
