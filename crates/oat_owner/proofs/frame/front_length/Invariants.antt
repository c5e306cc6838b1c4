use Rattle.std.proofs.Common.{◌≡◌, ◌≤◌, length, take}
use Rattle.oat_owner.specs.Frames.{answer_front}
use Rattle.oat_owner.proofs.frame.front_length.Given as goal

abbrev pub invariant-loop-i : goal.invariant-loop-i
invariant-loop-i l = record { within : l.i ≤ length l.bytes; same : take l.i l.bytes ≡ take l.i answer_front }
