use Rattle.std.proofs.Common.{ℕ, List, ◌++◌, length, take, ◌-◌, ◌≤◌}
use Rattle.oat_feed.specs.Standing.{TakesIn}
use Rattle.oat_feed.proofs.intake.Intake.piece.Given as goal

abbrev pub invariant-loop-done : goal.invariant-loop-done
invariant-loop-done l = (l.done ≤ length l.bytes) × ((came : List ℕ) → TakesIn l.initial.self came → TakesIn l.self (came ++ take l.done l.bytes))

abbrev pub decreases-loop-done : goal.decreases-loop-done
decreases-loop-done l = length l.bytes - l.done
