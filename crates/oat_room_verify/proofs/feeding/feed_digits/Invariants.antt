use Rattle.std.proofs.Common.{length, ◌-◌}
use Rattle.oat_room_verify.proofs.Digits.{FeedsSoFar}
use Rattle.oat_room_verify.proofs.feeding.feed_digits.Given as goal

abbrev pub invariant-loop-done : goal.invariant-loop-done
invariant-loop-done l = FeedsSoFar l.initial.feed l.feed l.digits l.done

abbrev pub decreases-loop-done : goal.decreases-loop-done
decreases-loop-done l = length l.digits - l.done
