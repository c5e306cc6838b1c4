use Rattle.oat_room_verify.proofs.Policing.{WatchesSoFar}
use Rattle.oat_room_verify.proofs.policy.said_of_walk.Given as goal

abbrev pub invariant-loop-turn : goal.invariant-loop-turn
invariant-loop-turn l = WatchesSoFar l.policy l.shaped.map l.op l.kept.bits l.kept.targets l.replay l.watch l.turn
