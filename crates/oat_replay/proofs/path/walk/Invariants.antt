use Rattle.oat_replay.proofs.WalkSoFar.{WalksSoFar}
use Rattle.oat_replay.proofs.path.walk.Given as goal

abbrev pub invariant-loop-turn : goal.invariant-loop-turn
invariant-loop-turn g l =
    WalksSoFar l.map l.op (g.R.Records.bits l.records) (g.R.Records.targets l.records) l.replay l.path.items l.turn
