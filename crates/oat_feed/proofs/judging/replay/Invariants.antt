use Rattle.oat_verify.specs.Verdict.{head_of, subject_of}
use Rattle.oat_feed.proofs.Replaying.{ReplaysSoFar}
use Rattle.oat_feed.proofs.judging.replay.Given as goal

abbrev pub invariant-loop-turn : goal.invariant-loop-turn
invariant-loop-turn l = ReplaysSoFar l.shaped.map l.session.op l.blob.body.bits l.blob.body.targets l.replay l.chain (head_of (subject_of l.shaped l.session) l.blob.body.head.serial) l.turn
