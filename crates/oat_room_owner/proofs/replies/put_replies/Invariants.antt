use Rattle.std.proofs.Common.{drop}
use Rattle.oat_room_owner.proofs.Replying.{RepliesSoFar}
use Rattle.oat_room_owner.proofs.replies.put_replies.Given as goal

abbrev pub invariant-loop-call : goal.invariant-loop-call
invariant-loop-call g l =
    RepliesSoFar l.initial.owner l.owner l.calls (drop l.call-index l.calls) (g.S.Sink.told l.initial.sink) (g.S.Sink.told l.sink) (g.S.Sink.faults l.initial.sink) (g.S.Sink.faults l.sink)
