use Rattle.oat_room_verify.proofs.Retracing.{RetracesSoFar}
use Rattle.oat_room_verify.proofs.report.put_path.Given as goal

abbrev pub invariant-loop-turn : goal.invariant-loop-turn
invariant-loop-turn g l =
    RetracesSoFar l.shaped.map l.op l.kept.bits l.kept.targets l.replay (g.S.Sink.told l.initial.sink) (g.S.Sink.told l.sink) (g.S.Sink.faults l.initial.sink) (g.S.Sink.faults l.sink) l.turn
