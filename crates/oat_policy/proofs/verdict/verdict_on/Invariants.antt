use Rattle.std.proofs.Common.{take}
use Rattle.oat_policy.specs.Standing.{HasSeen}
use Rattle.oat_policy.proofs.verdict.verdict_on.Given as goal

abbrev pub invariant-loop-edge : goal.invariant-loop-edge
invariant-loop-edge l = HasSeen l.watch l.policy l.map (take l.edge-index l.path)
