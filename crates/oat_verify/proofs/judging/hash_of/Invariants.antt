use Rattle.std.proofs.Common.{take}
use Rattle.oat_shape.specs.{returns_of}
use Rattle.oat_chain.specs.Standing.{StandsFor}
use Rattle.oat_verify.proofs.judging.hash_of.Given as goal

abbrev pub invariant-loop-edge : goal.invariant-loop-edge
invariant-loop-edge l = StandsFor l.chain l.head (returns_of (take l.edge-index l.path))
