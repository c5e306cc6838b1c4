use Rattle.std.proofs.Common.{List, ℕ, sym, subst, take}
use Rattle.oat_shape.specs.{returns_of}
use Rattle.oat_chain.specs.Standing.{StandsFor}
use Rattle.oat_verify.proofs.Returns.{returns_of_more}
use Rattle.oat_verify.proofs.judging.hash_of.Goals as goal

pub loop-edge-preserved : goal.loop-edge-preserved
loop-edge-preserved c =
    let absorbed = c.absorb_return.ensures c.args.head.now (returns_of (take c.loop-edge.edge-index c.args.path.now)) c.loop-edge.invariant in
    subst (λ (returns : List ℕ). StandsFor c.absorb_return.new.chain c.args.head.now returns)
    (sym (returns_of_more c.args.path.now c.loop-edge.edge-index _ c.loop-edge-test.true)) absorbed
