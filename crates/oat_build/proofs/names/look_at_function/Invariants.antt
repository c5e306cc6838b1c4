use Rattle.std.specs.Prelude.{◌<◌, ℕ, Contains, take}
use Rattle.oat_match.specs.{BlockIr, IsName}
use Rattle.oat_build.proofs.names.look_at_function.Given as goal

abbrev pub invariant-loop-block : goal.invariant-loop-block
invariant-loop-block l = (block : BlockIr) → Contains (take l.block-index l.block-items) block → IsName block.label
