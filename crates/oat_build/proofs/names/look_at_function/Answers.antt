use Rattle.std.proofs.Common.{List, sym, subst}
use Rattle.std.specs.Prelude.{Contains}
use Rattle.oat_match.specs.{BlockIr, IsName}
use Rattle.oat_build.proofs.Imaging.{all_more, all_through}
use Rattle.oat_build.proofs.names.look_at_function.Goals as goal

pub loop-block-preserved : goal.loop-block-preserved
loop-block-preserved c =
    all_more (λ (block : BlockIr). IsName block.label) c.as_slice-block-items.result.now c.loop-block.block-index c.block-item.result c.loop-block-test.true c.block-item.is c.loop-block.invariant c.look_at_block.ensures

pub returns : goal.returns
returns c = record {
  name = c.as_bytes-name.ensures.name;
  blocks = λ block has. all_through (λ (b : BlockIr). IsName b.label) c.as_slice-block-items.result.now c.loop-block.block-index c.loop-block-test.false c.loop-block.invariant block
      (subst (λ (xs : List BlockIr). Contains xs block) (sym c.as_slice-block-items.ensures) has);
}
