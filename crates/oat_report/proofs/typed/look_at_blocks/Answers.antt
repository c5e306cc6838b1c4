use Rattle.std.proofs.Common.{subst}
use Rattle.std.specs.List.{All}
use Rattle.std.proofs.lemmas.{List.take_all, List.Elements.All-more}
use Rattle.oat_verify.specs.{IsName, Block}
use Rattle.oat_report.proofs.typed.look_at_blocks.Goals as goal

abbrev HasBlockLabel : Block → Type 0
HasBlockLabel block = IsName block.label

pub loop-block-preserved : goal.loop-block-preserved
loop-block-preserved c =
    All-more HasBlockLabel c.args.blocks.now c.loop-block.block-index c.block-item.result c.loop-block-test.true c.loop-block.invariant
    (subst HasBlockLabel c.block-item.is c.look_at_block.ensures)

pub returns : goal.returns
returns c = subst (All HasBlockLabel) (take_all c.loop-block.block-index c.args.blocks.now c.loop-block-test.false) c.loop-block.invariant
