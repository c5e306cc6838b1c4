use Rattle.std.proofs.Common.{arith}
use Rattle.oat_build.specs.Addresses.{address_in}
use Rattle.oat_build.proofs.SymbolLists.{blocks_step}
use Rattle.oat_build.proofs.symbols.list_blocks.Goals as goal

pub loop-block-preserved : goal.loop-block-preserved
loop-block-preserved c = record {
  listed = blocks_step (address_in c.args.addresses.now) c.args.first c.loop-block.block-index c.loop-block.label c.args.blocks.now c.block-item.result (record { start = c.of.result; label = c.copy_of.result })
      c.args.listed.now.items c.loop-block.listed.items c.push.new.self.items c.loop-block-test.true c.block-item.is c.of.ensures c.copy_of.ensures c.loop-block.invariant.label c.loop-block.invariant.listed c.in_ok-push.ensures.items;
  label = omega arith;
}
