use Rattle.std.proofs.Common.{◌≡◌, ◌+◌, ◌++◌, map, take}
use Rattle.oat_match.specs.{BlockIr, blocks_from}
use Rattle.oat_build.specs.Addresses.{address_in}
use Rattle.oat_build.proofs.symbols.list_blocks.Given as goal

abbrev pub invariant-loop-block : goal.invariant-loop-block
invariant-loop-block l = record {
  listed : l.listed.items ≡ l.initial.listed.items ++ blocks_from (address_in l.addresses) l.first (map (λ (block : BlockIr). block.label) (take l.block-index l.blocks));
  label : l.label ≡ l.first + l.block-index;
}
