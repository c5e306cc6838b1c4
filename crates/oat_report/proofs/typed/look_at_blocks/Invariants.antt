use Rattle.std.proofs.Common.{take}
use Rattle.std.specs.List.{All}
use Rattle.oat_verify.specs.{IsName, Block}
use Rattle.oat_report.proofs.typed.look_at_blocks.Given as goal

abbrev pub invariant-loop-block : goal.invariant-loop-block
invariant-loop-block l = All (λ (block : Block). IsName block.label) (take l.block-index l.blocks)
