use Rattle.std.proofs.Common.{◌≡◌, ◌++◌, take}
use Rattle.std.specs.List.{flat_map}
use Rattle.oat_text.specs.Grammar.{block_lines, lines_text}
use Rattle.oat_text.proofs.printing.put_blocks.Given as goal

abbrev pub invariant-loop-block : goal.invariant-loop-block
invariant-loop-block l = l.out.items ≡ l.initial.out.items ++ flat_map (λ block. lines_text (block_lines l.program l.func block)) (take l.block-index l.blocks)
