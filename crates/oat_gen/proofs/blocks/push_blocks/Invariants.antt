use Rattle.std.proofs.Common.{◌≡◌, ◌+◌, ◌++◌, drop, map}
use Rattle.oat_symbols.specs.{blocks_code}
use Rattle.oat_gen.specs.Code.{block_code}
use Rattle.oat_gen.proofs.blocks.push_blocks.Given as goal

abbrev pub invariant-loop-number : goal.invariant-loop-number
invariant-loop-number l =
    l.out.items ++ blocks_code (l.first + l.number) (map (block_code l.places l.first l.func) (drop l.number l.func.blocks))
    ≡ l.initial.out.items ++ blocks_code l.first (map (block_code l.places l.first l.func) l.func.blocks)
