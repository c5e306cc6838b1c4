use Rattle.std.proofs.Common.{◌≡◌, length, take}
use Rattle.std.specs.List.{flat_map}
use Rattle.oat_match.specs.{block_names}
use Rattle.oat_build.proofs.symbols.blocks_in.Given as goal

abbrev pub invariant-loop-func : goal.invariant-loop-func
invariant-loop-func l = l.count ≡ length (flat_map block_names (take l.func-index l.funcs))
