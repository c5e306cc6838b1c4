use Rattle.std.proofs.Common.{◌≡◌, ◌++◌, take}
use Rattle.std.specs.{Int.w64, Int.to_be_bytes, List.flat_map}
use Rattle.oat_blob.proofs.encoding.put_targets.Given as goal

abbrev pub invariant-loop-target : goal.invariant-loop-target
invariant-loop-target l = l.out.items ≡ l.initial.out.items ++ flat_map (to_be_bytes w64) (take l.target-index l.targets)
