use Rattle.std.proofs.Common.{◌≡◌, ℕ, get_or, length, map}
use Rattle.std.specs.List.{range_with_len}
use Rattle.oat_langrun.specs.Standing.{operands_of}
use Rattle.oat_langrun.proofs.activation.Activation.pass.Given as goal

-- the arguments so far, and zeros
abbrev pub invariant-loop-i : goal.invariant-loop-i
invariant-loop-i l = record {
  room : length l.locals ≡ 256;
  passed : (x : ℕ) → get_or l.locals x 0 ≡ get_or (map (operands_of l.self) (range_with_len l.below l.i)) x 0;
}
