use Rattle.std.proofs.Common.{◌≡◌, ℕ, get_or, length, map, take}
use Rattle.oat_meaning.specs.Activations.{locals_of}
use Rattle.oat_meaning.proofs.activation.Activation.pass.Given as goal

-- the arguments so far, and zeros
abbrev pub invariant-loop-i : goal.invariant-loop-i
invariant-loop-i l = record {
  room : length l.locals ≡ 255;
  passed : (x : ℕ) → get_or l.locals x 0 ≡ get_or (map (locals_of l.self) (take l.i l.args)) x 0;
}
