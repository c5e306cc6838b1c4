use Rattle.std.proofs.Common.{◌≡◌, length, map, take}
use Rattle.oat_policy.specs.{EdgeWords.meets_each, Pieces.path_word}
use Rattle.oat_policy.proofs.recent.meet.Given as goal

abbrev pub invariant-loop-i : goal.invariant-loop-i
invariant-loop-i l = length l.initial.met ≡ length l.patterns
    → (length l.met ≡ length l.patterns) × (take l.i l.met ≡ map (λ pattern. meets_each pattern.now (map path_word l.words)) (take l.i l.patterns))
