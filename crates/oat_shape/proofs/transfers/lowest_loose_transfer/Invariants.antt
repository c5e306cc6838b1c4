use Rattle.std.proofs.Common.{◌≡◌, ◌+◌, ◌*◌}
use Rattle.oat_a64.specs.Step.{code_base}
use Rattle.oat_shape.specs.{Lowest.Lowest, Lowest.EachBelow, Parts.StandsInGroup}
use Rattle.oat_shape.proofs.transfers.lowest_loose_transfer.Given as goal

abbrev pub invariant-loop-word : goal.invariant-loop-word
invariant-loop-word l = record {
  scanned : Lowest (EachBelow l.code (λ k word. code_base + 4 * k) (λ k word. StandsInGroup l.rows (code_base + 4 * k) word) l.word-index) l.lowest;
  place : l.at ≡ code_base + 4 * l.word-index;
}
