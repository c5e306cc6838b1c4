use Rattle.std.proofs.Common.{◌≡◌, ◌+◌, ◌*◌}
use Rattle.std.specs.Option.{IsSome}
use Rattle.oat_a64.specs.{Fetch.inst_of, Step.code_base}
use Rattle.oat_shape.specs.Lowest.{Lowest, EachBelow}
use Rattle.oat_shape.proofs.decoding.lowest_undecoded.Given as goal

abbrev pub invariant-loop-word : goal.invariant-loop-word
invariant-loop-word l = record {
  scanned : Lowest (EachBelow l.code (λ k word. code_base + 4 * k) (λ k word. IsSome (inst_of word)) l.word-index) l.lowest;
  place : l.at ≡ code_base + 4 * l.word-index;
}
