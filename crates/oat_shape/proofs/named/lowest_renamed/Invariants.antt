use Rattle.oat_shape.specs.{Lowest.Lowest, Lowest.EachBelow, Parts.HaveOneName, Parts.IsFirst}
use Rattle.oat_shape.proofs.{Loops.Seen, NameRules.text_cmp, NameRules.is_key_of}
use Rattle.oat_shape.proofs.named.lowest_renamed.Given as goal

abbrev pub invariant-loop-function : goal.invariant-loop-function
invariant-loop-function l = record {
  seen : Seen text_cmp is_key_of l.functions l.function-index l.names;
  scanned : Lowest (EachBelow l.functions (λ k f. f.entry) (λ k f. IsFirst HaveOneName l.functions k f) l.function-index) l.lowest;
}
