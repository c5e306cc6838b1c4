use Rattle.oat_shape.specs.{Lowest.Lowest, Lowest.EachBelow, Parts.HaveOneLabel, Parts.IsFirst, Parts.LiesInFunction}
use Rattle.oat_shape.proofs.{Loops.Seen, NameRules.label_cmp, NameRules.is_label_key}
use Rattle.oat_shape.proofs.named.lowest_misplaced.Given as goal

abbrev pub invariant-loop-block : goal.invariant-loop-block
invariant-loop-block l = record {
  seen : Seen label_cmp (is_label_key l.entries) l.blocks l.block-index l.labels;
  scanned : Lowest (EachBelow l.blocks (λ k b. b.start) (λ k b. LiesInFunction l.entries b.start × IsFirst (HaveOneLabel l.entries) l.blocks k b) l.block-index) l.lowest;
}
