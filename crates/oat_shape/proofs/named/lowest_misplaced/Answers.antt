use Rattle.std.proofs.Common.{refl, arith}
use Rattle.std.proofs.lemmas.Option.{slice_get_read}
use Rattle.oat_image.specs.{Block}
use Rattle.oat_shape.specs.Parts.{HaveOneLabel, IsFirst, LiesInFunction}
use Rattle.oat_shape.proofs.{Loops.Seen-none, Loops.Seen-more, Loops.added_key, Loops.fresh_iff, NameRules.label_cmp, NameRules.is_label_key, NameRules.label_at_key, NameRules.key_at_label}
use Rattle.oat_shape.proofs.{NameRules.key_of_label, Scans.scan_none, Scans.scan_noted_both, Scans.scan_all}
use Rattle.oat_shape.proofs.named.lowest_misplaced.Goals as goal

pub loop-block-init : goal.loop-block-init
loop-block-init c = record {
  seen = Seen-none label_cmp (is_label_key c.args.entries.now) c.args.blocks.now c.new-labels.result c.new-labels.ensures.empty;
  scanned = scan_none c.args.blocks.now (λ k (b : Block). b.start)
      (λ k b. LiesInFunction c.args.entries.now b.start × IsFirst (HaveOneLabel c.args.entries.now) c.args.blocks.now k b);
}

pub loop-block-preserved : goal.loop-block-preserved
loop-block-preserved c =
    let here = slice_get_read c.args.blocks.now _ c.loop-block.block-index c.block-item.result refl c.loop-block-test.true c.block-item.is in
    record {
      seen = Seen-more label_cmp (is_label_key c.args.entries.now) c.args.blocks.now c.loop-block.block-index c.block-item.result
          c.loop-block.labels c.insert.new.self here
          (added_key label_cmp (is_label_key c.args.entries.now) c.block-item.result (c.number_below-function.result, c.as_bytes.result)
          c.loop-block.labels c.insert.new.self
          (λ q. key_of_label c.args.entries.now (c.number_below-function.result, c.as_bytes.result) q c.block-item.result
          c.number_below-function.ensures c.as_bytes.ensures.bytes) c.in_ok-fresh.ensures.updates)
          c.loop-block.invariant.seen;
      scanned = scan_noted_both c.args.blocks.now (λ k (b : Block). b.start) (λ k b. LiesInFunction c.args.entries.now b.start)
          (λ k b. IsFirst (HaveOneLabel c.args.entries.now) c.args.blocks.now k b)
          c.loop-block.block-index c.block-item.result c.loop-block.lowest c.lies_in_function.result c.in_ok-fresh.fresh c.block-item.result.start
          c.note-lowest.result c.note-lowest-in-loop-block.result here refl c.note-lowest.ensures c.note-lowest-in-loop-block.ensures
          c.lies_in_function.ensures
          (fresh_iff label_cmp (is_label_key c.args.entries.now) c.args.blocks.now c.loop-block.block-index c.loop-block.labels
          (c.number_below-function.result, c.as_bytes.result) c.in_ok-fresh.fresh
          (λ b. HaveOneLabel c.args.entries.now b c.block-item.result) (omega arith) c.loop-block.invariant.seen c.in_ok-fresh.ensures.added
          (λ b. label_at_key c.args.entries.now (c.number_below-function.result, c.as_bytes.result) c.block-item.result b
          c.number_below-function.ensures c.as_bytes.ensures.bytes)
          (λ b. key_at_label c.args.entries.now (c.number_below-function.result, c.as_bytes.result) c.block-item.result b
          c.number_below-function.ensures c.as_bytes.ensures.bytes))
          c.loop-block.invariant.scanned;
    }

pub returns : goal.returns
returns c =
    scan_all c.args.blocks.now (λ k (b : Block). b.start)
    (λ k b. LiesInFunction c.args.entries.now b.start × IsFirst (HaveOneLabel c.args.entries.now) c.args.blocks.now k b) c.loop-block.block-index
    c.loop-block.lowest c.loop-block-test.false c.loop-block.invariant.scanned
