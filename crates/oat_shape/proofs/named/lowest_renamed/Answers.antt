use Rattle.std.proofs.Common.{refl, arith}
use Rattle.std.proofs.lemmas.Option.{slice_get_read}
use Rattle.oat_image.specs.{Function}
use Rattle.oat_shape.specs.Parts.{HaveOneName, IsFirst}
use Rattle.oat_shape.proofs.{Loops.Seen-none, Loops.Seen-more, Loops.added_key, Loops.fresh_iff, NameRules.text_cmp, NameRules.is_key_of, NameRules.name_at_key, NameRules.key_at_name}
use Rattle.oat_shape.proofs.{NameRules.key_of_name, Scans.scan_none, Scans.scan_noted, Scans.scan_all}
use Rattle.oat_shape.proofs.named.lowest_renamed.Goals as goal

pub loop-function-init : goal.loop-function-init
loop-function-init c = record {
  seen = Seen-none text_cmp is_key_of c.args.functions.now c.new-names.result c.new-names.ensures.empty;
  scanned = scan_none c.args.functions.now (λ k (f : Function). f.entry) (λ k f. IsFirst HaveOneName c.args.functions.now k f);
}

pub loop-function-preserved : goal.loop-function-preserved
loop-function-preserved c =
    let here = slice_get_read c.args.functions.now _ c.loop-function.function-index c.function-item.result refl c.loop-function-test.true c.function-item.is in
    record {
      seen = Seen-more text_cmp is_key_of c.args.functions.now c.loop-function.function-index c.function-item.result c.loop-function.names c.insert.new.self here
          (added_key text_cmp is_key_of c.function-item.result c.as_bytes.result c.loop-function.names c.insert.new.self
          (λ q. key_of_name c.as_bytes.result q c.function-item.result c.as_bytes.ensures.bytes) c.in_ok-fresh.ensures.updates)
          c.loop-function.invariant.seen;
      scanned = scan_noted c.args.functions.now (λ k (f : Function). f.entry) (λ k f. IsFirst HaveOneName c.args.functions.now k f)
          c.loop-function.function-index c.function-item.result c.loop-function.lowest c.in_ok-fresh.fresh c.function-item.result.entry
          c.note-lowest.result here refl c.note-lowest.ensures
          (fresh_iff text_cmp is_key_of c.args.functions.now c.loop-function.function-index c.loop-function.names c.as_bytes.result c.in_ok-fresh.fresh
          (λ f. HaveOneName f c.function-item.result) (omega arith) c.loop-function.invariant.seen c.in_ok-fresh.ensures.added
          (λ f. name_at_key c.as_bytes.result c.function-item.result f c.as_bytes.ensures.bytes)
          (λ f. key_at_name c.as_bytes.result c.function-item.result f c.as_bytes.ensures.bytes))
          c.loop-function.invariant.scanned;
    }

pub returns : goal.returns
returns c =
    scan_all c.args.functions.now (λ k (f : Function). f.entry) (λ k f. IsFirst HaveOneName c.args.functions.now k f) c.loop-function.function-index
    c.loop-function.lowest c.loop-function-test.false c.loop-function.invariant.scanned
