use Rattle.std.proofs.Common.{get_or}
use Rattle.std.proofs.lemmas.Option.{slice_get-get_or}
use Rattle.oat_image.specs.{Jump, address_of}
use Rattle.oat_shape.specs.Parts.{IsBehind}
use Rattle.oat_shape.proofs.{RowRules.ends_at_first, RowRules.ends_at_next, RowRules.behind_iff, Scans.scan_none, Scans.scan_noted, Scans.scan_all}
use Rattle.oat_shape.proofs.rises.lowest_overlap.Goals as goal

pub loop-row-init : goal.loop-row-init
loop-row-init c = record {
  scanned = scan_none c.args.rows.now (λ k row. address_of row) (IsBehind c.args.rows.now);
  end = ends_at_first c.args.rows.now;
}

pub loop-row-preserved : goal.loop-row-preserved
loop-row-preserved c =
    let row = get_or c.args.rows.now c.loop-row.row-index (Jump 0 0) in
    let here = slice_get-get_or c.args.rows.now c.loop-row.row-index (Jump 0 0) c.loop-row-test.true in
    record {
      scanned = scan_noted c.args.rows.now (λ k r. address_of r) (IsBehind c.args.rows.now) c.loop-row.row-index row c.loop-row.lowest _
          c.address-at.result c.note-lowest.result here c.address-at.ensures c.note-lowest.ensures
          (behind_iff c.args.rows.now c.loop-row.row-index row c.loop-row.end c.address-at.result c.loop-row-test.true c.address-at.ensures
          c.loop-row.invariant.end)
          c.loop-row.invariant.scanned;
      end = ends_at_next c.args.rows.now c.loop-row.row-index row c.after-end.result here c.after-end.ensures;
    }

pub returns : goal.returns
returns c =
    scan_all c.args.rows.now (λ k row. address_of row) (IsBehind c.args.rows.now) c.loop-row.row-index c.loop-row.lowest c.loop-row-test.false
    c.loop-row.invariant.scanned
