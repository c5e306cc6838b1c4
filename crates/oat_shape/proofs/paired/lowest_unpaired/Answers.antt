use Rattle.std.proofs.Common.{get_or, arith, nat_cmp}
use Rattle.std.proofs.lemmas.Option.{slice_get-get_or}
use Rattle.oat_image.specs.{Jump, address_of, begins}
use Rattle.oat_shape.specs.Parts.{BeginsFirst, EndIsBegun}
use Rattle.oat_shape.proofs.{Loops.Seen-none, Loops.Seen-more, RowRules.first_iff, RowRules.end_iff, Scans.scan_none, Scans.scan_noted_both, Scans.scan_all}
use Rattle.oat_shape.proofs.paired.lowest_unpaired.Goals as goal

pub loop-row-init : goal.loop-row-init
loop-row-init c = record {
  seen = Seen-none nat_cmp begins c.args.rows.now c.new-seen.result c.new-seen.ensures.empty;
  scanned = scan_none c.args.rows.now (λ k r. address_of r) (λ k r. BeginsFirst c.args.rows.now k r × EndIsBegun c.args.rows.now r);
}

pub loop-row-preserved : goal.loop-row-preserved
loop-row-preserved c =
    let row = get_or c.args.rows.now c.loop-row.row-index (Jump 0 0) in
    let here = slice_get-get_or c.args.rows.now c.loop-row.row-index (Jump 0 0) c.loop-row-test.true in
    record {
      seen = Seen-more nat_cmp begins c.args.rows.now c.loop-row.row-index row c.loop-row.seen c.add_begun.new.begun here
          c.in_ok-fresh.ensures.added c.loop-row.invariant.seen;
      scanned = scan_noted_both c.args.rows.now (λ k r. address_of r) (BeginsFirst c.args.rows.now) (λ k r. EndIsBegun c.args.rows.now r)
          c.loop-row.row-index row c.loop-row.lowest c.in_ok-fresh.fresh c.end_is_in.result c.address-at.result
          c.note-lowest.result c.note-lowest-in-loop-row.result here c.address-at.ensures c.note-lowest.ensures c.note-lowest-in-loop-row.ensures
          (first_iff c.args.rows.now c.loop-row.row-index row c.loop-row.seen c.in_ok-fresh.fresh (omega arith) c.loop-row.invariant.seen
          c.in_ok-fresh.ensures.fresh)
          (end_iff c.args.rows.now row c.in_ok-begun.begun c.end_is_in.result c.in_ok-begun.ensures c.end_is_in.ensures)
          c.loop-row.invariant.scanned;
    }

pub returns : goal.returns
returns c =
    scan_all c.args.rows.now (λ k r. address_of r) (λ k r. BeginsFirst c.args.rows.now k r × EndIsBegun c.args.rows.now r) c.loop-row.row-index
    c.loop-row.lowest c.loop-row-test.false c.loop-row.invariant.scanned
