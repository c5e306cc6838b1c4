use Rattle.std.proofs.Common.{get_or}
use Rattle.std.proofs.lemmas.Option.{slice_get-get_or}
use Rattle.oat_image.specs.{Jump, address_of}
use Rattle.oat_shape.specs.MapRules.{LeadsToPlaces}
use Rattle.oat_shape.proofs.Scans.{scan_none, scan_noted, scan_all}
use Rattle.oat_shape.proofs.leads.lowest_misled.Goals as goal

pub loop-row-init : goal.loop-row-init
loop-row-init c = scan_none c.args.rows.now (λ k r. address_of r) (λ k r. LeadsToPlaces c.args.entries.now c.args.starts.now r)

pub loop-row-preserved : goal.loop-row-preserved
loop-row-preserved c =
    let row = get_or c.args.rows.now c.loop-row.row-index (Jump 0 0) in
    let here = slice_get-get_or c.args.rows.now c.loop-row.row-index (Jump 0 0) c.loop-row-test.true in
    scan_noted c.args.rows.now (λ k r. address_of r) (λ k r. LeadsToPlaces c.args.entries.now c.args.starts.now r) c.loop-row.row-index row c.loop-row.lowest
    c.leads_to_places.result c.address.result c.note-lowest.result here c.address.ensures c.note-lowest.ensures c.leads_to_places.ensures c.loop-row.invariant

pub returns : goal.returns
returns c =
    scan_all c.args.rows.now (λ k r. address_of r) (λ k r. LeadsToPlaces c.args.entries.now c.args.starts.now r) c.loop-row.row-index c.loop-row.lowest c.loop-row-test.false
    c.loop-row.invariant
