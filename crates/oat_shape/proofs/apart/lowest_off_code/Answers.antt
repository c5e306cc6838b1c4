use Rattle.std.proofs.Common.{get_or, refl}
use Rattle.std.specs.Option.{IsSome}
use Rattle.std.proofs.lemmas.Option.{slice_get-get_or}
use Rattle.oat_a64.specs.Step.{word_at}
use Rattle.oat_shape.proofs.Scans.{scan_none, scan_noted, scan_all}
use Rattle.oat_shape.proofs.apart.lowest_off_code.Goals as goal

pub loop-place-init : goal.loop-place-init
loop-place-init c = scan_none c.args.places.now (λ k place. place) (λ k place. IsSome (word_at c.args.code.now place))

pub loop-place-preserved : goal.loop-place-preserved
loop-place-preserved c =
    let here = slice_get-get_or c.args.places.now c.loop-place.place-index 0 c.loop-place-test.true in
    scan_noted c.args.places.now (λ k place. place) (λ k place. IsSome (word_at c.args.code.now place)) c.loop-place.place-index
    (get_or c.args.places.now c.loop-place.place-index 0) c.loop-place.lowest c.has_word.result _ c.note-lowest.result here refl c.note-lowest.ensures
    c.has_word.ensures c.loop-place.invariant

pub returns : goal.returns
returns c =
    scan_all c.args.places.now (λ k place. place) (λ k place. IsSome (word_at c.args.code.now place)) c.loop-place.place-index c.loop-place.lowest
    c.loop-place-test.false c.loop-place.invariant
