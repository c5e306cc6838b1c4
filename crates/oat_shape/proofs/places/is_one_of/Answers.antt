use Rattle.std.proofs.lemmas.List.Sorted.{searched}
use Rattle.oat_shape.proofs.Searches.{found_iff, rises_zero}
use Rattle.oat_shape.proofs.places.is_one_of.Goals as goal

pub returns : goal.returns
returns c =
    found_iff c.args.places.now c.args.place c.binary_search.result c.is_ok.result c.is_ok.ensures.value
    (searched c.args.places.now c.args.place c.binary_search.result c.binary_search.ensures.position (rises_zero c.args.places.now c.requires))
