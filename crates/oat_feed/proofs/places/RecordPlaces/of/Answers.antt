use Rattle.std.proofs.Common.{rules}
use Rattle.oat_feed.proofs.PlacesAre.{no_places, places_are}
use Rattle.oat_feed.proofs.places.RecordPlaces.of.Goals as goal

pub returns-in_default : goal.returns-in_default
returns-in_default c = λ body mac rest blob. no_places c.args.front.now rest mac body blob (c.in_default.ensures.size body mac rest blob)

pub returns : goal.returns
returns c = λ body mac rest blob.
    places_are c.args.front.now rest mac body c.in-Some.size c.count_at-bit_count.result _ _ blob (c.in-Some.ensures.size body mac rest blob) c.count_at-bit_count.ensures (search rules) c.count_at.ensures
