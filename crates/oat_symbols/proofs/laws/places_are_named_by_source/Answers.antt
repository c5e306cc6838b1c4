use Rattle.oat_symbols.proofs.SourceNames.{places_are_named}
use Rattle.oat_symbols.proofs.laws.places_are_named_by_source.Goals as goal

pub returns : goal.returns
returns c = places_are_named
