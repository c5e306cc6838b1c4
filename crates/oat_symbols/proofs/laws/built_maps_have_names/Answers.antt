use Rattle.oat_symbols.proofs.Names.{built_maps_have_names}
use Rattle.oat_symbols.proofs.laws.built_maps_have_names.Goals as goal

pub returns : goal.returns
returns c = built_maps_have_names
