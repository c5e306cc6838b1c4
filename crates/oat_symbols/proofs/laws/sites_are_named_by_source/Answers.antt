use Rattle.oat_symbols.proofs.SourceSites.{sites_are_named}
use Rattle.oat_symbols.proofs.laws.sites_are_named_by_source.Goals as goal

pub returns : goal.returns
returns c = sites_are_named
