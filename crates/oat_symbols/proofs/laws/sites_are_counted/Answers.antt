use Rattle.oat_symbols.proofs.Sites.{sites_are_counted}
use Rattle.oat_symbols.proofs.laws.sites_are_counted.Goals as goal

pub returns : goal.returns
returns c = sites_are_counted
