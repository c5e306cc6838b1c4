use Rattle.oat_symbols.proofs.CallSites.{call_sites_are_found}
use Rattle.oat_symbols.proofs.laws.call_sites_are_found.Goals as goal

pub returns : goal.returns
returns c = call_sites_are_found
