use Rattle.oat_case.proofs.WritesInLimits.{well_formed_is}
use Rattle.oat_case.proofs.case.Case.well_formed.Goals as goal

pub returns : goal.returns
returns c = well_formed_is c.args.self.now c.is_in_limits.result c.is_in_limits.ensures
