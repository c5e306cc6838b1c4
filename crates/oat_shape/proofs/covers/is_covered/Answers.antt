use Rattle.oat_shape.proofs.LastGroups.{covered_iff}
use Rattle.oat_shape.proofs.covers.is_covered.Goals as goal

pub returns : goal.returns
returns c = covered_iff c.args.rows.now c.args.place c.end_below.result c.requires.within c.end_below.ensures
