use Rattle.oat_shape.proofs.LastGroups.{clear_iff}
use Rattle.oat_shape.proofs.covers.is_clear.Goals as goal

pub returns : goal.returns
returns c = clear_iff c.args.rows.now c.args.place c.end_below.result c.requires.within c.end_below.ensures
