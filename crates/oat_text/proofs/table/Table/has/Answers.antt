use Rattle.std.proofs.Common.{◌∙◌}
use Rattle.oat_text.proofs.Tables.{any_named}
use Rattle.oat_text.proofs.table.Table.has.Goals as goal

pub returns : goal.returns
returns g c = rw (← c.self.view_is) (c.contains.ensures ∙ any_named g.T.Called.called c.self.inside.names.keys c.self.inside.items.items c.self.invariant.0 c.args.name.now)
