use Rattle.std.proofs.Common.{◌∙◌}
use Rattle.oat_text.proofs.Tables.{place_named}
use Rattle.oat_text.proofs.table.Table.number.Goals as goal

pub returns-in-Some : goal.returns-in-Some
returns-in-Some g c =
    rw (← c.self.view_is) (c.in-Some.ensures.index ∙ place_named g.T.Called.called c.self.inside.names.keys c.self.inside.items.items c.self.invariant.0 c.args.name.now)

pub returns-in-None : goal.returns-in-None
returns-in-None g c =
    rw (← c.self.view_is) (c.in-None.ensures.index ∙ place_named g.T.Called.called c.self.inside.names.keys c.self.inside.items.items c.self.invariant.0 c.args.name.now)
