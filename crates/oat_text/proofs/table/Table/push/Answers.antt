use Rattle.std.proofs.Common.{◌≡◌, ◌++◌, ◌∷◌, [], ◌∙◌}
use Rattle.oat_text.proofs.Tables.{grown, has_room}
use Rattle.oat_text.proofs.table.Table.push.Goals as goal

pub invariant_of-self-in-Ok : goal.invariant_of-self-in-Ok
invariant_of-self-in-Ok g c =
    let called = g.T.Called.called in
    let before = c.self.inside.items.items in
    let new = rw (← c.self.view_is) at c.requires.new in
    let room = rw (← c.self.view_is) at c.requires.room in
    let key : c.extend_from_slice.new.self.items ≡ called c.args.item = c.in_ok-extend_from_slice.ensures.items ∙ rw c.new-name.ensures.items c.called.ensures in
    let same = grown called c.self.inside.names.keys before c.self.invariant.0 c.extend_from_slice.new.self c.args.item c.insert.new.self.keys key new c.in-Ok.ensures.keys in
    let pushed : c.push.new.self.items ≡ before ++ c.args.item ∷ [] = c.in_ok-push.ensures.items in
    (rw pushed same, has_room before c.push.new.self.items c.args.item pushed room)
