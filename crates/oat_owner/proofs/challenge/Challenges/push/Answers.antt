use Rattle.oat_owner.proofs.Tabling.{one_more}
use Rattle.oat_owner.proofs.challenge.Challenges.push.Goals as goal

pub invariant_of-self-in-Ok : goal.invariant_of-self-in-Ok
invariant_of-self-in-Ok c =
    let new = rw (← c.self.view_is) at c.requires.new in
    let room = rw (← c.self.view_is) at c.requires.room in
    rw c.in_ok-push.ensures.items
    (one_more c.self.inside.nonces.keys c.self.inside.items.items c.self.invariant c.args.challenge c.insert.new.self.keys new room c.in-Ok.ensures.keys c.in-Ok.ensures.unique)
