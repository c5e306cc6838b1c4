use Rattle.std.proofs.Common.{◌∙◌}
use Rattle.oat_owner.proofs.Tabling.{is_number}
use Rattle.oat_owner.proofs.challenge.Challenges.number_with.Goals as goal

pub returns-in-Some : goal.returns-in-Some
returns-in-Some c = rw (← c.self.view_is) (c.in-Some.ensures.index ∙ is_number c.self.inside.nonces.keys c.self.inside.items.items c.self.invariant c.args.nonce.now)

pub returns-in-None : goal.returns-in-None
returns-in-None c = rw (← c.self.view_is) (c.in-None.ensures.index ∙ is_number c.self.inside.nonces.keys c.self.inside.items.items c.self.invariant c.args.nonce.now)
