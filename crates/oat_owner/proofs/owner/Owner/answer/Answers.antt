use Rattle.oat_owner.proofs.Keeping.{kept_spent}
use Rattle.oat_owner.proofs.owner.Owner.answer.Goals as goal

pub invariant_of-self : goal.invariant_of-self
invariant_of-self c = rw c.spend.ensures (kept_spent c.self.inside.devices c.self.inside.challenges c.in-Accepted.number c.self.invariant)
