use Rattle.std.proofs.Common.{ap}
use Rattle.oat_owner.specs.declared.challenge.Challenge.{Challenge}
use Rattle.oat_owner.proofs.Tabling.{one_changed, spent_is_set}
use Rattle.oat_owner.proofs.challenge.Challenges.spend.Goals as goal

pub invariant_of-self : goal.invariant_of-self
invariant_of-self c =
    one_changed c.self.inside.nonces.keys c.self.inside.items.items c.self.invariant c.args.number _ c.index_mut.result.now (ap (λ (x : Challenge). x.nonce) c.index_mut.ensures.value)

pub returns : goal.returns
returns c =
    rw (← c.self.view_is) (spent_is_set c.self.inside.items.items c.args.number c.index_mut.result.now (rw (← c.self.view_is) at c.requires) c.index_mut.ensures.value)
