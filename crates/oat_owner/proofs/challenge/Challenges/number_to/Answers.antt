use Rattle.std.proofs.Common.{◌∙◌}
use Rattle.oat_owner.proofs.Tabling.{none_to, found_to, other_to}
use Rattle.oat_owner.proofs.challenge.Challenges.number_to.Goals as goal

pub returns-in_err-index : goal.returns-in_err-index
returns-in_err-index c =
    rw (← c.self.view_is) (c.from_residual.ensures ∙ none_to c.self.inside.nonces.keys c.self.inside.items.items c.self.invariant c.args.device c.args.nonce.now c.in_err-index.ensures.index)

pub returns-then-index-device : goal.returns-then-index-device
returns-then-index-device c =
    rw (← c.self.view_is)
    (found_to c.self.inside.nonces.keys c.self.inside.items.items c.self.invariant c.args.device c.args.nonce.now c.in_ok-index.index c.index.result.now
    c.in_ok-index.ensures.index c.index.ensures c.if-index-device.true)

pub returns-else-index-device : goal.returns-else-index-device
returns-else-index-device c =
    rw (← c.self.view_is)
    (other_to c.self.inside.nonces.keys c.self.inside.items.items c.self.invariant c.args.device c.args.nonce.now c.in_ok-index.index c.index.result.now
    c.in_ok-index.ensures.index c.index.ensures c.if-index-device.false)
