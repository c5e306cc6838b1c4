use Rattle.std.proofs.Common.{◌≡◌, refl, ap, sym, ◌∙◌}
use Rattle.sha2.specs.Sha256.{sha256}
use Rattle.oat_chain.specs.Chain.{link, window_head}
use Rattle.oat_chain.proofs.Lengths.{chain-push}
use Rattle.oat_measure.proofs.states.Measuring.ret.Goals as goal

pub returns-clause-step : goal.returns-clause-step
returns-clause-step c =
    let o = c.self.inside.opening in
    let before = c.self.invariant.running in
    let after = c.absorb.ensures (window_head o.nonce o.op o.digest o.serial) before.addresses before.stands in
    let chained : c.absorb.new.self.value ≡ sha256 (link c.self.inside.chain.value c.args.address) =
    after.digest ∙ (chain-push (window_head o.nonce o.op o.digest o.serial) before.addresses c.args.address ∙ ap (λ hash. sha256 (link hash c.args.address)) (sym before.stands.digest)) in
    rw (← c.self.view_is, chained) refl
