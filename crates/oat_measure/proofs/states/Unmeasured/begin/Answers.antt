use Rattle.std.proofs.Common.{◌≡◌, true, refl, ap, ◌∙◌, eq-eqb}
use Rattle.std.specs.Prelude.{nat_eq}
use Rattle.sha2.specs.Sha256.{sha256}
use Rattle.oat_chain.specs.Chain.{window_head, chain}
use Rattle.oat_measure.proofs.states.Unmeasured.begin.Goals as goal

pub returns-clause-step : goal.returns-clause-step
unfolding chain
returns-clause-step c =
    let o = c.self.inside.opening in
    let hashed : c.start.result.value ≡ sha256 (window_head o.nonce o.op o.digest o.serial) = c.start.ensures.digest ∙ ap sha256 c.window_head-head.ensures in
    let of_op : nat_eq c.args.op o.op ≡ true = eq-eqb c.args.op o.op (c.if-op-from.false ∙ c.from.ensures) in
    let from_there : nat_eq c.args.at o.begin_at ≡ true = eq-eqb c.args.at o.begin_at c.if-at-opening.false in
    rw (← c.self.view_is, of_op, from_there, hashed) refl
