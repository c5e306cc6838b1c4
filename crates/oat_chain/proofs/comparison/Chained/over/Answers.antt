use Rattle.std.proofs.Common.{ℕ, List, sym, subst, take}
use Rattle.std.proofs.lemmas.List.{take_more}
use Rattle.oat_chain.specs.Standing.{IsChained}
use Rattle.oat_chain.proofs.comparison.Chained.over.Goals as goal

pub loop-address-preserved : goal.loop-address-preserved
loop-address-preserved c =
    let head = c.args.head.now in
    let addresses = c.args.addresses.now in
    let absorbed = c.absorb.ensures head (take c.loop-address.address-index addresses) c.loop-address.invariant in
    subst (λ (so_far : List ℕ). IsChained c.absorb.new.self head so_far)
    (sym (take_more addresses c.loop-address.address-index _ c.loop-address-test.true)) absorbed
