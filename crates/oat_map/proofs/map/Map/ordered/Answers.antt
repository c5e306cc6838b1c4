use Rattle.std.proofs.Common.{arith}
use Rattle.oat_map.specs.declared.row.Row.TheVariants.{Jump}
use Rattle.oat_map.proofs.RowLemmas.{RisesBelow-next, not_ordered}
use Rattle.oat_map.proofs.map.Map.ordered.Goals as goal

pub returns-then-address : goal.returns-then-address
returns-then-address c =
    let falls = rw (c.address.ensures, c.address-in-loop-i.ensures) at c.if-address.true in
    (λ yes. (cc), λ ordered. absurd (not_ordered c.as_slice-rows.result.now c.loop-i.i (Jump 0 0) (omega arith) (omega arith) falls (rw c.as_slice-rows.ensures ordered)))

pub loop-i-preserved : goal.loop-i-preserved
loop-i-preserved c =
    let rises = rw (c.address.ensures, c.address-in-loop-i.ensures) at c.if-address.false in
    RisesBelow-next c.as_slice-rows.result.now c.loop-i.i (Jump 0 0) (omega arith) (omega arith) rises c.loop-i.invariant
