use Rattle.std.proofs.Common.{slice_get, ap, ◌∙◌, arith}
use Rattle.std.specs.Option.{option_and_then}
use Rattle.oat_map.proofs.RowLemmas.{next_at_position}
use Rattle.oat_replay.proofs.RowSearch.{IsBetween-behind, IsBetween-before, HasLeft-next, found, not_found}
use Rattle.oat_replay.proofs.search.find_row.Goals as goal

pub loop-low-preserved-then-address-t : goal.loop-low-preserved-then-address-t
loop-low-preserved-then-address-t g c =
    let (between, has) = c.loop-low.invariant in
    let some = c.loop-low-test.true in
    let less = rw c.address.ensures.address at c.if-address-t.true in (
      IsBetween-behind _ _ c.len-high.ensures.rising _ _ _ between (omega arith) (omega arith) less,
      rw c.address.ensures.step (HasLeft-next _ _ _ _ _ (omega arith) (omega arith) has),
    )

pub loop-low-preserved : goal.loop-low-preserved
loop-low-preserved g c =
    let (between, has) = c.loop-low.invariant in
    let some = c.loop-low-test.true in
    let least = rw c.address.ensures.address at c.if-address-t.false in (
      IsBetween-before _ _ c.len-high.ensures.rising _ _ _ between (omega arith) (omega arith) least,
      rw c.address.ensures.step (HasLeft-next _ _ _ _ _ (omega arith) (omega arith) has),
    )

pub returns-then-low-len-clause-index : goal.returns-then-low-len-clause-index
returns-then-low-len-clause-index g c = λ rows indexed.
    let between = rw indexed at c.loop-low.invariant.0 in
    let within = rw (c.len.ensures.count, indexed) at c.if-low-len.true in
    found rows c.args.t c.loop-low.low c.loop-low.high c.loop-low-test.false between within

pub returns-else-low-len-clause-index : goal.returns-else-low-len-clause-index
returns-else-low-len-clause-index g c = λ rows indexed.
    let between = rw indexed at c.loop-low.invariant.0 in
    let past = rw (c.len.ensures.count, indexed) at c.if-low-len.false in
    not_found rows c.args.t c.loop-low.low c.loop-low.high c.loop-low-test.false between past

pub returns-then-low-len-clause-row : goal.returns-then-low-len-clause-row
returns-then-low-len-clause-row g c = λ rows indexed.
    ap (λ place. option_and_then (slice_get rows) place) (returns-then-low-len-clause-index g c rows indexed) ∙ next_at_position rows c.args.t

pub returns-else-low-len-clause-row : goal.returns-else-low-len-clause-row
returns-else-low-len-clause-row g c = λ rows indexed.
    ap (λ place. option_and_then (slice_get rows) place) (returns-else-low-len-clause-index g c rows indexed) ∙ next_at_position rows c.args.t
