use Rattle.std.proofs.Common.{◌<◌, length, refl, sym, arith}
use Rattle.oat_verify.specs.{fails, passes}
use Rattle.oat_owner.proofs.Keeping.{kept_more, begun_operation}
use Rattle.oat_owner.proofs.owner.Owner.issue.Goals as goal

pub returns-in_default-begin_at-clause-reply : goal.returns-in_default-begin_at-clause-reply
returns-in_default-begin_at-clause-reply c =
    rw (← c.self.view_is) (passes c.in-Some.known.now (sym c.in-Some.ensures) (fails (c.in_default-begin_at.ensures, refl)))

pub returns-in-Some-number_with-clause-reply : goal.returns-in-Some-number_with-clause-reply
returns-in-Some-number_with-clause-reply c =
    rw (← c.self.view_is)
    (passes c.in-Some.known.now (sym c.in-Some.ensures)
    (passes tt (begun_operation c.in-Some.known.now.shaped.map c.args.op c.in-Some-begin_at.field-0 c.in-Some-begin_at.ensures)
    (fails (c.in-Some-number_with.number, sym c.in-Some-number_with.ensures, refl))))

pub returns-then-number-ge65536-clause-reply : goal.returns-then-number-ge65536-clause-reply
returns-then-number-ge65536-clause-reply c =
    rw (← c.self.view_is)
    (passes c.in-Some.known.now (sym c.in-Some.ensures)
    (passes tt (begun_operation c.in-Some.known.now.shaped.map c.args.op c.in-Some-begin_at.field-0 c.in-Some-begin_at.ensures)
    (passes tt (sym c.in_default-number_with.ensures)
    (fails ((λ (below : length c.self.inside.challenges < 65536). omega (arith, below, c.len-number.ensures.exact, c.if-number-ge65536.true)), refl)))))

pub returns-clause-reply : goal.returns-clause-reply
returns-clause-reply c =
    rw (← c.self.view_is)
    (passes c.in-Some.known.now (sym c.in-Some.ensures)
    (passes tt (begun_operation c.in-Some.known.now.shaped.map c.args.op c.in-Some-begin_at.field-0 c.in-Some-begin_at.ensures)
    (passes tt (sym c.in_default-number_with.ensures)
    (passes tt (omega (arith, c.len-number.ensures.exact, c.if-number-ge65536.false))
    (rw (c.len-number.ensures.exact, c.in_ok-frame.ensures) refl)))))

pub invariant_of-self-2 : goal.invariant_of-self-2
invariant_of-self-2 c =
    rw c.in_ok-push.ensures.pushed
    (kept_more c.self.inside.devices c.self.inside.challenges _ c.self.invariant
    (record {
      device = c.in-Some.known.now;
      is_known = sym c.in-Some.ensures;
      operation = begun_operation c.in-Some.known.now.shaped.map c.args.op c.in-Some-begin_at.field-0 c.in-Some-begin_at.ensures;
    }))
