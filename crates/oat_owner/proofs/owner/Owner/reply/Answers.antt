use Rattle.std.proofs.Common.{refl, sym}
use Rattle.oat_verify.specs.{fails, passes}
use Rattle.oat_owner.proofs.{Keeping.kept_operation, Tabling.asked_is}
use Rattle.oat_owner.proofs.owner.Owner.reply.Goals as goal

pub returns-in_default : goal.returns-in_default
returns-in_default c = rw (← c.self.view_is) (passes (record { device = c.in-Ok.delivery.device; nonce = c.in-Ok.delivery.nonce; blob = c.in-Ok.delivery.blob.now }) c.in-Ok.ensures.found (fails (sym c.in_default.ensures, refl)))

pub returns-in_default-number_to : goal.returns-in_default-number_to
returns-in_default-number_to c =
    rw (← c.self.view_is)
    (passes (record { device = c.in-Ok.delivery.device; nonce = c.in-Ok.delivery.nonce; blob = c.in-Ok.delivery.blob.now }) c.in-Ok.ensures.found
    (passes c.in-Some.device.now (sym c.in-Some.ensures) (fails (sym c.in_default-number_to.ensures, refl))))

pub returns-then-challenge : goal.returns-then-challenge
returns-then-challenge c =
    rw (← c.self.view_is)
    (passes (record { device = c.in-Ok.delivery.device; nonce = c.in-Ok.delivery.nonce; blob = c.in-Ok.delivery.blob.now }) c.in-Ok.ensures.found
    (passes c.in-Some.device.now (sym c.in-Some.ensures)
    (passes (record { number = c.in-Some-number_to.number; challenge = c.get-challenge.result.now }) (sym c.in-Some-number_to.ensures, c.get-challenge.ensures)
    (fails (c.if-challenge.true, refl)))))

pub returns : goal.returns
returns c =
    rw (← c.self.view_is)
    (passes (record { device = c.in-Ok.delivery.device; nonce = c.in-Ok.delivery.nonce; blob = c.in-Ok.delivery.blob.now }) c.in-Ok.ensures.found
    (passes c.in-Some.device.now (sym c.in-Some.ensures)
    (passes (record { number = c.in-Some-number_to.number; challenge = c.get-challenge.result.now }) (sym c.in-Some-number_to.ensures, c.get-challenge.ensures)
    (passes tt c.if-challenge.false (c.in_ok-judge.field-0, c.in_ok-judge.ensures, c.judged.ensures)))))

pub judge-requires : goal.judge-requires
judge-requires c =
    let challenge = c.get-challenge.result.now in
    let is = asked_is c.self.inside.challenges c.in-Ok.delivery.device c.in-Ok.delivery.nonce c.in-Some-number_to.number challenge (sym c.in-Some-number_to.ensures) c.get-challenge.ensures in
    kept_operation c.self.inside.devices c.self.inside.challenges c.in-Some-number_to.number challenge c.in-Ok.delivery.device c.in-Some.device.now
    c.self.invariant c.get-challenge.ensures is.1 (sym c.in-Some.ensures)
