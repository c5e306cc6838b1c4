use Rattle.std.proofs.Common.{◌∙◌, arith}
use Rattle.std.proofs.lemmas.Result.{err_from_is_err_and}
use Rattle.oat_page.proofs.{Holding.HaltsWith-more, Orders.Rose-later}
use Rattle.oat_shown.specs.{Rose, Outcome}
use Rattle.oat_room_owner.specs.Owner.{EnrolmentFails, EnrolmentsFail}
use Rattle.oat_room_owner.proofs.Enrolling.{AreEnrolled-next, EnrolmentFails-more, EnrolmentsFail-next, ids_next}
use Rattle.oat_room_owner.proofs.enrol.enrol_all.Goals as goal

pub loop-device-preserved : goal.loop-device-preserved
loop-device-preserved g c =
    let devices = c.args.devices.now in
    let i = c.loop-device.device-index in
    let d = c.device-item.result in
    let k = c.in_ok-enrolled.enrolled in
    let known = c.loop-device.known.items in
    record {
      same = c.enrol.ensures.same ∙ c.loop-device.invariant.same;
      faults_stay = omega (arith, c.enrol.ensures.faults_stay, c.loop-device.invariant.faults_stay);
      ids = rw c.in_ok-push.ensures.items (ids_next devices i d c.loop-device-test.true c.device-item.is known k c.loop-device.invariant.ids c.in_ok-enrolled.ensures.id);
      enrolled = λ contents told. rw c.in_ok-push.ensures.items
          (AreEnrolled-next devices i d c.loop-device-test.true c.device-item.is contents known k (c.loop-device.invariant.enrolled contents told)
          (c.in_ok-enrolled.ensures.enrols contents (c.loop-device.invariant.same ∙ told)));
    }

pub returns-in_err-enrolled-clause-enrols : goal.returns-in_err-enrolled-clause-enrols
returns-in_err-enrolled-clause-enrols g c = λ contents told.
    let p = err_from_is_err_and c.from_residual.result c.from_residual.ensures.1 in
    let devices = c.args.devices.now in
    let i = c.loop-device.device-index in
    let d = c.device-item.result in
    let inv = c.loop-device.invariant in
    let late = Rose (g.F.Files.faults c.loop-device.files) (g.F.Files.faults c.enrol.new.files) in
    let early = Rose (g.F.Files.faults c.args.files.now) (g.F.Files.faults c.enrol.new.files) in
    rw (p.1, p.2)
    (HaltsWith-more (EnrolmentFails contents late d) (EnrolmentsFail contents early devices) c.in_err-enrolled.field-0.0
    (λ (o : Outcome) failed. EnrolmentsFail-next devices i d c.loop-device-test.true c.device-item.is contents early c.loop-device.known.items o (inv.enrolled contents told)
    (EnrolmentFails-more contents late early d o (λ rises. Rose-later _ _ _ inv.faults_stay rises) failed))
    (c.in_err-enrolled.ensures.enrols contents (inv.same ∙ told)))
