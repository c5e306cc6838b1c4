use Rattle.std.proofs.Common.{◌+◌, ◌++◌, [], ◌∷◌, ℕ, List, take, sym, ap, subst, ◌∙◌, arith}
use Rattle.std.specs.List.{AllZip}
use Rattle.oat_build.specs.{Body, IsBlobOf}
use Rattle.oat_attest.specs.{IsVerdict, subject_of}
use Rattle.oat_device.specs.DeviceRun.{bodies_so_far}
use Rattle.oat_attestation.proofs.Places.{zip_more, zip_up_to}
use Rattle.oat_attestation.proofs.attesting.judge_windows.Goals as goal

pub loop-serial-preserved : goal.loop-serial-preserved
loop-serial-preserved c =
    let bodies = bodies_so_far c.args.device.now in
    let serial = c.loop-serial.serial in
    let bytes = c.in_ok-blob.blob.items in
    let below = c.loop-serial-test.true in
    let count = c.bodies-count.ensures in
    let is_blob = λ (body : Body) (blob : List ℕ). IsBlobOf body c.args.device.now.case.session.key blob in
    let is_verdict = IsVerdict (subject_of c.args.shaped.now c.args.session.now) in
    let verdict = subst (λ (blob : List ℕ). is_verdict blob c.in_ok-verify.field-0) c.as_slice.ensures.value c.in_ok-verify.ensures in
    let blobs = c.in_ok-push-2.ensures.items ∙ ap (λ (blob : List ℕ). c.loop-serial.blobs.items ++ blob ∷ []) c.from_vec.ensures in
    record {
      blobs = subst (AllZip is_blob (take (serial + 1) bodies)) (sym blobs)
          (zip_up_to is_blob bodies c.loop-serial.blobs.items serial bytes (omega (arith, below, count)) c.loop-serial.invariant.blobs c.in_ok-blob.ensures);
      verdicts = rw (blobs, c.in_ok-push.ensures.items)
          (zip_more is_verdict c.loop-serial.blobs.items c.loop-serial.verdicts.items bytes c.in_ok-verify.field-0 c.loop-serial.invariant.verdicts verdict);
    }
