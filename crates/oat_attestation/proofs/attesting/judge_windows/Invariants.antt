use Rattle.std.proofs.Common.{take}
use Rattle.std.specs.List.{AllZip}
use Rattle.oat_build.specs.{IsBlobOf}
use Rattle.oat_attest.specs.{IsVerdict, subject_of}
use Rattle.oat_device.specs.DeviceRun.{bodies_so_far}
use Rattle.oat_attestation.proofs.attesting.judge_windows.Given as goal

abbrev pub invariant-loop-serial : goal.invariant-loop-serial
invariant-loop-serial l = record {
  blobs : AllZip (λ body bytes. IsBlobOf body l.device.case.session.key bytes) (take l.serial (bodies_so_far l.device)) l.blobs.items;
  verdicts : AllZip (IsVerdict (subject_of l.shaped l.session)) l.blobs.items l.verdicts.items;
}
