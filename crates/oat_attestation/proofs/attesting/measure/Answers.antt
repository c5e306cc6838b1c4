use Rattle.std.proofs.Common.{ℕ, List, sym, ap, subst, ◌∙◌}
use Rattle.std.specs.List.{AllZip}
use Rattle.oat_build.specs.{Body, IsBlobOf, Case, sealed_bodies, Run, end_of}
use Rattle.oat_attest.specs.{IsVerdict, subject_of}
use Rattle.oat_device.specs.DeviceRun.{DeviceRun, bodies_so_far}
use Rattle.oat_attestation.proofs.attesting.measure.Goals as goal

pub returns-clause-tells : goal.returns-clause-tells
returns-clause-tells c =
    let case = c.args.case.now in
    let device = c.run-end.new.self in
    let h = c.steps_make_the_run.ensures c.args.shaped case _ _ c.in_ok-device.ensures c.run-end.ensures.whole in
    let key = ap (λ (d : DeviceRun). d.case.session.key) c.run-end.ensures.whole ∙ ap (λ (asked : Case). asked.session.key) c.in_ok-device.ensures.case in
    let under = subst (λ (k : List ℕ). AllZip (λ body bytes. IsBlobOf body k bytes) (bodies_so_far device) c.in_ok-windows.windows.blobs.items) key c.in_ok-windows.ensures.blobs in
    let blobs = subst (λ (bodies : List Body). AllZip (λ body bytes. IsBlobOf body case.session.key bytes) bodies c.in_ok-windows.windows.blobs.items)
    (λ i. sealed_bodies (h.opening i) (h.run i).measurements) under in
    record {
      begin_at = device.begin_at;
      begins = h.begins;
      end = c.run-end.ensures.ended ∙ ap end_of h.run;
      outputs = c.from_vec.ensures ∙ c.in_ok-outputs.ensures.items ∙ c.outputs.ensures ∙ ap (λ (run : Run). run.running.outputs) h.run;
      blobs = rw c.from_vec-2.ensures blobs;
      verdicts = rw (c.from_vec-2.ensures, c.from_vec-3.ensures) c.in_ok-windows.ensures.verdicts;
    }
