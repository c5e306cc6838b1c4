use Rattle.std.proofs.Common.{ℕ, List, sym, ap, subst, ◌∙◌}
use Rattle.std.specs.List.{AllZip}
use Rattle.std.proofs.lemmas.Result.{IfOk-weaker}
use Rattle.oat_device.proofs.Whole.{steps_make_the_run}
use Rattle.oat_shown.specs.{Body, Case, Run, end_of, DeviceRun, IsSealed, bodies_so_far}
use Rattle.oat_room_device.specs.Device.{IsBlobUnder, sealed, unsealed}
use Rattle.oat_room_device.proofs.Running.{bodies_reported}
use Rattle.oat_room_device.proofs.device.run_case.Goals as goal

pub returns-in-Some : goal.returns-in-Some
returns-in-Some c =
    let h = steps_make_the_run c.args.shaped.now c.args.case.now _ _ c.in_ok-device.ensures c.run-end.ensures.whole in
    let device = c.run-end.new.self in
    let end = c.run-end.ensures.ended ∙ ap end_of h.run in
    let outputs = c.outputs.ensures ∙ ap (λ (run : Run). run.running.outputs) h.run in
    let key = ap (λ (d : DeviceRun). d.case.session.key) c.run-end.ensures.whole ∙ ap (λ (case : Case). case.session.key) c.in_ok-device.ensures.case in
    let under = subst (λ (k : List ℕ). AllZip (IsBlobUnder k) (bodies_so_far device) c.in_ok-blobs.blobs.items) key c.in_ok-blobs.ensures in
    let all = subst (λ (bodies : List Body). AllZip (IsBlobUnder c.args.case.now.session.key) bodies c.in_ok-blobs.blobs.items) (bodies_reported device c.args.shaped.now c.args.case.now h) under in
    record {
      begin_at = device.begin_at;
      begins = h.begins;
      shown = sealed (subst IsSealed h.run c.in-Some.ensures.sealed) c.in_ok-blobs.blobs.items all (rw (c.in_ok-lines.ensures, outputs, end) at c.sealed_page.ensures);
    }

pub returns : goal.returns
returns c =
    let h = steps_make_the_run c.args.shaped.now c.args.case.now _ _ c.in_ok-device.ensures c.run-end.ensures.whole in
    let device = c.run-end.new.self in
    let end = c.run-end.ensures.ended ∙ ap end_of h.run in
    let outputs = c.outputs.ensures ∙ ap (λ (run : Run). run.running.outputs) h.run in
    let key = ap (λ (d : DeviceRun). d.case.session.key) c.run-end.ensures.whole ∙ ap (λ (case : Case). case.session.key) c.in_ok-device.ensures.case in
    let under = subst (λ (k : List ℕ). AllZip (IsBlobUnder k) (bodies_so_far device) c.in_ok-blobs.blobs.items) key c.in_ok-blobs.ensures in
    let all = subst (λ (bodies : List Body). AllZip (IsBlobUnder c.args.case.now.session.key) bodies c.in_ok-blobs.blobs.items) (bodies_reported device c.args.shaped.now c.args.case.now h) under in
    let paged = rw (c.in_ok-lines.ensures, outputs, end) at c.unsealed_page.ensures in
    IfOk-weaker c.unsealed_page.result _ _ (λ page shown. record {
      begin_at = device.begin_at;
      begins = h.begins;
      shown = unsealed (λ shut. c.in-None.ensures (subst IsSealed (sym h.run) shut)) c.in_ok-blobs.blobs.items all shown;
    }) paged
