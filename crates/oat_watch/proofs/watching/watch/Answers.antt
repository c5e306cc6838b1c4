use Rattle.std.proofs.Common.{◌∙◌, ℕ, List, length, ap, subst}
use Rattle.oat_attest.specs.{Body, Run, end_of, opening_of}
use Rattle.oat_watch.specs.Watching.{HasItsVerdict, HasWholeRun, Parts, ShowsWindow, watched_run}
use Rattle.oat_watch.proofs.Verdicts.{bodies-are, made-whole, opens-there, run-is}
use Rattle.oat_watch.proofs.watching.watch.Goals as goal

pub returns-clause-end : goal.returns-clause-end
returns-clause-end c =
    let image = c.args.shaped.now in
    let case = c.args.case.now in
    let device = c.run-end.new.self in
    let shaped = c.image-image.ensures.shaped in
    let w : HasWholeRun device image case = made-whole image case c.in_ok-device.device c.windows_of.new.device device c.in_ok-device.ensures c.in_ok-windows.ensures.whole c.run-end.ensures.whole in
    λ begin_at begins.
    c.run-end.ensures.ended ∙ ap end_of (run-is image case device shaped w begin_at begins)

pub returns-clause-outputs : goal.returns-clause-outputs
returns-clause-outputs c =
    let image = c.args.shaped.now in
    let case = c.args.case.now in
    let device = c.run-end.new.self in
    let shaped = c.image-image.ensures.shaped in
    let w : HasWholeRun device image case = made-whole image case c.in_ok-device.device c.windows_of.new.device device c.in_ok-device.ensures c.in_ok-windows.ensures.whole c.run-end.ensures.whole in
    λ begin_at begins.
    c.in_ok-outputs.ensures.items ∙ (c.outputs.ensures ∙ ap (λ (run : Run). run.running.outputs) (run-is image case device shaped w begin_at begins))

pub returns-clause-counted : goal.returns-clause-counted
returns-clause-counted c =
    let image = c.args.shaped.now in
    let case = c.args.case.now in
    let device = c.run-end.new.self in
    let shaped = c.image-image.ensures.shaped in
    let w : HasWholeRun device image case = made-whole image case c.in_ok-device.device c.windows_of.new.device device c.in_ok-device.ensures c.in_ok-windows.ensures.whole c.run-end.ensures.whole in
    λ begin_at begins.
    c.in_ok-windows-2.ensures.counted ∙ ap (λ (bodies : List Body). length bodies) (bodies-are image case device shaped w begin_at begins)

pub returns-clause-shown : goal.returns-clause-shown
returns-clause-shown c =
    let image = c.args.shaped.now in
    let case = c.args.case.now in
    let device = c.run-end.new.self in
    let shaped = c.image-image.ensures.shaped in
    let w : HasWholeRun device image case = made-whole image case c.in_ok-device.device c.windows_of.new.device device c.in_ok-device.ensures c.in_ok-windows.ensures.whole c.run-end.ensures.whole in
    λ begin_at begins s shown is.
    let there = opens-there image case device shaped w begin_at begins in
    let watched = c.in_ok-windows-2.ensures.watched s shown is in
    subst (λ (b : ℕ). ShowsWindow image (opening_of image case.session b) (watched_run image case b) s shown) there watched.shows

pub returns-clause-judged : goal.returns-clause-judged
returns-clause-judged c =
    let image = c.args.shaped.now in
    let case = c.args.case.now in
    let device = c.run-end.new.self in
    let shaped = c.image-image.ensures.shaped in
    let w : HasWholeRun device image case = made-whole image case c.in_ok-device.device c.windows_of.new.device device c.in_ok-device.ensures c.in_ok-windows.ensures.whole c.run-end.ensures.whole in
    λ begin_at begins s shown is.
    let there = opens-there image case device shaped w begin_at begins in
    let watched = c.in_ok-windows-2.ensures.watched s shown is in
    subst (λ (b : ℕ). HasItsVerdict image case.session b (watched_run image case b) s shown) there watched.judged

pub returns-clause-parted : goal.returns-clause-parted
returns-clause-parted c =
    let image = c.args.shaped.now in
    let case = c.args.case.now in
    let device = c.run-end.new.self in
    let shaped = c.image-image.ensures.shaped in
    let w : HasWholeRun device image case = made-whole image case c.in_ok-device.device c.windows_of.new.device device c.in_ok-device.ensures c.in_ok-windows.ensures.whole c.run-end.ensures.whole in
    λ begin_at begins s shown is.
    let there = opens-there image case device shaped w begin_at begins in
    let watched = c.in_ok-windows-2.ensures.watched s shown is in
    subst (λ (b : ℕ). Parts image case.session (opening_of image case.session b) (watched_run image case b) s shown) there watched.parts

pub returns-clause-agrees : goal.returns-clause-agrees
returns-clause-agrees c = λ given s shown is. (c.in_ok-windows-2.ensures.watched s shown is).agrees given
