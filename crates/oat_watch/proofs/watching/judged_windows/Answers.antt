use Rattle.std.proofs.Common.{◌≡◌, ◌∙◌, ◌+◌, ◌<◌, ◌∷◌, [], ℕ, List, Some, length, length-append, slice_get, refl, sym, ap, subst, arith}
use Rattle.std.proofs.lemmas.Option.{slice_get_read}
use Rattle.oat_attest.specs.{Headline.calls_before, Case, window_of}
use Rattle.oat_device.specs.DeviceRun.{run_so_far, window_opening}
use Rattle.oat_watch.specs.{declared.watched.WatchedWindow.WatchedWindow, Shown.Holds, Watching.IsWatched, Watching.OfEach}
use Rattle.oat_watch.proofs.Verdicts.{each-more}
use Rattle.oat_watch.proofs.watching.judged_windows.Goals as goal

pub judged-requires-clause-holds : goal.judged-requires-clause-holds
judged-requires-clause-holds c =
    let device = c.args.device.now in
    let s = c.loop-serial.serial in
    let window = c.index-windows-serial.result in
    let counted = c.requires.windows.counted in
    let end = c.bodies-serial-end.ensures in
    let low = c.loop-serial-test.true in
    let below : s < length c.args.windows.now = omega (arith, counted, end, low) in
    let at : slice_get c.args.windows.now s ≡ Some window = slice_get_read c.args.windows.now (length c.args.windows.now) s window refl below c.index-windows-serial.is in
    subst (λ (op : ℕ). Holds c.args.shaped.now op (calls_before (window_opening device) s (run_so_far device)) (window_of (window_opening device) s (run_so_far device)) window)
    (ap (λ (x : Case). x.session.op) c.requires.whole.case_is) (c.requires.windows.holds s window at)

pub loop-serial-preserved : goal.loop-serial-preserved
loop-serial-preserved c =
    let old = c.loop-serial.shown.items in
    let window = c.in_ok-judged.field-0 in
    let inv = c.loop-serial.invariant in
    let claim = IsWatched c.args.shaped.now c.args.case.now c.args.device.now.begin_at in
    let items = c.in_ok-push.ensures.items in (
      ap (λ (ws : List WatchedWindow). length ws) items ∙ (length-append old (window ∷ []) ∙ ap (λ (n : ℕ). n + 1) inv.0),
      subst (λ (ws : List WatchedWindow). OfEach ws claim) (sym items) (each-more old window claim inv.1 (subst (λ (n : ℕ). claim n window) (sym inv.0) c.in_ok-judged.ensures)),
    )
