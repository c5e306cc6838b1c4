use Rattle.std.proofs.Common.{◌<◌, ◌≤◌, ◌∙◌, ◌++◌, ℕ, List, length, take_all, sym, ap}
use Rattle.oat_watch.specs.declared.watched.WatchedWindow.{WatchedWindow}
use Rattle.oat_shown.specs.Windows.{window_number}
use Rattle.oat_room_device.specs.Trace.{part_text, parts_from}
use Rattle.oat_room_device.proofs.Tracing.{part_taken}
use Rattle.oat_room_device.proofs.trace.parts_of.Goals as goal

pub loop-serial-preserved : goal.loop-serial-preserved
loop-serial-preserved c =
    let flow = c.args.map.now in
    let calls = c.args.calls in
    let windows = c.args.windows.now in
    let s = c.loop-serial.serial in
    let below : s < length windows = c.loop-serial-test.true in
    let part = c.in_ok-put_part.ensures ∙ ap (λ n. c.loop-serial.text.items ++ part_text flow n c.index-windows-serial.result) c.window_number.ensures in
    part ∙ (ap (λ (text : List ℕ). text ++ part_text flow (window_number calls s) c.index-windows-serial.result) c.loop-serial.invariant
    ∙ sym (part_taken flow calls windows s c.index-windows-serial.result below c.index-windows-serial.is))

pub returns : goal.returns
returns c =
    let windows = c.args.windows.now in
    let s = c.loop-serial.serial in
    let past : length windows ≤ s = c.loop-serial-test.false in
    c.loop-serial.invariant ∙ ap (λ (ws : List WatchedWindow). parts_from c.args.map.now c.args.calls 0 ws) (take_all s windows past)
