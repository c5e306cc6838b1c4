use Rattle.std.proofs.Common.{◌<◌, ◌∙◌, ◌++◌, ◌+◌, List, length, refl, sym, ap, subst}
use Rattle.std.proofs.lemmas.List.{length-map}
use Rattle.oat_watch.specs.declared.watched.WatchedWindow.{WatchedWindow}
use Rattle.oat_shown.specs.{Image, BeginsAt, shows, RunText.run_text, Windows.ended_with, Windows.want_text}
use Rattle.oat_shown.proofs.Windowing.{few_windows}
use Rattle.oat_room_device.specs.Trace.{parts_from, verdicts_on}
use Rattle.oat_room_device.proofs.Tracing.{refusals_are}
use Rattle.oat_room_device.proofs.trace.trace_case.Goals as goal

pub parts_of-requires : goal.parts_of-requires
parts_of-requires c =
    let at = c.requires.operation in
    let few = few_windows c.args.shaped.now c.args.case.now (at.0 + 4) _ c.requires.well_formed.calls (c.in_ok-watched.ensures.counted (at.0 + 4) (at.0, at.1, refl)) in
    record { few = subst (λ (ws : List WatchedWindow). length ws < 4294967296) (sym c.as_slice-windows.ensures.value) few }

pub returns : goal.returns
returns c =
    let flow = c.args.shaped.now.map in
    let calls = c.args.case.now.session.calls in
    let at = c.requires.operation in
    let begins : BeginsAt flow c.args.case.now.session.op (at.0 + 4) = (at.0, at.1, refl) in
    let watched = c.in_ok-watched.ensures in
    let windows = c.in_ok-watched.watched.windows.items in
    let value = c.as_slice-windows.ensures.value in
    let shown = c.as_slice-windows.result.now in
    let sealed = sym (length-map shown (λ (w : WatchedWindow). w.verdict)) in
    let ended = c.ended_with-ended.ensures (verdicts_on shown) sealed (c.refuses_one.ensures ∙ refusals_are shown) ∙ ap (λ (ws : List WatchedWindow). ended_with calls (verdicts_on ws)) value in
    let first = c.in_ok-lines.ensures ∙ ap (λ outputs. run_text outputs c.in_ok-watched.watched.end) (c.as_slice.ensures.value ∙ watched.outputs (at.0 + 4) begins)
    ∙ ap (run_text _) (watched.end (at.0 + 4) begins) in
    let second = c.of-2.ensures ∙ (c.in_ok-parts.ensures ∙ ap (λ (image : Image). parts_from image.map calls 0 c.as_slice-windows.result.now) c.image.ensures.same
    ∙ ap (λ (ws : List WatchedWindow). parts_from flow calls 0 ws) value) in
    let said = c.in_ok-said.ensures.items ∙ (c.want_text.ensures ∙ ap want_text ended) in
    record {
      begin_at = at.0 + 4;
      begins = begins;
      windows = windows;
      traced = record {
        counted = watched.counted (at.0 + 4) begins;
        shown = watched.shown (at.0 + 4) begins;
        judged = watched.judged (at.0 + 4) begins;
        parted = watched.parted (at.0 + 4) begins;
      };
      is = λ i. shows (ended i) (first i ++ second i) (said i);
    }
