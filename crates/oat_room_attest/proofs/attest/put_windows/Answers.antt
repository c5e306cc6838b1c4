use Rattle.std.proofs.Common.{◌∙◌, ◌∷◌, [], ◌+◌, ◌++◌, ℕ, List, Option, length-append, sym, ap, subst, append_assoc}
use Rattle.std.specs.Vec.Iter.{into_iter_items}
use Rattle.std.proofs.lemmas.Result.{err_from_is_err_and}
use Rattle.oat_page.proofs.Putting.{Adds-then, PutsAll-behind}
use Rattle.oat_shown.specs.{Adds, Windows.window_number}
use Rattle.oat_room_attest.specs.Attest.{window_text, windows_from}
use Rattle.oat_room_attest.proofs.WindowLines.{next_window}
use Rattle.oat_room_attest.proofs.attest.put_windows.Goals as goal

pub returns-in_err-put_window : goal.returns-in_err-put_window
returns-in_err-put_window g c =
    let p = err_from_is_err_and c.from_residual.result c.from_residual.ensures.1 in
    let so_far = c.loop-blob.invariant in
    let before = c.loop-blob.yielded in
    let is = sym c.into_iter-blob-iterator.ensures.into_iter_gives.0 ∙ (sym so_far.3 ∙ ap (λ (rest : List (List ℕ)). before ++ rest) c.in-Some.ensures.steps.0) in
    let flow = c.args.map.now in
    let verdict = c.index-verdicts-serial.result in
    let next = next_window flow c.args.calls c.args.blobs.items before c.loop-blob.serial c.in-Some.blob (into_iter_items c.next.new.self) c.args.verdicts.now
    verdict is c.requires.each so_far.0 c.index-verdicts-serial.is in
    rw (p.1, p.2) (PutsAll-behind (windows_from flow c.args.calls 0 c.args.blobs.items c.args.verdicts.now)
    (window_text flow (window_number c.args.calls c.loop-blob.serial) c.in-Some.blob verdict ++ next.left)
    (windows_from flow c.args.calls 0 before c.args.verdicts.now) (window_text flow c.window_number-number.result c.in-Some.blob verdict) next.left
    _ _ _ _ _ _ _ next.parted
    (ap (λ (number : Option ℕ). window_text flow number c.in-Some.blob verdict ++ next.left) (sym c.window_number-number.ensures))
    so_far.2 so_far.1 c.in_err-put_window.ensures)

pub loop-blob-preserved : goal.loop-blob-preserved
loop-blob-preserved g c =
    let so_far = c.loop-blob.invariant in
    let before = c.loop-blob.yielded in
    let blob = c.in-Some.blob in
    let steps = ap (λ (rest : List (List ℕ)). before ++ rest) c.in-Some.ensures.steps.0 in
    let is = sym c.into_iter-blob-iterator.ensures.into_iter_gives.0 ∙ (sym so_far.3 ∙ steps) in
    let flow = c.args.map.now in
    let verdict = c.index-verdicts-serial.result in
    let next = next_window flow c.args.calls c.args.blobs.items before c.loop-blob.serial blob (into_iter_items c.next.new.self) c.args.verdicts.now
    verdict is c.requires.each so_far.0 c.index-verdicts-serial.is in
    let put = c.in_ok-put_window.ensures in
    let piece = window_text flow (window_number c.args.calls c.loop-blob.serial) blob verdict in
    let told = g.S.Sink.told c.put_window.new.sink in
    let added = subst (λ (number : Option ℕ). Adds (g.S.Sink.told c.loop-blob.sink) (window_text flow number blob verdict) told)
    c.window_number-number.ensures put.1 in (
      ap (λ (n : ℕ). n + 1) so_far.0 ∙ sym (length-append before (blob ∷ [])),
      put.0 ∙ so_far.1,
      subst (λ (text : List ℕ). Adds (g.S.Sink.told c.args.sink.now) text told) (sym next.pushed)
          (Adds-then (windows_from flow c.args.calls 0 before c.args.verdicts.now) piece _ _ _ so_far.2 added),
      append_assoc before (blob ∷ []) (into_iter_items c.next.new.self) ∙ (sym steps ∙ so_far.3),
    )
