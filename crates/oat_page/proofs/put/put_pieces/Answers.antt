use Rattle.std.proofs.Common.{◌∙◌, ◌++◌, ℕ, List, ap, sym, append_assoc}
use Rattle.std.proofs.lemmas.Result.{err_from_is_err_and}
use Rattle.oat_page.proofs.Putting.{Adds-then, PutsAll-behind}
use Rattle.oat_page.proofs.put.put_pieces.Goals as goal

pub returns-in_err-put_all-in-Ok-Some : goal.returns-in_err-put_all-in-Ok-Some
returns-in_err-put_all-in-Ok-Some g c =
    let p = err_from_is_err_and c.from_residual.result c.from_residual.ensures.1 in
    let made = rw c.in-Ok-Some.field-0-is at c.in-Ok-Some.ensures in
    let so_far = c.loop-piece.invariant in
    rw (p.1, p.2) (PutsAll-behind _ _ so_far.0 c.as_slice.result.now _ _ _ _ _ _ _ _ so_far.1
    (made.0 ∙ ap (λ (x : List ℕ). x ++ g.P.Pieces.text c.next.new.self) (sym c.as_slice.ensures.value)) so_far.2 so_far.3
    c.in_err-put_all-in-Ok-Some.ensures)

pub loop-piece-preserved : goal.loop-piece-preserved
loop-piece-preserved g c =
    let made = rw c.in-Ok-Some.field-0-is at c.in-Ok-Some.ensures in
    let puts = rw c.as_slice.ensures.value at c.in_ok-put_all-in-Ok-Some.ensures in
    let so_far = c.loop-piece.invariant in
    let piece = c.in-Ok-Some.piece.items in (
      so_far.0 ++ piece,
      so_far.1 ∙ (ap (λ (x : List ℕ). so_far.0 ++ x) made.0 ∙ sym (append_assoc so_far.0 piece _)),
      Adds-then so_far.0 piece _ _ _ so_far.2 puts.1,
      puts.0 ∙ so_far.3,
    )
