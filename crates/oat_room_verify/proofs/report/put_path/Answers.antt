use Rattle.std.proofs.Common.{◌≡◌, ◌∙◌, ◌+◌, ◌++◌, ◌∷◌, [], ℕ, List, ap, refl, sym, subst, length-append}
use Rattle.std.proofs.lemmas.Result.{err_from_is_err_and}
use Rattle.oat_shape.proofs.Laid.{laid}
use Rattle.oat_replay.proofs.ReplayLemmas.{never_both}
use Rattle.oat_page.proofs.Putting.{Adds-nothing, Adds-then, PutsAll-behind, PutsAll-then}
use Rattle.oat_shown.specs.{Adds, Image, moved, passed, path_of, put_of, PutsAll, Report.path_text}
use Rattle.oat_room_verify.proofs.{Retracing.is_last, Retracing.is_next, Retracing.text_moved, Retracing.text_passed, report.put_path.Goals.in-Moved+in_ok-put_edge-in-Moved}
use Rattle.oat_room_verify.proofs.{report.put_path.Goals.in-Passed}
use Rattle.oat_room_verify.proofs.report.put_path.Goals as goal

pub new-requires-clause-ordered : goal.new-requires-clause-ordered
new-requires-clause-ordered g c =
    rw c.image.ensures.same (laid c.args.shaped.now c.image.ensures.well_formed c.image.ensures.shaped).ordered

pub loop-turn-init : goal.loop-turn-init
loop-turn-init g c = record { steps = []; behind = rw c.image.ensures.same at c.in-Ok.ensures _ _; put = Adds-nothing _; faults = refl; turn_is = refl }

pub loop-turn-preserved : goal.loop-turn-preserved
loop-turn-preserved g c =
    let so_far = c.loop-turn.invariant in
    let flow = c.args.shaped.now.map in
    elim c.match-turn.branch [
      | in-Moved+in_ok-put_edge-in-Moved w ↦
          let edge = w.in-Moved.edge in
          let put = rw c.image.ensures.same at w.in_ok-put_edge-in-Moved.ensures in
          rw w.sink-is (record {
            steps = so_far.steps ++ moved edge ∷ [];
            behind = w.in-Moved.ensures _ _ so_far.steps so_far.behind;
            put = subst (λ (text : List ℕ). Adds (g.S.Sink.told c.args.sink.now) text (g.S.Sink.told w.put_edge.new.sink)) (sym (text_moved flow so_far.steps edge))
                (Adds-then (path_text flow (path_of so_far.steps)) (path_text flow (edge ∷ [])) _ _ _ so_far.put put.1);
            faults = put.0 ∙ so_far.faults;
            turn_is = ap (λ n. n + 1) so_far.turn_is ∙ sym (length-append so_far.steps (moved edge ∷ []));
          })
      | in-Passed w ↦
          rw w.sink-is (record {
            steps = so_far.steps ++ passed ∷ [];
            behind = w.in-Passed.ensures _ _ so_far.steps so_far.behind;
            put = subst (λ (text : List ℕ). Adds (g.S.Sink.told c.args.sink.now) text (g.S.Sink.told c.loop-turn.sink)) (sym (text_passed flow so_far.steps)) so_far.put;
            faults = so_far.faults;
            turn_is = ap (λ n. n + 1) so_far.turn_is ∙ sym (length-append so_far.steps (passed ∷ []));
          })
    ]

pub returns-in_err-put_edge-in-Moved : goal.returns-in_err-put_edge-in-Moved
returns-in_err-put_edge-in-Moved g c = λ path walked.
    let p = err_from_is_err_and c.from_residual.result c.from_residual.ensures.1 in
    let so_far = c.loop-turn.invariant in
    let flow = c.args.shaped.now.map in
    let edge = c.in-Moved.edge in
    let next = is_next flow c.args.op _ _ path c.turn.new.self so_far.steps edge walked (c.in-Moved.ensures _ _ so_far.steps so_far.behind) in
    rw (p.1, p.2) (PutsAll-behind (path_text flow path) (path_text flow (edge ∷ []) ++ next.left) (path_text flow (path_of so_far.steps))
    (path_text c.image.result.now.map (edge ∷ [])) next.left _ _ _ _ _ _ _ next.parted
    (ap (λ (i : Image). path_text i.map (edge ∷ []) ++ next.left) (sym c.image.ensures.same)) so_far.put so_far.faults c.in_err-put_edge-in-Moved.ensures)

pub returns-in-Done : goal.returns-in-Done
returns-in-Done g c = λ path walked.
    let so_far = c.loop-turn.invariant in
    let flow = c.args.shaped.now.map in
    let edge = c.in-Done.edge in
    let front = path_text flow (path_of so_far.steps) in
    let last : path_text flow path ≡ front ++ path_text c.image.result.now.map (edge ∷ []) =
    is_last flow c.args.op _ _ path so_far.steps edge walked (c.in-Done.ensures _ _ so_far.steps so_far.behind).2
    ∙ ap (λ (i : Image). front ++ path_text i.map (edge ∷ [])) (sym c.image.ensures.same) in
    subst (λ (text : List ℕ). PutsAll text (put_of g.S.Sink.told g.S.Sink.faults c.args.sink.now c.put_edge-in-Done.new.sink) c.put_edge-in-Done.result) (sym last)
    (PutsAll-then front (path_text c.image.result.now.map (edge ∷ [])) front _ _ _ _ _ _ c.put_edge-in-Done.result refl so_far.put so_far.faults c.put_edge-in-Done.ensures)

pub unreachable-requires : goal.unreachable-requires
unreachable-requires g c =
    let so_far = c.loop-turn.invariant in
    never_both c.args.shaped.now.map c.args.op _ _ c.requires.walked.0 _ _ c.requires.walked.1 (c.in-Stuck.ensures _ _ so_far.steps so_far.behind).1
