use Rattle.std.proofs.Common.{◌≡◌, ◌+◌, ◌++◌, ◌∷◌, [], true, refl, sym, ap, ◌∙◌, arith, length-append}
use Rattle.std.specs.Prelude.{is_ok}
use Rattle.oat_map.specs.Walk.{path_of, passed, moved}
use Rattle.oat_replay.proofs.{WalkSoFar.path-push, WalkSoFar.path-pass, path.walk.Goals.in-Moved+else-is_err, path.walk.Goals.in-Passed}
use Rattle.oat_replay.proofs.ReplayLemmas as lemmas
use Rattle.oat_replay.proofs.path.walk.Goals as goal

pub loop-turn-init : goal.loop-turn-init
loop-turn-init g c = record { steps = []; behind = c.in-Ok.ensures _ _; path_is = c.new-path.ensures.items; turn_is = refl }

pub loop-turn-preserved : goal.loop-turn-preserved
loop-turn-preserved g c =
    let so_far = c.loop-turn.invariant in
    elim c.match-turn.branch [
      | in-Moved+else-is_err w ↦
          let step = moved w.in-Moved.edge in
          let took : is_ok w.push.result ≡ true = w.if-is_err.ensures.negation in
          let pushed : w.push.new.self.items ≡ c.loop-turn.path.items ++ w.in-Moved.edge ∷ [] = rw took at w.push.ensures.items in
          record {
            steps = so_far.steps ++ step ∷ [];
            behind = w.in-Moved.ensures _ _ so_far.steps so_far.behind;
            path_is = ap (λ path. path.items) w.path-is ∙ pushed ∙ ap (λ path. path ++ w.in-Moved.edge ∷ []) so_far.path_is
                ∙ sym (path-push so_far.steps w.in-Moved.edge);
            turn_is = ap (λ n. n + 1) (so_far.turn_is ∙ sym (length-append so_far.steps (step ∷ [])));
          }
      | in-Passed w ↦
          record {
            steps = so_far.steps ++ passed ∷ [];
            behind = w.in-Passed.ensures _ _ so_far.steps so_far.behind;
            path_is = ap (λ path. path.items) w.path-is ∙ so_far.path_is ∙ sym (path-pass so_far.steps);
            turn_is = ap (λ n. n + 1) (so_far.turn_is ∙ sym (length-append so_far.steps (passed ∷ [])));
          }
    ]

pub unreachable-requires : goal.unreachable-requires
unreachable-requires g c =
    let so_far = c.loop-turn.invariant in
    let within = so_far.behind.follows.within in
    let counted = so_far.turn_is in
    omega arith

pub returns-in-Stuck-clause-stuck : goal.returns-in-Stuck-clause-stuck
returns-in-Stuck-clause-stuck g c =
    let so_far = c.loop-turn.invariant in
    rw so_far.turn_is (c.in-Stuck.ensures _ _ so_far.steps so_far.behind).1

pub returns-in-Done-clause-walks : goal.returns-in-Done-clause-walks
returns-in-Done-clause-walks g c =
    let so_far = c.loop-turn.invariant in
    let took : is_ok c.push-in-Done.result ≡ true = c.if-is_err-2.ensures.negation in
    let pushed : c.push-in-Done.new.self.items ≡ c.loop-turn.path.items ++ c.in-Done.edge ∷ [] = rw took at c.push-in-Done.ensures.items in
    let path_is : c.from_vec.result ≡ path_of (so_far.steps ++ moved c.in-Done.edge ∷ []) =
    c.from_vec.ensures ∙ pushed ∙ ap (λ path. path ++ c.in-Done.edge ∷ []) so_far.path_is
    ∙ sym (path-push so_far.steps c.in-Done.edge) in
    rw path_is (c.in-Done.ensures _ _ so_far.steps so_far.behind).2

pub returns-in-Done-clause-only : goal.returns-in-Done-clause-only
returns-in-Done-clause-only g c = λ other also.
    lemmas.one_path c.args.map.now c.args.op _ _ other c.from_vec.result also (returns-in-Done-clause-walks g c)

pub returns-in-Stuck-clause-found : goal.returns-in-Stuck-clause-found
returns-in-Stuck-clause-found g c = λ path walked.
    absurd (lemmas.never_both c.args.map.now c.args.op _ _ path c.in-Stuck.cause _ walked (returns-in-Stuck-clause-stuck g c))
