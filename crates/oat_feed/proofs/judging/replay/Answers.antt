use Rattle.std.proofs.Common.{◌+◌, ◌++◌, ◌∷◌, [], ℕ, List, refl, sym, ap, subst, ◌∙◌, length-append}
use Rattle.oat_shape.proofs.Laid.{laid}
use Rattle.oat_verify.specs.{Chain, StandsFor, moved, passed, path_of, returns_of, Verdict.head_of, Verdict.stuck, Verdict.subject_of, Verdict.walked}
use Rattle.oat_feed.proofs.{Replaying.returns-done, Replaying.returns-moved, Replaying.returns-passed, judging.replay.Goals.in-Moved, judging.replay.Goals.in-Passed}
use Rattle.oat_feed.proofs.judging.replay.Goals as goal

pub new-requires-clause-ordered : goal.new-requires-clause-ordered
new-requires-clause-ordered c =
    rw c.image.ensures.same (laid c.args.shaped.now c.image.ensures.well_formed c.image.ensures.shaped).ordered

pub loop-turn-init : goal.loop-turn-init
loop-turn-init c = record {
  steps = [];
  behind = rw c.image.ensures.same at c.in_ok-replay.ensures _ _;
  chained = subst (λ (head : List ℕ). StandsFor c.start-chain.result head []) (rw (c.digest.ensures, c.head-body.ensures) at c.window_head-head.ensures) c.start-chain.ensures;
  turn_is = refl;
}

pub returns-in-Done : goal.returns-in-Done
returns-in-Done c =
    let so_far = c.loop-turn.invariant in
    let done = c.in-Done.ensures _ _ so_far.steps so_far.behind in
    let steps = so_far.steps ++ moved c.in-Done.field-0 ∷ [] in
    let opening = head_of (subject_of c.args.shaped.now c.args.session.now) c.args.blob.now.body.head.serial in
    let stands = subst (λ (returns : List ℕ). StandsFor c.loop-turn.chain opening returns) (sym (returns-done so_far.steps c.in-Done.field-0 _ done.1)) so_far.chained in
    let tells = c.judge_chain.ensures opening c.args.blob.now.body (path_of steps) stands (sym c.head-body.ensures) in
    record { verdict = tells.verdict; right = walked (path_of steps) done.2 tells.right; told = tells.told }

pub returns-in-Stuck : goal.returns-in-Stuck
returns-in-Stuck c =
    let so_far = c.loop-turn.invariant in
    record {
      verdict = _;
      right = stuck c.in-Stuck.cause c.loop-turn.turn (rw so_far.turn_is (c.in-Stuck.ensures _ _ so_far.steps so_far.behind).1) refl;
      told = refl;
    }

pub loop-turn-preserved : goal.loop-turn-preserved
loop-turn-preserved c =
    let so_far = c.loop-turn.invariant in
    let opening : List ℕ = head_of (subject_of c.args.shaped.now c.args.session.now) c.args.blob.now.body.head.serial in
    elim c.match-turn.branch [
      | in-Moved w ↦ record {
        steps = so_far.steps ++ moved w.in-Moved.edge ∷ [];
        behind = w.in-Moved.ensures _ _ so_far.steps so_far.behind;
        chained = subst (λ (returns : List ℕ). StandsFor c.match-turn.chain opening returns) (sym (returns-moved so_far.steps w.in-Moved.edge))
            (subst (λ (chain : Chain). StandsFor chain opening (returns_of (path_of so_far.steps) ++ returns_of (w.in-Moved.edge ∷ []))) (sym w.chain-is)
            (w.absorb_return.ensures opening (returns_of (path_of so_far.steps)) so_far.chained));
        turn_is = ap (λ n. n + 1) (so_far.turn_is ∙ sym (length-append so_far.steps (moved w.in-Moved.edge ∷ [])));
      }
      | in-Passed w ↦ record {
        steps = so_far.steps ++ passed ∷ [];
        behind = w.in-Passed.ensures _ _ so_far.steps so_far.behind;
        chained = subst (λ (returns : List ℕ). StandsFor c.match-turn.chain opening returns) (sym (returns-passed so_far.steps))
            (subst (λ (chain : Chain). StandsFor chain opening (returns_of (path_of so_far.steps))) (sym w.chain-is) so_far.chained);
        turn_is = ap (λ n. n + 1) (so_far.turn_is ∙ sym (length-append so_far.steps (passed ∷ [])));
      }
    ]
