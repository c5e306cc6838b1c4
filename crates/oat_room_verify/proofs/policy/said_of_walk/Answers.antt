use Rattle.std.proofs.Common.{◌≡◌, ◌∙◌, ◌+◌, ◌++◌, ◌∷◌, [], ap, refl, sym, subst, length-append}
use Rattle.oat_shape.proofs.Laid.{laid}
use Rattle.oat_replay.proofs.ReplayLemmas.{never_both, one_path}
use Rattle.oat_policy.specs.{Standing.HasSeen, Verdict.verdict_of}
use Rattle.oat_shown.specs.{moved, passed, path_of}
use Rattle.oat_room_verify.proofs.{Policing.followed_is_short, Policing.has_room, Policing.walked_is_short, Retracing.path_passed, Retracing.path_pushed, policy.said_of_walk.Goals.in-Moved}
use Rattle.oat_room_verify.proofs.{policy.said_of_walk.Goals.in-Passed}
use Rattle.oat_room_verify.proofs.policy.said_of_walk.Goals as goal

pub new-requires-clause-ordered : goal.new-requires-clause-ordered
new-requires-clause-ordered c =
    rw c.image.ensures.same (laid c.args.shaped.now c.image.ensures.well_formed c.image.ensures.shaped).ordered

pub loop-turn-init : goal.loop-turn-init
loop-turn-init c = record {
  steps = [];
  behind = rw c.image.ensures.same at c.in_ok-replay.ensures _ _;
  seen = rw c.image.ensures.same at c.in_ok-watch.ensures;
  turn_is = refl;
}

pub edge-requires : goal.edge-requires
edge-requires c =
    let so_far = c.loop-turn.invariant in
    let behind = c.in-Moved.ensures _ _ so_far.steps so_far.behind in
    record { room = has_room c.loop-turn.watch _ _ so_far.steps c.in-Moved.edge so_far.seen (followed_is_short _ _ _ _ _ _ behind) }

pub loop-turn-preserved : goal.loop-turn-preserved
loop-turn-preserved c =
    let so_far = c.loop-turn.invariant in
    let rules = c.args.policy.now in
    let flow = c.args.shaped.now.map in
    elim c.match-turn.branch [
      | in-Moved w ↦
          let edge = w.in-Moved.edge in
          rw w.watch-is (record {
            steps = so_far.steps ++ moved edge ∷ [];
            behind = w.in-Moved.ensures _ _ so_far.steps so_far.behind;
            seen = subst (HasSeen w.edge.new.self rules flow) (sym (path_pushed so_far.steps edge)) (w.edge.ensures rules flow (path_of so_far.steps) so_far.seen);
            turn_is = ap (λ n. n + 1) so_far.turn_is ∙ sym (length-append so_far.steps (moved edge ∷ []));
          })
      | in-Passed w ↦
          rw w.watch-is (record {
            steps = so_far.steps ++ passed ∷ [];
            behind = w.in-Passed.ensures _ _ so_far.steps so_far.behind;
            seen = subst (HasSeen c.loop-turn.watch rules flow) (sym (path_passed so_far.steps)) so_far.seen;
            turn_is = ap (λ n. n + 1) so_far.turn_is ∙ sym (length-append so_far.steps (passed ∷ []));
          })
    ]

pub edge-requires-in-Done : goal.edge-requires-in-Done
edge-requires-in-Done c =
    let so_far = c.loop-turn.invariant in
    let done = c.in-Done.ensures _ _ so_far.steps so_far.behind in
    record { room = has_room c.loop-turn.watch _ _ so_far.steps c.in-Done.edge so_far.seen (walked_is_short _ _ _ _ _ done.2) }

pub returns-in-Done : goal.returns-in-Done
returns-in-Done c = λ path walked.
    let so_far = c.loop-turn.invariant in
    let rules = c.args.policy.now in
    let flow = c.args.shaped.now.map in
    let edge = c.in-Done.edge in
    let done = c.in-Done.ensures _ _ so_far.steps so_far.behind in
    let whole = path_of so_far.steps ++ edge ∷ [] in
    let same : path ≡ whole =
    one_path flow c.args.op _ _ path (path_of (so_far.steps ++ moved edge ∷ [])) walked done.2 ∙ path_pushed so_far.steps edge in
    c.finish.ensures rules flow whole (c.edge-in-Done.ensures rules flow (path_of so_far.steps) so_far.seen) ∙ ap (verdict_of flow rules) (sym same)

pub unreachable-requires : goal.unreachable-requires
unreachable-requires c =
    let so_far = c.loop-turn.invariant in
    never_both c.args.shaped.now.map c.args.op _ _ c.requires.walked.0 _ _ c.requires.walked.1 (c.in-Stuck.ensures _ _ so_far.steps so_far.behind).1
