use Rattle.std.proofs.Common.{◌≡◌, true, refl, Some}
use Rattle.oat_map.specs.{declared.row.Row.TheVariants.ICall, Walk.moved}
use Rattle.oat_map.proofs.StackLemmas.{IsStack-icall}
use Rattle.oat_replay.specs.{Replay.no_target, Replay.bad_target, declared.cause.ReplayCause.TheVariants.TargetsEnd, declared.cause.ReplayCause.TheVariants.BadTarget}
use Rattle.oat_replay.proofs.TurnLemmas.{stuck_at, no_targets, next_target, own_target, flow_target, plus_none, StandsBehind-step}
use Rattle.oat_map.specs.declared.edge.Edge.TheVariants as edges
use Rattle.oat_replay.proofs.replay.Replay.take_indirect_call.Goals as goal

pub returns-then-self-target_count : goal.returns-then-self-target_count
returns-then-self-target_count g c = λ flow op steps behind here. (
  behind,
  stuck_at flow op _ _ c.args.self.now steps behind (Some (ICall c.args.at c.args.params)) TargetsEnd here c.requires
      (no_target (no_targets flow op _ _ c.args.self.now steps behind (rw c.target_count.ensures at c.if-self-target_count.true)) refl),
)

pub returns-then-not-is_indirect_target : goal.returns-then-not-is_indirect_target
returns-then-not-is_indirect_target g c = λ flow op steps behind here.
    let target = next_target flow op _ _ c.args.self.now steps behind c.target-to.result c.target-to.ensures in
    let refused = c.if-not-is_indirect_target.true in (
      behind,
      stuck_at flow op _ _ c.args.self.now steps behind (Some (ICall c.args.at c.args.params)) (BadTarget c.target-to.result) here c.requires
          (bad_target c.target-to.result target.0 target.1
          (λ allowed.
          let found : c.is_indirect_target.result ≡ true =
          c.is_indirect_target.ensures.1 (own_target flow op _ _ c.args.self.now steps behind c.args.params c.target-to.result allowed) in
          cc)
          refl),
    )

pub returns : goal.returns
returns g c = λ flow op steps behind here.
    let target = next_target flow op _ _ c.args.self.now steps behind c.target-to.result c.target-to.ensures in
    let accepted : c.is_indirect_target.result ≡ true = c.if-not-is_indirect_target.false in
    let allowed = flow_target flow op _ _ c.args.self.now steps behind c.args.params c.target-to.result (c.is_indirect_target.ensures.0 accepted) in
    StandsBehind-step flow op _ _ c.args.self.now steps behind c.enter.new.self (moved (edges.ICall c.args.at c.target-to.result)) c.target-to.result
    behind.bits_left target.0 c.requires (ICall c.args.at c.args.params, here, (refl, allowed)) refl target.1
    (rw (c.enter.ensures.stack, c.after.ensures) (IsStack-icall steps _ behind.open_calls c.args.at c.args.params c.target-to.result))
    c.enter.ensures.same_map c.enter.ensures.same_op c.enter.ensures.place c.enter.ensures.turns
    (plus_none _ _ c.enter.ensures.same_bits) c.enter.ensures.same_targets
