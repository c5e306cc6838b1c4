use Rattle.std.proofs.Common.{refl}
use Rattle.oat_map.specs.{declared.row.Row.TheVariants.Call, Walk.moved}
use Rattle.oat_map.proofs.StackLemmas.{IsStack-call}
use Rattle.oat_replay.proofs.TurnLemmas.{plus_none, StandsBehind-step}
use Rattle.oat_map.specs.declared.edge.Edge.TheVariants as edges
use Rattle.oat_replay.proofs.replay.Replay.take_call.Goals as goal

pub returns : goal.returns
returns c = λ bits targets flow op steps behind here.
    StandsBehind-step flow op bits targets c.args.self.now steps behind c.enter.new.self (moved (edges.Call c.args.at c.args.to)) c.args.to
    behind.bits_left behind.targets_left c.requires (Call c.args.at c.args.to, here, (refl, refl)) refl refl
    (rw (c.enter.ensures.stack, c.after.ensures) (IsStack-call steps _ behind.open_calls c.args.at c.args.to))
    c.enter.ensures.same_map c.enter.ensures.same_op c.enter.ensures.place c.enter.ensures.turns
    (plus_none _ _ c.enter.ensures.same_bits) (plus_none _ _ c.enter.ensures.same_targets)
