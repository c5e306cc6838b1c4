use Rattle.std.proofs.Common.{refl}
use Rattle.oat_map.specs.{declared.row.Row.TheVariants.Jump, Walk.moved}
use Rattle.oat_map.proofs.StackLemmas.{IsStack-jump}
use Rattle.oat_replay.proofs.TurnLemmas.{plus_none, StandsBehind-step}
use Rattle.oat_map.specs.declared.edge.Edge.TheVariants as edges
use Rattle.oat_replay.proofs.replay.Replay.take_jump.Goals as goal

pub returns : goal.returns
returns c = λ bits targets flow op steps behind here.
    StandsBehind-step flow op bits targets c.args.self.now steps behind c.go.new.self (moved (edges.Jump c.args.at c.args.to)) c.args.to
    behind.bits_left behind.targets_left c.requires (Jump c.args.at c.args.to, here, (refl, refl)) refl refl
    (rw c.go.ensures.same_stack (IsStack-jump steps _ behind.open_calls c.args.at c.args.to))
    c.go.ensures.same_map c.go.ensures.same_op c.go.ensures.place c.go.ensures.turns
    (plus_none _ _ c.go.ensures.same_bits) (plus_none _ _ c.go.ensures.same_targets)
