use Rattle.std.proofs.Common.{◌≡◌, ◌++◌, ◌∷◌, [], length, refl, Some, sym, ◌∙◌, append-nil, arith}
use Rattle.oat_map.specs.{declared.row.Row.TheVariants.Ret, Stack.IsStack, Walk.moved, Walk.depth}
use Rattle.oat_map.proofs.StackLemmas.{depth-is, Returns-top, IsStack-return}
use Rattle.oat_replay.specs.declared.cause.ReplayCause.TheVariants.{Underflow}
use Rattle.oat_replay.proofs.TurnLemmas.{stuck_at, plus_none, StandsBehind-same, StandsBehind-step}
use Rattle.oat_map.specs.declared.edge.Edge.TheVariants as edges
use Rattle.oat_replay.proofs.replay.Replay.take_return.Goals as goal

pub returns : goal.returns
returns c = λ bits targets flow op steps behind here.
    let popped : c.args.self.now.stack.items ≡ c.pop.new.self.items ++ c.in-Some.back ∷ [] = c.in-Some.ensures.items in
    let open_calls : IsStack steps (c.pop.new.self.items ++ c.in-Some.back ∷ []) = rw popped at behind.open_calls in
    StandsBehind-step flow op bits targets c.args.self.now steps behind c.go.new.self (moved (edges.Ret c.args.at c.in-Some.back)) c.in-Some.back
    behind.bits_left behind.targets_left c.requires
    (Ret c.args.at, here, (refl, Returns-top steps c.pop.new.self.items c.in-Some.back open_calls)) refl refl
    (rw c.go.ensures.same_stack (IsStack-return steps c.pop.new.self.items c.in-Some.back open_calls c.args.at c.in-Some.back))
    c.go.ensures.same_map c.go.ensures.same_op c.go.ensures.place c.go.ensures.turns
    (plus_none _ _ c.go.ensures.same_bits) (plus_none _ _ c.go.ensures.same_targets)

pub returns-in_default : goal.returns-in_default
returns-in_default c = λ bits targets flow op steps behind here.
    let popped : c.args.self.now.stack.items ≡ c.pop.new.self.items ++ [] = c.in_default.ensures.items in
    let empty = c.in_default.ensures.cases.0 in
    let counted = c.args.self.now.stack.ok.0 in
    let closed : depth steps ≡ length c.args.self.now.stack.items = depth-is steps c.args.self.now.stack.items behind.open_calls in (
      StandsBehind-same flow op bits targets c.args.self.now steps behind _ refl refl refl (sym (append-nil _) ∙ sym popped) refl refl refl,
      stuck_at flow op bits targets c.args.self.now steps behind (Some (Ret c.args.at)) Underflow here c.requires (omega arith, refl),
    )
