use Rattle.std.proofs.Common.{◌≡◌, refl, cond, Some}
use Rattle.oat_map.specs.{declared.row.Row.TheVariants.Branch, Walk.moved}
use Rattle.oat_map.proofs.StackLemmas.{IsStack-branch}
use Rattle.oat_replay.specs.declared.cause.ReplayCause.TheVariants.{BitsEnd}
use Rattle.oat_replay.proofs.{TurnLemmas.stuck_at, TurnLemmas.no_bits, TurnLemmas.next_bit, TurnLemmas.branch_goes, TurnLemmas.plus_none, TurnLemmas.StandsBehind-step}
use Rattle.oat_replay.proofs.{replay.Replay.take_branch.Goals.then-bit, replay.Replay.take_branch.Goals.else-bit}
use Rattle.oat_map.specs.declared.edge.Edge.TheVariants as edges
use Rattle.oat_replay.proofs.replay.Replay.take_branch.Goals as goal

pub returns-then-self-bit_count : goal.returns-then-self-bit_count
returns-then-self-bit_count g c = λ flow op steps behind here. (
  behind,
  stuck_at flow op _ _ c.args.self.now steps behind (Some (Branch c.args.at c.args.taken c.args.other)) BitsEnd here c.requires
      (no_bits flow op _ _ c.args.self.now steps behind (rw c.bit_count.ensures at c.if-self-bit_count.true), refl),
)

pub returns : goal.returns
returns g c = λ flow op steps behind here.
    let bit = next_bit flow op _ _ c.args.self.now steps behind c.bit-bit.result c.bit-bit.ensures in
    let chosen : c.if-bit.to ≡ cond c.bit-bit.result c.args.taken c.args.other = elim c.if-bit.branch [
      | then-bit w ↦ rw w.if-bit.true w.to-is
      | else-bit w ↦ rw w.if-bit.false w.to-is
    ] in
    StandsBehind-step flow op _ _ c.args.self.now steps behind c.go.new.self (moved (edges.Branch c.args.at c.bit-bit.result c.if-bit.to)) c.if-bit.to
    bit.0 behind.targets_left c.requires
    (Branch c.args.at c.args.taken c.args.other, here, branch_goes flow c.args.at c.args.taken c.args.other steps c.bit-bit.result c.if-bit.to chosen)
    bit.1 refl (rw c.go.ensures.same_stack (IsStack-branch steps _ behind.open_calls c.args.at c.bit-bit.result c.if-bit.to))
    c.go.ensures.same_map c.go.ensures.same_op c.go.ensures.place c.go.ensures.turns
    c.go.ensures.same_bits (plus_none _ _ c.go.ensures.same_targets)
