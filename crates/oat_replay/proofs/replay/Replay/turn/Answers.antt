use Rattle.std.proofs.Common.{refl, sym, ap, ◌∙◌, None, Some}
use Rattle.oat_map.specs.{declared.row.Row.TheVariants.Jump, declared.row.Row.TheVariants.Branch, declared.row.Row.TheVariants.Call, declared.row.Row.TheVariants.ICall}
use Rattle.oat_map.specs.{declared.row.Row.TheVariants.Ret, declared.row.Row.TheVariants.Begin, declared.row.Row.TheVariants.End, Rows.after, Walk.passed}
use Rattle.oat_map.proofs.StackLemmas.{IsStack-passed}
use Rattle.oat_replay.specs.declared.cause.ReplayCause.TheVariants.{OffCode, Nested}
use Rattle.oat_replay.proofs.TurnLemmas.{next_is, stuck_at, pass_goes, plus_none, StandsBehind-step}
use Rattle.oat_replay.proofs.replay.Replay.turn.Goals as goal

pub returns-in_default : goal.returns-in_default
returns-in_default g c = λ flow op steps behind. (
  behind,
  stuck_at flow op _ _ c.args.self.now steps behind None OffCode
      (next_is flow op _ _ c.args.self.now steps behind None (sym c.row_behind.ensures ∙ c.in_default.is)) c.if-self-ge-PATH_LIMIT.false refl,
)

pub returns-in-Jump : goal.returns-in-Jump
returns-in-Jump g c = λ flow op steps behind.
    c.take_jump.ensures _ _ flow op steps behind (next_is flow op _ _ c.args.self.now steps behind (Some (Jump c.in-Jump.at c.in-Jump.to)) (sym c.row_behind.ensures ∙ c.in-Some.is ∙ ap (λ row. Some row) c.in-Jump.is))

pub returns-in-Branch : goal.returns-in-Branch
returns-in-Branch g c = λ flow op steps behind.
    c.take_branch.ensures flow op steps behind (next_is flow op _ _ c.args.self.now steps behind (Some (Branch c.in-Branch.at c.in-Branch.taken c.in-Branch.other)) (sym c.row_behind.ensures ∙ c.in-Some.is ∙ ap (λ row. Some row) c.in-Branch.is))

pub returns-in-Call : goal.returns-in-Call
returns-in-Call g c = λ flow op steps behind.
    c.take_call.ensures _ _ flow op steps behind (next_is flow op _ _ c.args.self.now steps behind (Some (Call c.in-Call.at c.in-Call.to)) (sym c.row_behind.ensures ∙ c.in-Some.is ∙ ap (λ row. Some row) c.in-Call.is))

pub returns-in-ICall : goal.returns-in-ICall
returns-in-ICall g c = λ flow op steps behind.
    c.take_indirect_call.ensures flow op steps behind (next_is flow op _ _ c.args.self.now steps behind (Some (ICall c.in-ICall.at c.in-ICall.params)) (sym c.row_behind.ensures ∙ c.in-Some.is ∙ ap (λ row. Some row) c.in-ICall.is))

pub returns-in-Ret : goal.returns-in-Ret
returns-in-Ret g c = λ flow op steps behind.
    c.take_return.ensures _ _ flow op steps behind (next_is flow op _ _ c.args.self.now steps behind (Some (Ret c.in-Ret.at)) (sym c.row_behind.ensures ∙ c.in-Some.is ∙ ap (λ row. Some row) c.in-Ret.is))

pub returns-in-End : goal.returns-in-End
returns-in-End g c = λ flow op steps behind.
    c.take_end.ensures flow op steps behind (next_is flow op _ _ c.args.self.now steps behind (Some (End c.in-End.at c.in-End.op)) (sym c.row_behind.ensures ∙ c.in-Some.is ∙ ap (λ row. Some row) c.in-End.is))

pub returns-in-Begin : goal.returns-in-Begin
returns-in-Begin g c = λ flow op steps behind. (
  behind,
  stuck_at flow op _ _ c.args.self.now steps behind (Some (Begin c.in-Begin.at c.in-Begin.op)) Nested
      (next_is flow op _ _ c.args.self.now steps behind (Some (Begin c.in-Begin.at c.in-Begin.op))
      (sym c.row_behind.ensures ∙ c.in-Some.is ∙ ap (λ row. Some row) c.in-Begin.is)) c.if-self-ge-PATH_LIMIT.false refl,
)

pub returns-in-UseCell : goal.returns-in-UseCell
returns-in-UseCell g c = λ flow op steps behind.
    StandsBehind-step flow op _ _ c.args.self.now steps behind c.go.new.self passed (after c.in-Some.row)
    behind.bits_left behind.targets_left c.if-self-ge-PATH_LIMIT.false (
      c.in-Some.row,
      next_is flow op _ _ c.args.self.now steps behind (Some c.in-Some.row) (sym c.row_behind.ensures ∙ c.in-Some.is),
      pass_goes flow c.in-Some.row steps c.in-UseCell.is,
    ) refl refl
    (rw c.go.ensures.same_stack (IsStack-passed steps _ behind.open_calls))
    c.go.ensures.same_map c.go.ensures.same_op (c.go.ensures.place ∙ c.after.ensures) c.go.ensures.turns
    (plus_none _ _ c.go.ensures.same_bits) (plus_none _ _ c.go.ensures.same_targets)
