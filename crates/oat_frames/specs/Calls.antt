-- What a call comes to: the callee's frame lies below the caller's, and the run stands behind its prologue; or a trap, where the reference is null or 256 calls are active.
use Rattle.std.specs.{Prelude.◌≡◌, Prelude.◌+◌, Prelude.◌-◌, Prelude.true, Prelude.◌*◌, Prelude.◌<◌, Prelude.◌≤◌, Prelude.ℕ, Prelude.List, Prelude.[], Prelude.◌∷◌, Prelude.length, Prelude.map}
use Rattle.std.specs.{Prelude.Some, Prelude.None, Prelude.get_or, List.list_any}
use Rattle.oat_asm.specs.{Depth, NullCall, is_called_at}
use Rattle.oat_check.specs.{I64, Fn, Steps.Frame}
use Rattle.oat_follow.specs.{Running, Events.MachineEvent, Events.moves, Reaching.RunsTo}
use Rattle.oat_frames.specs.{Moments.KeepsGoing, Frames.World, Frames.IsWorld, Frames.IsSlotted, Frames.IsAt, Frames.HoldsState, Frames.line_address, Comes.StepsTo, Comes.EndsWithin, Code.CodeStands}
use Rattle.oat_frames.specs.{Code.call_code, Code.icall_code, Code.prologue}
use Rattle.oat_asm.specs.edges as edges
use Rattle.oat_follow.specs.ends as ends

-- which function is called, of which locals, and where the result goes
pub record CallSite : Type 0 where
  pub callee : ℕ
  pub args : List ℕ
  pub result : ℕ

-- the callee's frame: the arguments, then zeros and nulls
abbrev pub callee_frame : CallSite → Frame → Frame
callee_frame c f = record { func = c.callee; block = 0; line = 0; locals = λ i. get_or (map f.locals c.args) i 0 }

-- where the prologue of a function ends
abbrev pub prologue_end : World → ℕ → ℕ
prologue_end w func = w.label func + 8 + 4 * w.locals func

-- a function with so many parameters
pub record IsFunctionAt (w : World) (callee params : ℕ) : Type 0 where
  pub start : CodeStands w (w.label callee) (prologue (w.is_leaf callee) params (w.locals callee))

-- The callee's frame is laid, and the run stands behind its prologue.
pub record IsBehindPrologue (w : World) (f : Frame) (callers : List Frame) (globals : ℕ → ℕ) (c : CallSite) (m : Running) : Type 0 where
  pub going : m.end ≡ None
  pub pc : m.machine.regs.pc ≡ prologue_end w c.callee
  pub holds : HoldsState w c.callee (callee_frame c f).locals (f ∷ callers) globals m.machine.regs.x m.machine.regs.sp m.machine.memory

-- ---- a direct call

-- what a checked and laid out program says of a call
pub record IsCallAt (w : World) (f : Frame) (c : CallSite) : Type 0 where
  pub code : CodeStands w (line_address w f) (call_code c.args c.callee c.result)
  pub next : w.place f.func f.block (f.line + 1) ≡ line_address w f + 28 + 4 * length c.args
  pub is : w.result f.func f.block f.line ≡ Some c.result
  pub few : length c.args ≤ 4
  pub caller_slots : IsSlotted w f.func
  pub function : IsFunctionAt w c.callee (length c.args)
  pub locals : (i : ℕ) → i < length c.args → get_or c.args i 0 < w.locals f.func
  pub types : (i : ℕ) → i < length c.args → w.ty f.func (get_or c.args i 0) ≡ w.ty c.callee i

-- what a call shows
abbrev pub call_edge : World → Frame → CallSite → MachineEvent
call_edge w f c = moves (edges.Call (line_address w f + 16 + 4 * length c.args) (w.label c.callee))

-- to the end of the callee's prologue, whatever stands there
pub record CallLaysFrame (w : World) (f : Frame) (callers : List Frame) (globals : ℕ → ℕ) (c : CallSite) (m : Running) : Type 0 where
  pub to : Running
  pub runs : RunsTo w.image (6 + length c.args + w.locals c.callee) m to (call_edge w f c ∷ [])
  pub kept : KeepsGoing m to
  pub behind : IsBehindPrologue w f callers globals c to

abbrev pub CallsLayFrames : Type 0
CallsLayFrames =
    (w : World) → IsWorld w → (f : Frame) (callers : List Frame) (globals : ℕ → ℕ) (c : CallSite) (m : Running)
    → IsAt w f callers globals m → length callers < 256 → IsCallAt w f c → CallLaysFrame w f callers globals c m

-- to the callee's first line, where it stands behind the prologue
abbrev pub CallsLead : Type 0
CallsLead =
    (w : World) → IsWorld w → (f : Frame) (callers : List Frame) (globals : ℕ → ℕ) (c : CallSite) (m : Running)
    → IsAt w f callers globals m → length callers < 256 → IsCallAt w f c → w.place c.callee 0 0 ≡ prologue_end w c.callee
    → StepsTo w 265 (callee_frame c f) (f ∷ callers) globals (call_edge w f c ∷ []) m

abbrev pub DeepCallsTrap : Type 0
DeepCallsTrap =
    (w : World) → IsWorld w → (f : Frame) (callers : List Frame) (globals : ℕ → ℕ) (c : CallSite) (m : Running)
    → IsAt w f callers globals m → length callers ≡ 256 → CodeStands w (line_address w f) (call_code c.args c.callee c.result)
    → EndsWithin w 3 (ends.Trap Depth) m

-- ---- an indirect call

-- a function that a reference with so many parameters may name
pub record IsReferencedAt (w : World) (callee params : ℕ) : Type 0 where
  pub function : IsFunctionAt w callee params
  pub first : w.place callee 0 0 ≡ prologue_end w callee
  pub target : list_any (is_called_at params (w.label callee)) w.image.map.functions ≡ true
  pub entry : 0 < w.label callee
  pub types : (i : ℕ) → i < params → w.ty callee i ≡ I64

pub record IsIndirectCallAt (w : World) (f : Frame) (args : List ℕ) (from result : ℕ) : Type 0 where
  pub code : CodeStands w (line_address w f) (icall_code args from result)
  pub next : w.place f.func f.block (f.line + 1) ≡ line_address w f + 44 + 4 * length args
  pub is : w.result f.func f.block f.line ≡ Some result
  pub few : length args ≤ 4
  pub caller_slots : IsSlotted w f.func
  pub locals : (i : ℕ) → i < length args → get_or args i 0 < w.locals f.func
  pub types : (i : ℕ) → i < length args → w.ty f.func (get_or args i 0) ≡ I64
  pub from_local : from < w.locals f.func
  pub from_ty : w.ty f.func from ≡ Fn (length args)
  pub functions : (callee : ℕ) → w.may_name callee (length args) ≡ true → IsReferencedAt w callee (length args)

abbrev pub IndirectCallsLead : Type 0
IndirectCallsLead =
    (w : World) → IsWorld w → (f : Frame) (callers : List Frame) (globals : ℕ → ℕ) (args : List ℕ) (from result : ℕ) (m : Running)
    → IsAt w f callers globals m → length callers < 256 → IsIndirectCallAt w f args from result → 0 < f.locals from
    → StepsTo w 268 (callee_frame (record { callee = f.locals from - 1; args = args; result = result }) f) (f ∷ callers) globals
    (moves (edges.ICall (line_address w f + 28 + 4 * length args) (w.label (f.locals from - 1))) ∷ []) m

abbrev pub NullCallsTrap : Type 0
NullCallsTrap =
    (w : World) → IsWorld w → (f : Frame) (callers : List Frame) (globals : ℕ → ℕ) (args : List ℕ) (from result : ℕ) (m : Running)
    → IsAt w f callers globals m → IsIndirectCallAt w f args from result → f.locals from ≡ 0
    → EndsWithin w 3 (ends.Trap NullCall) m
