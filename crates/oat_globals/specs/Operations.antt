-- What a call of a function comes to that may be an operation, and its return: the group that begins an operation stands behind its prologue, the one that ends it before each return.
use Rattle.std.specs.Prelude.{◌≡◌, ◌+◌, ◌*◌, ◌^◌, ◌<◌, ℕ, Bool, List, [], ◌∷◌, ◌++◌, length, Option, Some, None}
use Rattle.oat_frames.specs.{Item, expanded, Frame, Running, MachineEvent, monitors, Frames.World, Frames.IsWorld, Frames.Home, Frames.IsAt, Frames.home_in, Frames.line_address, Comes.StepsTo}
use Rattle.oat_frames.specs.{Comes.with_result, Code.CodeStands, Code.prologue, Code.return_code, Calls.CallSite, Calls.IsCallAt, Calls.callee_frame, Calls.call_edge, Calls.prologue_end}
use Rattle.oat_frames.specs.{Returns.IsReturnOf, Returns.return_edge}
use Rattle.oat_asm.specs.declared.item.Item.TheVariants as item
use Rattle.oat_asm.specs.declared.mark.Mark.TheVariants as mark
use Rattle.oat_frames.specs.svc as svc

-- ---- code: of an operation with this number, or of a function that is none

abbrev pub begin_code : Option ℕ → List Item
begin_code None = []
begin_code (Some op) = expanded (item.Mark (mark.Begin op))

abbrev pub end_code : Option ℕ → List Item
end_code None = []
end_code (Some op) = expanded (item.Mark (mark.End op))

-- the words of either group
abbrev pub role_words : Option ℕ → ℕ
role_words None = 0
role_words (Some op) = 2

abbrev pub start_code : (leaf : Bool) (params locals : ℕ) (op : Option ℕ) → List Item
start_code leaf params locals op = prologue leaf params locals ++ begin_code op

abbrev pub leave_code : (locals : ℕ) (from : Home) (op : Option ℕ) → List Item
leave_code locals from op = end_code op ++ return_code locals from

-- an operation's number has 16 bits
abbrev pub HasShortNumber : Option ℕ → Type 0
HasShortNumber op = (number : ℕ) → op ≡ Some number → number < 2 ^ 16

-- ---- what the groups show: the begin by the address of its call of the monitor

abbrev pub begin_shown : World → ℕ → Option ℕ → List MachineEvent
begin_shown w func None = []
begin_shown w func (Some op) = monitors (svc.Begin op (prologue_end w func + 4)) ∷ []

abbrev pub end_shown : Option ℕ → List MachineEvent
end_shown None = []
end_shown (Some op) = monitors (svc.End op) ∷ []

-- ---- calls

-- behind the prologue of a function stands the group, and then its first line
pub record HasBegin (w : World) (func : ℕ) (op : Option ℕ) : Type 0 where
  pub code : CodeStands w (prologue_end w func) (begin_code op)
  pub first : w.place func 0 0 ≡ prologue_end w func + 4 * role_words op
  pub number : HasShortNumber op

-- a function's start is its prologue and the group
abbrev pub StartsStand : Type 0
StartsStand =
    (w : World) (func params : ℕ) (op : Option ℕ) → CodeStands w (w.label func) (start_code (w.is_leaf func) params (w.locals func) op)
    → CodeStands w (w.label func) (prologue (w.is_leaf func) params (w.locals func)) × CodeStands w (prologue_end w func) (begin_code op)

-- the edge, and then the begin
abbrev pub OperationCallsLead : Type 0
OperationCallsLead =
    (w : World) → IsWorld w → (f : Frame) (callers : List Frame) (globals : ℕ → ℕ) (c : CallSite) (op : Option ℕ) (m : Running)
    → IsAt w f callers globals m → length callers < 256 → IsCallAt w f c → HasBegin w c.callee op
    → StepsTo w 267 (callee_frame c f) (f ∷ callers) globals (call_edge w f c ∷ begin_shown w c.callee op) m

-- ---- returns

-- the end, and then the edge
abbrev pub OperationReturnsLead : Type 0
OperationReturnsLead =
    (w : World) → IsWorld w → (f g : Frame) (callers : List Frame) (globals : ℕ → ℕ) (from to : ℕ) (op : Option ℕ) (m : Running)
    → IsAt w f (g ∷ callers) globals m → CodeStands w (line_address w f) (leave_code (w.locals f.func) (home_in w f from) op) → HasShortNumber op → IsReturnOf w f g from to
    → StepsTo w 9 (with_result g to (f.locals from)) callers globals (end_shown op ++ return_edge w g (line_address w f + 4 * role_words op) ∷ []) m
