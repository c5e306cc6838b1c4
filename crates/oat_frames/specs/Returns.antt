-- What a return comes to: the run stands at the line behind the caller's call, through the return address that memory holds. And what the start of a run comes to.
use Rattle.std.specs.Prelude.{◌≡◌, ◌+◌, ◌<◌, ℕ, ℤ, List, [], ◌∷◌, Some, None}
use Rattle.oat_check.specs.Steps.{Frame}
use Rattle.oat_follow.specs.{Running, started, start_memory, Events.MachineEvent, Events.moves, Reaching.RunsTo}
use Rattle.oat_frames.specs.{Moments.KeepsGoing, Frames.World, Frames.IsWorld, Frames.IsSlotted, Frames.IsAt, Frames.HoldsState, Frames.GlobalsAt, Frames.home_in, Frames.line_address}
use Rattle.oat_frames.specs.{Frames.return_address, Comes.StepsTo, Comes.with_result, Calls.prologue_end, Code.CodeStands, Code.prologue, Code.return_code}
use Rattle.oat_asm.specs.edges as edges

-- a return of a local whose type is that of the caller's result
pub record IsReturnOf (w : World) (f g : Frame) (from to : ℕ) : Type 0 where
  pub from_local : from < w.locals f.func
  pub result : w.result g.func g.block g.line ≡ Some to
  pub caller_slots : IsSlotted w g.func
  pub to_local : to < w.locals g.func
  pub types : w.ty f.func from ≡ w.ty g.func to

-- what a return shows whose code stands at an address
abbrev pub return_edge : World → Frame → ℕ → MachineEvent
return_edge w g at = moves (edges.Ret (at + 12) (return_address w g))

-- from any address at which the code of the return stands
pub record ReturnComesBack (w : World) (f g : Frame) (callers : List Frame) (globals : ℕ → ℕ) (from to at : ℕ) (m : Running) : Type 0 where
  pub end : Running
  pub runs : RunsTo w.image 7 m end (return_edge w g at ∷ [])
  pub kept : KeepsGoing m end
  pub is_at : IsAt w (with_result g to (f.locals from)) callers globals end

abbrev pub ReturnsComeBack : Type 0
ReturnsComeBack =
    (w : World) → IsWorld w → (f g : Frame) (callers : List Frame) (globals : ℕ → ℕ) (from to at : ℕ) (m : Running)
    → m.end ≡ None → m.machine.regs.pc ≡ at → HoldsState w f.func f.locals (g ∷ callers) globals m.machine.regs.x m.machine.regs.sp m.machine.memory
    → CodeStands w at (return_code (w.locals f.func) (home_in w f from)) → IsReturnOf w f g from to
    → ReturnComesBack w f g callers globals from to at m

abbrev pub ReturnsLead : Type 0
ReturnsLead =
    (w : World) → IsWorld w → (f g : Frame) (callers : List Frame) (globals : ℕ → ℕ) (from to : ℕ) (m : Running)
    → IsAt w f (g ∷ callers) globals m → CodeStands w (line_address w f) (return_code (w.locals f.func) (home_in w f from)) → IsReturnOf w f g from to
    → StepsTo w 7 (with_result g to (f.locals from)) callers globals (return_edge w g (line_address w f) ∷ []) m

-- ---- the start

-- main has no parameters, and its locals are zeros and nulls
abbrev pub main_frame : ℕ → Frame
main_frame main = record { func = main; block = 0; line = 0; locals = λ i. 0 }

abbrev pub StartLeads : Type 0
StartLeads =
    (w : World) → IsWorld w → (main : ℕ) (inputs : List ℤ) (globals : ℕ → ℕ)
    → w.label main ≡ 0x10000 → CodeStands w 0x10000 (prologue (w.is_leaf main) 0 (w.locals main)) → w.place main 0 0 ≡ prologue_end w main
    → GlobalsAt w (start_memory w.image.words) globals
    → StepsTo w 257 (main_frame main) [] globals [] (started w.image inputs)
