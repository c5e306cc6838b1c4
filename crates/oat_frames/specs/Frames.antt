-- The relation of a compiled program's run to its source: where each value is held, and how the frames of the active calls lie in the stack. Frames are this compiler's own; of the AAPCS64 they take that X0 to X3 pass arguments, X0 a result, X30 a return address, and that SP stays a multiple of 16, and nothing else.
use Rattle.std.specs.{Prelude.◌≡◌, Prelude.◌+◌, Prelude.◌-◌, Prelude.◌*◌, Prelude.◌/◌, Prelude.◌%◌, Prelude.◌^◌, Prelude.◌<◌, Prelude.◌≤◌, Prelude.◌⊎◌, Prelude.ℕ, Prelude.Bool, Prelude.true}
use Rattle.std.specs.{Prelude.nat_eq, Prelude.nat_lt, Prelude.◌&&◌, Prelude.false, Prelude.if◌then◌else◌, Prelude.List, Prelude.[], Prelude.◌∷◌, Prelude.length, Prelude.Option, Prelude.Some}
use Rattle.std.specs.{Prelude.None, Prelude.⊤, List.list_any}
use Rattle.oat_asm.specs.{Inst, SubImm, Str, Image, word_in, global_address, is_returned_to, Stands}
use Rattle.oat_check.specs.{Ty, I64, Fn, Steps.Frame}
use Rattle.oat_follow.specs.{Running}

-- where a local is held: in a slot of its frame, counted from SP, or in a register
pub data Home : Type 0 where
  slot : ℕ → Home
  register : ℕ → Home

abbrev pub home_word : (ℕ → ℕ) → (ℕ → ℕ) → ℕ → Home → ℕ
home_word x memory sp (slot k) = word_in memory (sp + 8 * k)
home_word x memory sp (register r) = x r

-- A leaf, which calls nothing, has its first eight locals in X19 to X26. Every other local has a slot: slot 0 holds X30, and local i has the slot behind those of the locals before it.
abbrev pub home_of : (leaf : Bool) → ℕ → Home
home_of leaf i = if leaf && nat_lt i 8 then register (19 + i) else slot (i + 1)

-- A compiled program: its image and the address of each label (a function has its number), its locals, and where its lines stand.
pub record World : Type 0 where
  pub image : Image
  pub label : ℕ → ℕ
  -- whether a reference with so many parameters may name a function
  pub may_name : ℕ → ℕ → Bool
  -- by function: how many locals, and whether it is a leaf; by function and local: the type
  pub locals : ℕ → ℕ
  pub is_leaf : ℕ → Bool
  pub ty : ℕ → ℕ → Ty
  -- by function, block and line: the address of its code, and where the result of the call there goes
  pub place : ℕ → ℕ → ℕ → ℕ
  pub result : ℕ → ℕ → ℕ → Option ℕ
  -- how many words of global data, and the type of each
  pub globals : ℕ
  pub global_ty : ℕ → Ty

-- slots for X30 and for each local
abbrev pub frame_size : ℕ → ℕ
frame_size locals = 16 * ((locals + 2) / 2)

-- code lies low, so that the next addresses don't wrap
abbrev pub IsLow : Image → Type 0
IsLow image = (p : ℕ) (i : Inst) → Stands image.code p i → p < 2 ^ 32

pub record IsWorld (w : World) : Type 0 where
  pub low : IsLow w.image
  pub labels : (l : ℕ) → w.label l < 2 ^ 32
  pub few : (f : ℕ) → w.locals f ≤ 255
  pub globals : w.globals ≤ 65536

-- all locals of a function that calls have slots
abbrev pub IsSlotted : World → ℕ → Type 0
IsSlotted w f = w.is_leaf f ≡ false

-- ---- values

-- The word of a value: in the source a reference of function f is f + 1 and null is 0, and the word is the function's address.
abbrev pub value_word : World → Ty → ℕ → ℕ
value_word w I64 v = v
value_word w (Fn k) v = if nat_eq v 0 then 0 else w.label (v - 1)

abbrev pub IsOfType : World → Ty → ℕ → Type 0
IsOfType w I64 v = v < 2 ^ 64
IsOfType w (Fn k) v = (v ≡ 0) ⊎ (w.may_name (v - 1) k ≡ true)

-- a word stands for a value of a type
pub record Represents (w : World) (ty : Ty) (value word : ℕ) : Type 0 where
  pub known : IsOfType w ty value
  pub is : word ≡ value_word w ty value

-- ---- frames

-- The locals of a function are held in the frame at sp, or in registers. By function and values alone, so that it computes where only the line changes.
abbrev pub FrameAt : World → (ℕ → ℕ) → (ℕ → ℕ) → ℕ → ℕ → (ℕ → ℕ) → Type 0
FrameAt w x memory sp func locals = (i : ℕ) → i < w.locals func → Represents w (w.ty func i) (locals i) (home_word x memory sp (home_of (w.is_leaf func) i))

-- where a local of a frame is held
abbrev pub home_in : World → Frame → ℕ → Home
home_in w f x = home_of (w.is_leaf f.func) x

-- the address of a frame's line, and that behind the group of its call, two instructions before the next line
abbrev pub line_address : World → Frame → ℕ
line_address w f = w.place f.func f.block f.line

abbrev pub return_address : World → Frame → ℕ
return_address w g = w.place g.func g.block (g.line + 1) - 8

-- A saved X30 leads behind a caller's call: there the depth is counted down and the result stored, and then the next line stands.
pub record ReturnsTo (w : World) (g : Frame) (saved : ℕ) : Type 0 where
  pub result : ℕ
  pub is : w.result g.func g.block g.line ≡ Some result
  pub next : saved + 8 ≡ w.place g.func g.block (g.line + 1)
  pub counts : Stands w.image.code saved (SubImm 28 28 1)
  pub stores : Stands w.image.code (saved + 4) (Str 0 31 (result + 1))
  pub site : list_any (is_returned_to saved) w.image.map.rows ≡ true

-- only main has no caller
abbrev pub ReturnsToFirst : World → List Frame → ℕ → Type 0
ReturnsToFirst w [] saved = ⊤
ReturnsToFirst w (g ∷ gs) saved = ReturnsTo w g saved

-- The frames of the callers, whatever registers hold: the nearest stands at sp, and the last ends where the stack does.
abbrev pub CallersAt : World → (ℕ → ℕ) → ℕ → List Frame → Type 0
CallersAt w memory sp [] = sp ≡ 0x8000_0000
CallersAt w memory sp (g ∷ gs) =
    ((x : ℕ → ℕ) → FrameAt w x memory sp g.func g.locals) × ReturnsToFirst w gs (word_in memory sp) × CallersAt w memory (sp + frame_size (w.locals g.func)) gs

abbrev pub GlobalsAt : World → (ℕ → ℕ) → (ℕ → ℕ) → Type 0
GlobalsAt w memory globals = (i : ℕ) → i < w.globals → Represents w (w.global_ty i) (globals i) (word_in memory (global_address i))

-- Registers, a stack pointer and memory hold what a function with these locals, callers and globals has. X28 counts the callers.
pub record HoldsState (w : World) (func : ℕ) (locals : ℕ → ℕ) (callers : List Frame) (globals : ℕ → ℕ) (x : ℕ → ℕ) (sp : ℕ) (memory : ℕ → ℕ) : Type 0 where
  pub depth : x 28 ≡ length callers
  pub few : length callers ≤ 256
  pub frame : FrameAt w x memory sp func locals
  pub back : ReturnsToFirst w callers (word_in memory sp)
  pub above : CallersAt w memory (sp + frame_size (w.locals func)) callers
  pub words : GlobalsAt w memory globals

-- A run stands where the source does. Global data are numbered by word.
pub record IsAt (w : World) (f : Frame) (callers : List Frame) (globals : ℕ → ℕ) (m : Running) : Type 0 where
  pub going : m.end ≡ None
  pub pc : m.machine.regs.pc ≡ line_address w f
  pub holds : HoldsState w f.func f.locals callers globals m.machine.regs.x m.machine.regs.sp m.machine.memory

-- Bounds of a stack pointer above which there are n frames: all bounds of addresses in the stack follow from here.
pub record IsStackPointer (sp n : ℕ) : Type 0 where
  pub aligned : sp % 16 ≡ 0
  pub below : sp ≤ 0x8000_0000
  pub near : 0x8000_0000 ≤ sp + 2048 * n
