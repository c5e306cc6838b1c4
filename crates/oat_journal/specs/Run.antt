-- The bare run: an image's code, instruction by instruction, while another actor writes bytes into data memory between them (docs/DEFINITIONS.md, "Bare run").
use Rattle.std.specs.{Prelude.◌+◌, Prelude.◌<◌, Prelude.◌==◌, Prelude.ℕ, Prelude.zero, Prelude.suc, Prelude.ℤ, Prelude.List, Prelude.[], Prelude.◌∷◌, Prelude.◌++◌, Prelude.map, Prelude.length}
use Rattle.std.specs.{Prelude.nat_eq, Prelude.if◌then◌else◌, Prelude.IsTrue, Prelude.Option, Prelude.Some, Prelude.None, Prelude.FitsSigned, List.filter, List.fold, List.All}
use Rattle.std.specs.{List.Sorted.IsNonDecreasing, Int.w64}
use Rattle.oat_image.specs.{declared.image.Image.Image, declared.image.InitWord.InitWord}
use Rattle.oat_case.specs.declared.case.Write.{Write}
use Rattle.oat_measure.specs.{fits, with_bytes, with_word, global_address, Event, Inst, Regs, Machine, Effect, first_regs, instruction_at, step, with_reg, signed, unsigned, TrapKind, DivZero, Index}
use Rattle.oat_measure.specs.{NullCall, Depth, InputEnd}
use Rattle.oat_journal.specs.declared.end.DeviceEnd.{DeviceEnd}
use Rattle.oat_a64.specs.declared.event.Event.TheVariants as event
use Rattle.oat_journal.specs.declared.end.DeviceEnd.TheVariants as ends

-- a run at the moment before an instruction
pub record Running : Type 0 where
  pub machine : Machine
  -- how many instructions were made
  pub made : ℕ
  pub inputs : List ℤ
  pub outputs : List ℤ
  pub end : Option DeviceEnd

-- ---- the start

-- zeros, but for the words that an image gives
abbrev pub start_memory : List InitWord → (ℕ → ℕ)
start_memory words = fold (λ memory word. with_word memory (global_address word.index) word.value) (λ address. 0) words

abbrev pub started : Image → List ℤ → Running
started image inputs = record {
  machine = record { regs = first_regs; memory = start_memory image.words };
  made = 0;
  inputs = inputs;
  outputs = [];
  end = None;
}

-- ---- one instruction

-- memory behind the writes that are made just before instruction k, in their order
abbrev pub poked : List Write → ℕ → (ℕ → ℕ) → (ℕ → ℕ)
poked writes k memory = fold (λ old write. with_bytes old write.address write.bytes) memory (filter (λ write. write.before == k) writes)

-- the machine as the next instruction finds it
abbrev pub found : List Write → Running → Machine
found writes s = record s.machine { memory = poked writes s.made s.machine.memory }

abbrev pub moves_on : Running → Machine → Running
moves_on s m = record s { machine = m; made = s.made + 1 }

-- an attempt that ends the run counts as an instruction
abbrev pub ends_with : Running → Machine → DeviceEnd → Running
ends_with s m why = record s { machine = m; made = s.made + 1; end = Some why }

-- the next input goes into X0
abbrev pub with_input : Running → Machine → List ℤ → Running
with_input s m [] = ends_with s m (ends.Trap InputEnd)
with_input s m (value ∷ others) = record s { machine = record m { regs = with_reg m.regs 0 (unsigned value) }; made = s.made + 1; inputs = others }

abbrev pub with_output : Running → Machine → Running
with_output s m = record s { machine = m; made = s.made + 1; outputs = s.outputs ++ signed (m.regs.x 0) ∷ [] }

-- SVC 0 halts, 8 takes an input and 9 puts an output; the others are the monitor's
abbrev pub called : Running → Machine → ℕ → Running
called s m number =
    if nat_eq number 0 then ends_with s m ends.Halted
    else (if nat_eq number 8 then with_input s m s.inputs
    else (if nat_eq number 9 then with_output s m
    else moves_on s m))

-- BRK 1 to 4
abbrev pub trap_of : ℕ → TrapKind
trap_of number =
    if nat_eq number 1 then DivZero
    else (if nat_eq number 2 then Index
    else (if nat_eq number 3 then NullCall
    else Depth))

abbrev pub told : Running → Machine → Event → Running
told s m event.Next = moves_on s m
told s m (event.Svc number) = called s m number
told s m (event.Brk number) = ends_with s m (ends.Trap (trap_of number))
told s m (event.Fault kind) = ends_with s m (ends.Fault kind)

abbrev pub makes : Running → Effect → Running
makes s o = told s o.machine o.event

-- the writes before the next instruction and that instruction; an ended run stays as it is
abbrev pub unless_ended : Option DeviceEnd → Running → Running → Running
unless_ended None s next = next
unless_ended (Some why) s next = s

unfoldable pub turn : List ℕ → List Write → Running → Running
turn code writes s = unless_ended s.end s (makes s (step code (found writes s)))

unfoldable pub turns : List ℕ → List Write → ℕ → Running → Running
turns code writes zero s = s
turns code writes (suc n) s = turns code writes n (turn code writes s)

-- The bare run of n instructions.
abbrev pub bare : Image → List ℤ → List Write → ℕ → Running
bare image inputs writes n = turns image.code writes n (started image inputs)

-- ---- the journal

-- an instruction that didn't end the run: the machine as it found it, and the registers as it left them
pub record Entry : Type 0 where
  pub inst : Inst
  pub found : Machine
  pub left : Regs

abbrev pub made_entry : Option Inst → Machine → Option DeviceEnd → Running → Option Entry
made_entry (Some inst) m None next = Some (record { inst = inst; found = m; left = next.machine.regs })
made_entry _ m _ next = None

abbrev pub entry : List ℕ → List Write → Running → Option Entry
entry code writes s =
    let next = turn code writes s in
    made_entry (instruction_at code s.machine.regs.pc) (found writes s) next.end next

-- the entries from one on; where there is none, the run has ended
abbrev pub from_entry : Option Entry → List Entry → List Entry
from_entry None others = []
from_entry (Some first) others = first ∷ others

-- one entry for each instruction of the run that didn't end it
unfoldable pub journal_from : List ℕ → List Write → ℕ → Running → List Entry
journal_from code writes zero s = []
journal_from code writes (suc n) s = from_entry (entry code writes s) (journal_from code writes n (turn code writes s))

abbrev pub journal : Image → List ℤ → List Write → ℕ → List Entry
journal image inputs writes n = journal_from image.code writes n (started image inputs)

abbrev pub pc_of : Entry → ℕ
pc_of e = e.found.regs.pc

abbrev pub next_of : Entry → ℕ
next_of e = e.left.pc

-- ---- what may be given

-- the bytes lie wholly in the global data or wholly in the stack
pub record IsWrite (write : Write) : Type 0 where
  pub within : IsTrue (fits write.address (length write.bytes))
  pub bytes : All (λ byte. byte < 256) write.bytes

-- inputs are numbers of 64 bits, writes lie in data memory, and their places never fall
pub record AreGiven (inputs : List ℤ) (writes : List Write) : Type 0 where
  pub inputs_fit : All (FitsSigned w64) inputs
  pub writes_fit : All IsWrite writes
  pub rising : IsNonDecreasing (map (λ write. write.before) writes)
