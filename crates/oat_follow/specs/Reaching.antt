-- Some instructions lead from one moment of a run to another, and show these events. Nothing is written between them.
use Rattle.std.specs.{Prelude.◌≡◌, Prelude.◌+◌, Prelude.ℕ, Prelude.List, Prelude.[], Prelude.◌++◌, Prelude.Some, Prelude.None, List.cons_option}
use Rattle.oat_journal.specs.{Inst, act, instruction_at, Image, declared.end.DeviceEnd.DeviceEnd, Run.Running, Run.Entry, Run.found, Run.makes, Run.turns, Run.journal_from}
use Rattle.oat_follow.specs.Events.{MachineEvent, events_of, told_at}

-- the run of n instructions from a moment on
abbrev pub run_on : Image → ℕ → Running → Running
run_on image n m = turns image.code [] n m

-- what it shows
abbrev pub shown_on : Image → ℕ → Running → List MachineEvent
shown_on image n m = events_of image.map (journal_from image.code [] n m)

pub record RunsTo (image : Image) (n : ℕ) (m k : Running) (es : List MachineEvent) : Type 0 where
  pub run : run_on image n m ≡ k
  pub told : shown_on image n m ≡ es

-- ---- one instruction

-- what it makes of a run
abbrev pub inst_makes : Running → Inst → Running
inst_makes m i = makes m (act i (found [] m))

abbrev pub inst_entry : Running → Inst → Entry
inst_entry m i = record { inst = i; found = found [] m; left = (inst_makes m i).machine.regs }

-- An instruction that doesn't end the run leads on, and shows what it tells.
abbrev pub InstructionsLead : Type 0
InstructionsLead =
    (image : Image) (m : Running) (i : Inst) → m.end ≡ None → instruction_at image.code m.machine.regs.pc ≡ Some i → (inst_makes m i).end ≡ None
    → RunsTo image 1 m (inst_makes m i) (cons_option (told_at image.map (inst_entry m i)) [])

-- One that ends it shows nothing.
abbrev pub LastInstructionsLead : Type 0
LastInstructionsLead =
    (image : Image) (m : Running) (i : Inst) (why : DeviceEnd) → m.end ≡ None → instruction_at image.code m.machine.regs.pc ≡ Some i → (inst_makes m i).end ≡ Some why
    → RunsTo image 1 m (inst_makes m i) []

-- Instructions behind others show what the first show, and then their own.
abbrev pub InstructionsFollow : Type 0
InstructionsFollow =
    (image : Image) (a b : ℕ) (m k l : Running) (xs ys : List MachineEvent) → RunsTo image a m k xs → RunsTo image b k l ys → RunsTo image (a + b) m l (xs ++ ys)
