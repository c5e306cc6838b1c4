-- The front of a line: instructions over so many bytes that change scratch registers, flags and inputs alone, and may show something. X19 to X26 and X28 are no scratch.
use Rattle.std.specs.Prelude.{◌≡◌, ◌+◌, ◌<◌, ℕ, ℤ, List, None}
use Rattle.oat_asm.specs.{Image}
use Rattle.oat_follow.specs.{Running, Events.MachineEvent, Reaching.RunsTo}

-- the registers that may hold locals are as they were
abbrev pub KeepsHomes : (ℕ → ℕ) → (ℕ → ℕ) → Type 0
KeepsHomes x y = (i : ℕ) → i < 8 → y (19 + i) ≡ x (19 + i)

pub record IsReadied (image : Image) (count bytes : ℕ) (es : List MachineEvent) (asked : List ℤ) (m k : Running) : Type 0 where
  pub runs : RunsTo image count m k es
  pub going : k.end ≡ None
  pub inputs : k.inputs ≡ asked
  pub outputs : k.outputs ≡ m.outputs
  pub memory : k.machine.memory ≡ m.machine.memory
  pub sp : k.machine.regs.sp ≡ m.machine.regs.sp
  pub depth : k.machine.regs.x 28 ≡ m.machine.regs.x 28
  pub homes : KeepsHomes m.machine.regs.x k.machine.regs.x
  pub pc : k.machine.regs.pc ≡ m.machine.regs.pc + bytes
