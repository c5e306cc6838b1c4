-- The next moments of a run, and what a run keeps.
use Rattle.std.specs.Prelude.{◌≡◌, ◌+◌, ℕ, None}
use Rattle.oat_asm.specs.{Machine, Regs}
use Rattle.oat_follow.specs.{Running}

-- The next moments, whose addresses are sums that don't wrap: with this machine at the next instruction,
abbrev pub next_moment : Running → Machine → Running
next_moment m k = record m { machine = record k { regs = record k.regs { pc = k.regs.pc + 4 } }; made = m.made + 1 }

-- and with these registers at an address.
abbrev pub jumped : Running → Regs → ℕ → Running
jumped m r address = record m { machine = record m.machine { regs = record r { pc = address } }; made = m.made + 1 }

-- ---- what a run keeps

-- it goes on, and has neither taken an input nor put an output
pub record KeepsGoing (m k : Running) : Type 0 where
  pub going : k.end ≡ None
  pub inputs : k.inputs ≡ m.inputs
  pub outputs : k.outputs ≡ m.outputs
