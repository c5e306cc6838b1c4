-- The bare run for which a device's processor, memory, inputs and outputs stand (docs/DEFINITIONS.md, "Bare run").
use Rattle.std.specs.Prelude.{◌≡◌, ◌+◌, ◌≤◌, ℕ, List, vec_len, vec_capacity}
use Rattle.oat_cpu.specs.Processor.{machine_of}
use Rattle.oat_journal.specs.{Write, Run.Running, Run.poked}
use Rattle.oat_device.specs.declared.bare.BareRun.{BareRun}

abbrev pub running_of : BareRun → Running
running_of bare = record {
  machine = machine_of bare.cpu bare.memory;
  made = bare.made;
  inputs = bare.inputs.now;
  outputs = bare.outputs.items;
  end = bare.end;
}

-- the same code and writes, one instruction later, with at most one output more in the same room
pub record HasSame (old new : BareRun) : Type 0 where
  pub code : new.code.now ≡ old.code.now
  pub writes : new.writes.now ≡ old.writes.now
  pub made : new.made ≡ old.made + 1
  pub outputs : vec_len new.outputs ≤ vec_len old.outputs + 1
  pub capacity : vec_capacity new.outputs ≡ vec_capacity old.outputs

-- from instruction k on, these writes do what the others do
abbrev pub DoesFrom : ℕ → List Write → List Write → Type 0
DoesFrom made left writes = (k : ℕ) (memory : ℕ → ℕ) → made ≤ k → poked left k memory ≡ poked writes k memory
