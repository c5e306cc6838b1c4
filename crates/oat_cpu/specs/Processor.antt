-- The machine that a processor and a memory stand for, in the words of the machine step (docs/DEFINITIONS.md).
use Rattle.std.specs.Prelude.{slice_index}
use Rattle.oat_a64.specs.{Regions, byte_at, declared.event.Event.Event, Step.Regs, Step.Machine, Step.Effect}
use Rattle.oat_cpu.specs.declared.cpu.Cpu.{Cpu}

abbrev pub regs_of : Cpu → Regs
regs_of cpu =
    record { x = λ n. slice_index cpu.x n; sp = cpu.sp; pc = cpu.pc; n = cpu.n; z = cpu.z; c = cpu.c; v = cpu.v }

abbrev pub machine_of : Cpu → Regions → Machine
machine_of cpu memory = record { regs = regs_of cpu; memory = byte_at memory }

-- the processor and the memory that a step left, with what it told
abbrev pub effect_of : Cpu → Regions → Event → Effect
effect_of cpu memory event = record { machine = machine_of cpu memory; event = event }
