-- Kinds of instructions: those that transfer control, and the monitor calls that are measured.
use Rattle.std.specs.Prelude.{Bool, true, false, ◌&&◌, nat_le}
use Rattle.oat_a64.specs.{declared.inst.Inst.Inst, declared.inst.Inst.TheVariants.B, declared.inst.Inst.TheVariants.Bl, declared.inst.Inst.TheVariants.BCond, declared.inst.Inst.TheVariants.Cbz}
use Rattle.oat_a64.specs.{declared.inst.Inst.TheVariants.Cbnz, declared.inst.Inst.TheVariants.Blr, declared.inst.Inst.TheVariants.Ret, declared.inst.Inst.TheVariants.Svc}

-- an instruction by which control may leave the next address
abbrev pub is_transfer : Inst → Bool
is_transfer (B offset) = true
is_transfer (Bl offset) = true
is_transfer (BCond cond offset) = true
is_transfer (Cbz rt offset) = true
is_transfer (Cbnz rt offset) = true
is_transfer (Blr rn) = true
is_transfer (Ret rn) = true
is_transfer _ = false

-- a monitor call that the measurement sees
abbrev pub is_measured : Inst → Bool
is_measured (Svc number) = nat_le 1 number && nat_le number 7
is_measured _ = false
