-- The lines of a block: its instructions, and behind them its terminator.
use Rattle.std.specs.{Prelude.ℕ, Prelude.Bool, Prelude.true, Prelude.false, Prelude.nat_eq, Prelude.nat_lt, Prelude.if◌then◌else◌, Prelude.length, Prelude.slice_get, Prelude.Option, Prelude.Some}
use Rattle.std.specs.{Prelude.None, Option.option_map}
use Rattle.oat_ir.specs.{declared.func.BlockIr.BlockIr, declared.instr.Instr.Instr, declared.instr.Instr.TheVariants.Call, declared.instr.Instr.TheVariants.ICall, declared.instr.Term.Term}

pub data CodeLine : Type 0 where
  instruction : Instr → CodeLine
  terminator : Term → CodeLine

-- lines are numbered from 0, and the terminator comes last
abbrev pub line_in : BlockIr → ℕ → Option CodeLine
line_in b n =
    if nat_lt n (length b.instrs) then option_map instruction (slice_get b.instrs n)
    else (if nat_eq n (length b.instrs) then Some (terminator b.term) else None)

-- a call or an indirect call
abbrev pub is_calling : Instr → Bool
is_calling (Call x g args) = true
is_calling (ICall x y args) = true
is_calling _ = false
