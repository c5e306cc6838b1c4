-- Groups: which instructions stand at a row's address (docs/FORMATS.md, "Rows and their groups").
use Rattle.std.specs.Prelude.{◌≡◌, ◌+◌, ◌/◌, ◌%◌, ◌^◌, ◌<◌, ◌≤◌, ◌⊎◌, ℕ, ℤ, pos, List, length, slice_get, Some}
use Rattle.oat_a64.specs.{global_address, declared.inst.Inst.Inst, declared.inst.Inst.TheVariants.AddReg, declared.inst.Inst.TheVariants.SubsReg, declared.inst.Inst.TheVariants.Movz}
use Rattle.oat_a64.specs.{declared.inst.Inst.TheVariants.Movk, declared.inst.Inst.TheVariants.Ldr, declared.inst.Inst.TheVariants.Str, declared.inst.Inst.TheVariants.LdrReg}
use Rattle.oat_a64.specs.{declared.inst.Inst.TheVariants.StrReg, declared.inst.Inst.TheVariants.B, declared.inst.Inst.TheVariants.Bl, declared.inst.Inst.TheVariants.BCond}
use Rattle.oat_a64.specs.{declared.inst.Inst.TheVariants.Cbnz, declared.inst.Inst.TheVariants.Blr, declared.inst.Inst.TheVariants.Ret, declared.inst.Inst.TheVariants.Svc}
use Rattle.oat_a64.specs.{declared.inst.Inst.TheVariants.Brk, Step.instruction_at, Step.branch_target}
use Rattle.oat_image.specs.{Row}
use Rattle.oat_map.specs.declared.row.Row.TheVariants as rows

-- this instruction stands at the address
abbrev pub Stands : List ℕ → ℕ → Inst → Type 0
Stands code address inst = instruction_at code address ≡ Some inst

-- a branch of this form stands at the address and leads there
abbrev pub Branches : List ℕ → ℕ → (ℤ → Inst) → ℕ → Type 0
Branches code address form to = (offset : ℤ) × Stands code address (form offset) × (branch_target address offset ≡ to)

-- two moves put an address into X11
abbrev pub MovesAddress : List ℕ → ℕ → ℕ → Type 0
MovesAddress code at address = Stands code at (Movz 11 0 (address % 2 ^ 16)) × Stands code (at + 4) (Movk 11 1 (address / 2 ^ 16))

-- a test of a register or of the flags skips one instruction
abbrev pub SkipsOne : List ℕ → ℕ → Type 0
SkipsOne code at = ((rt : ℕ) × Stands code at (Cbnz rt (pos 2))) ⊎ ((cond : ℕ) × Stands code at (BCond cond (pos 2)))

-- the group of a use of a cell, which is this word of global data, and that of a define
abbrev pub IsUseGroup : List ℕ → ℕ → ℕ → ℕ → Type 0
IsUseGroup code at cell index =
    MovesAddress code at (global_address index) × Stands code (at + 8) (Ldr 10 11 0) × Stands code (at + 12) (Movz 9 0 cell) × Stands code (at + 16) (Svc 7)

abbrev pub IsDefineGroup : List ℕ → ℕ → ℕ → ℕ → Type 0
IsDefineGroup code at cell index =
    MovesAddress code at (global_address index) × Stands code (at + 8) (Movz 9 0 cell) × Stands code (at + 12) (Str 10 11 0) × Stands code (at + 16) (Svc 6)

-- the cells of an array: the first one has this word, so many are there, and their words are consecutive
pub record AreElements (cells : List ℕ) (cell len index : ℕ) : Type 0 where
  pub first : slice_get cells cell ≡ Some index
  pub there : cell + len ≤ length cells
  pub consecutive : (i : ℕ) → i < len → slice_get cells (cell + i) ≡ Some (index + i)

-- the number in X12 is tested against a length; where it isn't lower, the trap Index is met
abbrev pub TestsElement : List ℕ → ℕ → ℕ → Type 0
TestsElement code at len =
    Stands code at (Movz 11 0 len) × Stands code (at + 4) (SubsReg 31 12 11) × Stands code (at + 8) (BCond 3 (pos 2)) × Stands code (at + 12) (Brk 2)

-- the group of a use of an element of an array, whose first cell is this word of global data, and that of a define
abbrev pub IsUseAtGroup : List ℕ → ℕ → ℕ → ℕ → ℕ → Type 0
IsUseAtGroup code at cell len index =
    TestsElement code at len × MovesAddress code (at + 16) (global_address index) × Stands code (at + 24) (LdrReg 10 11 12)
    × Stands code (at + 28) (Movz 9 0 cell) × Stands code (at + 32) (AddReg 9 9 12 0) × Stands code (at + 36) (Svc 7)

abbrev pub IsDefineAtGroup : List ℕ → ℕ → ℕ → ℕ → ℕ → Type 0
IsDefineAtGroup code at cell len index =
    TestsElement code at len × MovesAddress code (at + 16) (global_address index) × Stands code (at + 24) (Movz 9 0 cell)
    × Stands code (at + 28) (AddReg 9 9 12 0) × Stands code (at + 32) (StrReg 10 11 12) × Stands code (at + 36) (Svc 6)

-- The group of a row stands at its address, in code and with the cells of an image.
abbrev pub IsGroup : List ℕ → List ℕ → Row → Type 0
IsGroup code cells (rows.Jump at to) = Branches code at B to
IsGroup code cells (rows.Branch at taken other) =
    Stands code at (Svc 3) × Branches code (at + 4) (Cbnz 9) taken × Branches code (at + 8) B other
IsGroup code cells (rows.Call at to) = Branches code at Bl to
IsGroup code cells (rows.ICall at params) = Stands code at (Svc 4) × Stands code (at + 4) (Blr 9)
IsGroup code cells (rows.Ret at) = Stands code at (Svc 5) × Stands code (at + 4) (Ret 30)
IsGroup code cells (rows.Begin at op) = Stands code at (Movz 9 0 op) × Stands code (at + 4) (Svc 1)
IsGroup code cells (rows.End at op) = Stands code at (Movz 9 0 op) × Stands code (at + 4) (Svc 2)
IsGroup code cells (rows.UseCell at cell) = (index : ℕ) × (slice_get cells cell ≡ Some index) × IsUseGroup code at cell index
IsGroup code cells (rows.DefCell at cell) = (index : ℕ) × (slice_get cells cell ≡ Some index) × IsDefineGroup code at cell index
IsGroup code cells (rows.UseAt at cell len) = (index : ℕ) × AreElements cells cell len index × IsUseAtGroup code at cell len index
IsGroup code cells (rows.DefAt at cell len) = (index : ℕ) × AreElements cells cell len index × IsDefineAtGroup code at cell len index
IsGroup code cells (rows.Check at) = SkipsOne code at × ((number : ℕ) × Stands code (at + 4) (Brk number))
