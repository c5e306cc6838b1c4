-- Worked windows and paths that tell the statements apart from weaker ones: from equal lists of cells, from a load somewhere, from the load of another element, and from a false return somewhere.
use Rattle.std.specs.Prelude.{◌≡◌, ◌+◌, ◌==◌, if◌then◌else◌, ℕ, pos, List, [], ◌∷◌, ◌++◌, map, codes, false}
use Rattle.oat_journal.specs.{Inst, AddReg, SubsReg, Movz, Movk, Ldr, LdrReg, BCond, Svc, Machine, act, first_regs, word_in, Edge, Map, Step, passed, Image, Run.Entry}
use Rattle.oat_attest.specs.{Headline.uses_in, Headline.AllReadByLoad, Lockstep.Makes, Lockstep.Executes, Lockstep.PassesCells, Lockstep.PartsAt, Lockstep.AllReturnsMatch, Lockstep.PartsAtFirst}
use Rattle.oat_map.specs.declared.edge.Edge.TheVariants as edges
use Rattle.oat_map.specs.declared.row.Row.TheVariants as rows

-- ---- an operation that uses one cell at two rows

abbrev pub two_uses_map : Map
two_uses_map = record {
  functions = record { entry = 0x10000; name = codes "main"; params = 0; referenced = false } ∷ [];
  blocks = [];
  rows = rows.Begin 0x10000 1 ∷ rows.UseCell 0x10008 0 ∷ rows.UseCell 0x1001C 0 ∷ rows.End 0x10030 1 ∷ [];
}

abbrev pub two_uses : Image
two_uses = record {
  code =
      0xD2800029 ∷ 0xD4000021 ∷ 0xD280000B ∷ 0xF2A8000B ∷ 0xF940016A ∷ 0xD2800009 ∷ 0xD40000E1
      ∷ 0xD280000B ∷ 0xF2A8000B ∷ 0xF940016A ∷ 0xD2800009 ∷ 0xD40000E1 ∷ 0xD2800029 ∷ 0xD4000041 ∷ 0xD4000001 ∷ [];
  words = [];
  cells = 0 ∷ [];
  map = two_uses_map;
}

-- an instruction that is made at an address, with these registers
abbrev pub made_with : (ℕ → ℕ) → (ℕ → ℕ) → ℕ → Inst → Entry
made_with x memory pc inst =
    let m : Machine = record { regs = record first_regs { x = x; pc = pc }; memory = memory } in
    record { inst = inst; found = m; left = (act inst m).machine.regs }

-- one where X9, X10 and X11 hold the cell's number, its word and that word's address
abbrev pub made_at : (ℕ → ℕ) → ℕ → Inst → Entry
made_at memory pc inst = made_with (λ k. if k == 10 then word_in memory 0x40000000 else (if k == 11 then 0x40000000 else 0)) memory pc inst

-- the group of a UseCell row of cell 0
abbrev pub use_at : (ℕ → ℕ) → ℕ → List Entry
use_at memory at =
    made_at memory at (Movz 11 0 0) ∷ made_at memory (at + 4) (Movk 11 1 0x4000) ∷ made_at memory (at + 8) (Ldr 10 11 0)
    ∷ made_at memory (at + 12) (Movz 9 0 0) ∷ made_at memory (at + 16) (Svc 7) ∷ []

abbrev pub both_passed : List Step
both_passed = passed ∷ passed ∷ []

abbrev pub cells_used : List Entry → List ℕ
cells_used window = map (λ checked. checked.cell) (uses_in two_uses [] window)

pub record TwoUses (memory : ℕ → ℕ) : Type 0 where
  -- the two rows are passed by their two groups, in order
  pub paired : Executes two_uses 1 [] 0x10008 both_passed (use_at memory 0x10008 ++ use_at memory 0x1001C) 0x10030 []
  -- the first row isn't passed by the second group
  pub apart : (to : ℕ) (rest : List Entry)
      → (m : Makes two_uses 1 0x10008 (rows.UseCell 0x10008 0) [] to (use_at memory 0x10008 ++ use_at memory 0x1001C) rest)
      → m.group ≡ use_at memory 0x1001C → ⊥
  -- a window that makes the two groups the other way round doesn't execute the passes, though it uses the same cells as the rows
  pub exchanged : (place : ℕ) (rest : List Entry)
      → Executes two_uses 1 [] 0x10008 both_passed (use_at memory 0x1001C ++ use_at memory 0x10008) place rest → ⊥
  pub same_cells : PassesCells two_uses_map [] 0x10008 both_passed (cells_used (use_at memory 0x1001C ++ use_at memory 0x10008))
  -- each use is read by the load of its own group, and not by that of the other, though it stands two instructions before and reads the cell's word
  pub own_load : AllReadByLoad two_uses (use_at memory 0x10008 ++ use_at memory 0x1001C)
  pub other_load : AllReadByLoad two_uses (made_at memory 0x10010 (Ldr 10 11 0) ∷ made_at memory 0x10028 (Movz 9 0 0) ∷ made_at memory 0x1002C (Svc 7) ∷ []) → ⊥

-- ---- an operation that uses an element of an array of two

abbrev pub one_element : Image
one_element = record {
  code =
      0xD2800029 ∷ 0xD4000021 ∷ 0xD280004B ∷ 0xEB0B019F ∷ 0x54000043 ∷ 0xD4200040 ∷ 0xD280000B ∷ 0xF2A8000B
      ∷ 0xF86C796A ∷ 0xD2800009 ∷ 0x8B0C0129 ∷ 0xD40000E1 ∷ 0xD2800029 ∷ 0xD4000041 ∷ 0xD4000001 ∷ [];
  words = [];
  cells = 0 ∷ 1 ∷ [];
  map = record two_uses_map { rows = rows.Begin 0x10000 1 ∷ rows.UseAt 0x10008 0 2 ∷ rows.End 0x10030 1 ∷ [] };
}

-- an instruction that is made at an address, where X9 and X10 hold the number and the word of the second element's cell, X11 the address of the first one's word, and X12 a number
abbrev pub made_at_element : (ℕ → ℕ) → ℕ → ℕ → Inst → Entry
made_at_element memory number pc inst =
    made_with (λ k. if k == 9 then 1 else (if k == 10 then word_in memory 0x40000008 else (if k == 11 then 0x40000000 else (if k == 12 then number else 0)))) memory pc inst

-- the group of its row, but for the trap, where the second element's cell is named
abbrev pub use_element : (ℕ → ℕ) → ℕ → List Entry
use_element memory number =
    made_at_element memory number 0x10008 (Movz 11 0 2) ∷ made_at_element memory number 0x1000C (SubsReg 31 12 11) ∷ made_at_element memory number 0x10010 (BCond 3 (pos 2))
    ∷ made_at_element memory number 0x10018 (Movz 11 0 0) ∷ made_at_element memory number 0x1001C (Movk 11 1 0x4000) ∷ made_at_element memory number 0x10020 (LdrReg 10 11 12)
    ∷ made_at_element memory number 0x10024 (Movz 9 0 0) ∷ made_at_element memory number 0x10028 (AddReg 9 9 12 0) ∷ made_at_element memory number 0x1002C (Svc 7) ∷ []

pub record OneElement (memory : ℕ → ℕ) : Type 0 where
  -- the row is passed by its group without the trap, and it may use the second cell
  pub executed : Executes one_element 1 [] 0x10008 (passed ∷ []) (use_element memory 1) 0x10030 []
  -- the use is read by the load of its own group where X12 has the second element's number, and not where that load reads the first element
  pub own_element : AllReadByLoad one_element (use_element memory 1)
  pub other_element : AllReadByLoad one_element (use_element memory 0) → ⊥

-- ---- three calls, of which the second returns to the first one's site again

abbrev pub three_calls : List Edge
three_calls =
    edges.Call 0x100 0x200 ∷ edges.Ret 0x200 0x104 ∷ edges.Call 0x104 0x200 ∷ edges.Ret 0x200 0x104 ∷ edges.Call 0x104 0x200 ∷ []

abbrev pub run_of_three : List Edge
run_of_three = three_calls ++ edges.Ret 0x200 0x104 ∷ []

abbrev pub path_of_three : List Edge
path_of_three = three_calls ++ edges.Ret 0x200 0x108 ∷ edges.End 1 ∷ []

pub record SecondIsFalse : Type 0 where
  -- they part at the third return, which is false
  pub parting : PartsAt run_of_three (0x104 ∷ 0x104 ∷ 0x104 ∷ []) path_of_three
  pub third : parting.common ≡ three_calls
  -- but the second is false before it, so that this isn't the first false return
  pub earlier : AllReturnsMatch three_calls → ⊥
  pub not_first : (p : PartsAtFirst run_of_three (0x104 ∷ 0x104 ∷ 0x104 ∷ []) path_of_three) → p.parting.common ≡ three_calls → ⊥
