-- What holds of the instruction table as a whole (docs/PROMISES.md).
use Rattle.std.specs.Prelude.{◌≡◌, ℕ, ◌↔◌, Some}
use Rattle.oat_a64.specs.{declared.inst.Inst.Inst, Table.Word, Fetch.inst_of}

-- no word is that of two instructions
abbrev pub NoWordIsOfTwo : Type 0
NoWordIsOfTwo = (i j : Inst) (w : ℕ) → Word i w → Word j w → i ≡ j

-- the instruction of a word is the one whose word it is
abbrev pub FetchesByTheTable : Type 0
FetchesByTheTable = (i : Inst) (w : ℕ) → (inst_of w ≡ Some i) ↔ Word i w
