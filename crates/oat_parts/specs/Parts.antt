-- Parts of code: the pieces of which the unexpanded items of a program are made, each with its condition by itself (docs/FORMATS.md, rows and their groups).
use Rattle.std.specs.{Prelude.◌≡◌, Prelude.◌≤◌, Prelude.◌<◌, Prelude.◌^◌, Prelude.ℕ, Prelude.pos, Prelude.Bool, Prelude.true, Prelude.false, Prelude.◌||◌, Prelude.List, Prelude.[], Prelude.◌∷◌}
use Rattle.std.specs.{Prelude.slice_get, Prelude.Some, Prelude.Contains, Prelude.⊤, List.flat_map, List.AllByRecursion}
use Rattle.oat_asm.specs.{Inst, is_transfer, is_measured, IsInRange, declared.mark.Mark.Mark, declared.mark.Mark.TheVariants.Jump, declared.mark.Mark.TheVariants.Branch}
use Rattle.oat_asm.specs.{declared.mark.Mark.TheVariants.Call, declared.mark.Mark.TheVariants.ICall, declared.mark.Mark.TheVariants.Ret, declared.mark.Mark.TheVariants.Begin}
use Rattle.oat_asm.specs.{declared.mark.Mark.TheVariants.End, declared.mark.Mark.TheVariants.UseCell, declared.mark.Mark.TheVariants.DefCell, declared.mark.Mark.TheVariants.UseAt}
use Rattle.oat_asm.specs.{declared.mark.Mark.TheVariants.DefAt, declared.item.Item.Item, Items.words_needed, Expansion.expansion, IsLength, IsOperationNumber, AreElements}
use Rattle.oat_parts.specs.Symbols.{SymbolTable, IsFunctionLabel, IsBlockLabel, labels_of, operations_in}
use Rattle.oat_a64.specs.declared.inst.Inst.TheVariants as inst
use Rattle.oat_asm.specs.declared.note.Note.TheVariants as note
use Rattle.oat_asm.specs.declared.item.Item.TheVariants as item

-- what a check tests: that a register isn't 0, or a condition
pub data CheckTest : Type 0 where
  is_set : ℕ → CheckTest
  is_met : ℕ → CheckTest

-- the instruction that skips the next one where the test holds
abbrev pub skip : CheckTest → Inst
skip (is_set register) = inst.Cbnz register (pos 2)
skip (is_met cond) = inst.BCond cond (pos 2)

pub data CodePart : Type 0 where
  simple : Inst → CodePart
  label : ℕ → CodePart
  reference : ℕ → ℕ → CodePart
  mark : Mark → CodePart
  check : CheckTest → ℕ → CodePart

abbrev pub items_of : CodePart → List Item
items_of (simple i) = item.Inst i ∷ []
items_of (label l) = item.Label l ∷ []
items_of (reference register l) = item.AddressOf register l ∷ []
items_of (mark m) = item.Mark m ∷ []
items_of (check test number) = item.Note note.Check ∷ item.Inst (skip test) ∷ item.Inst (inst.Brk number) ∷ []

abbrev pub all_items : List CodePart → List Item
all_items parts = flat_map items_of parts

-- the items that become of it, and their words
abbrev pub expanded_part : CodePart → List Item
expanded_part p = expansion (items_of p)

abbrev pub part_words : CodePart → ℕ
part_words p = words_needed (expanded_part p)

-- ---- each part by itself

-- a mark leads to labels of the table, and names its operations and cells
abbrev pub IsMarkOf : SymbolTable → Mark → Type 0
IsMarkOf t (Jump to) = IsBlockLabel t to
IsMarkOf t (Branch taken other) = IsBlockLabel t taken × IsBlockLabel t other
IsMarkOf t (Call to) = IsFunctionLabel t to
IsMarkOf t (ICall params) = params ≤ 4
IsMarkOf t Ret = ⊤
IsMarkOf t (Begin op) = IsOperationNumber op
IsMarkOf t (End op) = IsOperationNumber op × Contains (operations_in t.functions) op
IsMarkOf t (UseCell cell index) = slice_get t.cells cell ≡ Some index
IsMarkOf t (DefCell cell index) = slice_get t.cells cell ≡ Some index
IsMarkOf t (UseAt cell len index) = AreElements t.cells cell len index × IsLength len
IsMarkOf t (DefAt cell len index) = AreElements t.cells cell len index × IsLength len

-- it neither transfers control nor is measured
abbrev pub IsLoose : Inst → Type 0
IsLoose i = (is_transfer i || is_measured i) ≡ false

abbrev pub IsCodePart : SymbolTable → CodePart → Type 0
IsCodePart t (simple i) = IsInRange i × IsLoose i
IsCodePart t (label l) = ⊤
IsCodePart t (reference register l) = (register ≤ 30) × IsFunctionLabel t l
IsCodePart t (mark m) = IsMarkOf t m
IsCodePart t (check test number) = IsInRange (skip test) × (number < 2 ^ 16)

-- ---- their order

-- a label or a call has to be followed by a word before the next label
abbrev pub waits : CodePart → Bool
waits (label l) = true
waits (mark (Call to)) = true
waits (mark (ICall params)) = true
waits _ = false

abbrev pub MayFollow : Bool → CodePart → Type 0
MayFollow waiting (label l) = waiting ≡ false
MayFollow waiting _ = ⊤

-- behind the last one nothing waits
abbrev pub ArePaced : Bool → List CodePart → Type 0
ArePaced waiting [] = waiting ≡ false
ArePaced waiting (p ∷ ps) = MayFollow waiting p × ArePaced (waits p) ps

abbrev pub labels_in_part : CodePart → List ℕ
labels_in_part (label l) = l ∷ []
labels_in_part _ = []

abbrev pub labels_in : List CodePart → List ℕ
labels_in parts = flat_map labels_in_part parts

abbrev pub begun_by : CodePart → List ℕ
begun_by (mark (Begin op)) = op ∷ []
begun_by _ = []

abbrev pub begun_in : List CodePart → List ℕ
begun_in parts = flat_map begun_by parts

-- ---- items that are made of parts

-- with these labels, and with groups that begin these operations, in order
pub record IsMadeOfParts (t : SymbolTable) (labels begun : List ℕ) (items : List Item) : Type 0 where
  pub parts : List CodePart
  pub are : items ≡ all_items parts
  pub each : AllByRecursion (IsCodePart t) parts
  pub paced : ArePaced false parts
  pub labelled : labels_in parts ≡ labels
  pub begins : begun_in parts ≡ begun

-- the items of a whole program: they have the table's labels, and begin its operations
abbrev pub AreInParts : SymbolTable → List Item → Type 0
AreInParts t items = IsMadeOfParts t (labels_of t) (operations_in t.functions) items
