-- The image that is built of the items of a program and its symbol table, and that it has the shape (docs/FORMATS.md).
use Rattle.std.specs.Prelude.{◌≡◌, ◌≤◌, ◌↔◌, ℕ, Bool, List, map, Contains}
use Rattle.oat_asm.specs.{code_base, Map, Function, Row, IsOperation, Image, IsWellFormedImage, declared.note.Note.Note, declared.note.Note.TheVariants.Check, declared.item.Item.Item}
use Rattle.oat_asm.specs.{declared.assembled.NoteAt.NoteAt, Items.words_needed, Items.code_limit, Items.UsedLabelsStandOnce, Items.InstructionsAreInRange, Items.BranchesAreInRange}
use Rattle.oat_asm.specs.{Items.AddressesHaveRegisters, Layout.layout, Laws.code_of, Expansion.expansion, ExpansionLaws.MarksAreInRange, ExpansionLaws.MarkedLabelsStandOnce, NoteRows.row_of}
use Rattle.oat_asm.specs.{Standing.ItemsStand, StandingLaws.label_address, StandingLaws.LabelsStandOnce, IsShaped}
use Rattle.oat_parts.specs.{Symbols.SymbolTable, Symbols.FunctionSymbol, Symbols.IsSymbolTable, Symbols.Rises, Symbols.functions_of, Symbols.blocks_of, Symbols.operations_in, Symbols.labels_of}
use Rattle.oat_parts.specs.{Parts.AreInParts}
use Rattle.oat_asm.specs.declared.item.Item.TheVariants as item

-- where a label stands among the expanded items
abbrev pub built_address : List Item → ℕ → ℕ
built_address items label = label_address (expansion items) label

abbrev pub row_at : List Item → NoteAt → Row
row_at items n = row_of (built_address items) n.at n.note

abbrev pub built_map : SymbolTable → List Item → Map
built_map t items = record {
  functions = functions_of (built_address items) t.functions;
  blocks = blocks_of (built_address items) t.functions;
  rows = map (row_at items) (layout (expansion items) code_base).notes;
}

abbrev pub built_image : SymbolTable → List Item → Image
built_image t items = record {
  code = code_of (expansion items);
  words = t.words;
  cells = t.cells;
  map = built_map t items;
}

-- ---- what the assembler and the expansion ask of the items

pub record CanBeExpanded (items : List Item) : Type 0 where
  pub instructions : InstructionsAreInRange items
  pub branches : BranchesAreInRange items
  pub registers : AddressesHaveRegisters items
  pub marks : MarksAreInRange items
  pub used : UsedLabelsStandOnce items
  pub marked : MarkedLabelsStandOnce items

abbrev pub PartsCanBeExpanded : Type 0
PartsCanBeExpanded = (t : SymbolTable) (items : List Item) → IsSymbolTable t → AreInParts t items → CanBeExpanded items

-- ---- the image

-- what a function is called with
pub record Signature : Type 0 where
  pub name : List ℕ
  pub params : ℕ
  pub referenced : Bool

abbrev pub in_map : Function → Signature
in_map f = record { name = f.name; params = f.params; referenced = f.referenced }

abbrev pub in_table : FunctionSymbol → Signature
in_table e = record { name = e.name; params = e.params; referenced = e.referenced }

pub record IsBuiltWell (t : SymbolTable) (i : Image) : Type 0 where
  pub well_formed : IsWellFormedImage i
  pub shaped : IsShaped i
  pub functions : map in_map i.map.functions ≡ map in_table t.functions
  pub operations : (op : ℕ) → IsOperation i.map op ↔ Contains (operations_in t.functions) op

-- each image that is built of parts is well formed and has the shape, and the table's functions and operations
abbrev pub BuiltImagesAreShaped : Type 0
BuiltImagesAreShaped =
    (t : SymbolTable) (items : List Item) → IsSymbolTable t → AreInParts t items → words_needed (expansion items) ≤ code_limit
    → IsBuiltWell t (built_image t items)

-- its items stand in it
abbrev pub BuiltItemsStand : Type 0
BuiltItemsStand =
    (t : SymbolTable) (items : List Item) → IsSymbolTable t → AreInParts t items → words_needed (expansion items) ≤ code_limit
    → ItemsStand (built_image t items) (built_address items) code_base (expansion items)

-- labels have addresses in the order of the table
abbrev pub BuiltLabelsRise : Type 0
BuiltLabelsRise = (t : SymbolTable) (items : List Item) → IsSymbolTable t → AreInParts t items → Rises (built_address items) (labels_of t)

-- the items have just the labels of the table, each once, and no notes but those of checks
pub record HasLabelsOf (t : SymbolTable) (items : List Item) : Type 0 where
  pub has : (label : ℕ) → Contains (labels_of t) label → Contains items (item.Label label)
  pub only : (label : ℕ) → Contains items (item.Label label) → Contains (labels_of t) label
  pub once : LabelsStandOnce (expansion items)
  pub checks : (note : Note) → Contains items (item.Note note) → note ≡ Check

abbrev pub PartsHaveTheLabels : Type 0
PartsHaveTheLabels = (t : SymbolTable) (items : List Item) → IsSymbolTable t → AreInParts t items → HasLabelsOf t items
