-- Names of places in a built image, and numbers of sites (docs/FORMATS.md).
use Rattle.std.specs.Prelude.{◌≡◌, ◌+◌, ◌*◌, ◌≤◌, ℕ, Bool, true, false, IsTrue, List, ◌∷◌, ◌++◌, Some, None, slice_get, Contains, count_by}
use Rattle.oat_parts.specs.{code_base, Image, IsWellFormedImage, Map, Row, address_of, after, is_call, place_of, place_name, site, call_site, IsShaped, Mark, Jump, Branch, Call, ICall, Ret, Item}
use Rattle.oat_parts.specs.{address, Symbols.FunctionSymbol, Symbols.SymbolTable, Symbols.IsSymbolTable, Symbols.labels_of, Parts.AreInParts, Built.built_address, Built.built_map, Making.FunctionCode}
use Rattle.oat_parts.specs.{Making.AreCodes, Making.words_become}
use Rattle.oat_check.specs.{Program, Func, BlockIr, SourceSite, Naming.source_func_name, Naming.source_block_name, Naming.source_site_name, Rules.IsChecked}
use Rattle.oat_symbols.specs.{Programs.label_of_block, Programs.symbols_of, Programs.HasValidNames, Codes.codes_of, Codes.IsCodeOf, Codes.items_for}
use Rattle.oat_asm.specs.declared.item.Item.TheVariants as item

-- functions and blocks have their names at their labels, and the place of an address is the last label at or below it
pub record HasItsNames (t : SymbolTable) (m : Map) (address_of_label : ℕ → ℕ) : Type 0 where
  pub functions : (k : ℕ) (e : FunctionSymbol) → slice_get t.functions k ≡ Some e
      → place_name m (address_of_label e.label) ≡ Some (record { function = e.name; block = None })
  pub blocks : (k b : ℕ) (e : FunctionSymbol) (name : List ℕ) → slice_get t.functions k ≡ Some e → slice_get e.blocks b ≡ Some name
      → place_name m (address_of_label (e.first + b)) ≡ Some (record { function = e.name; block = Some name })
  pub places : (l a : ℕ) → Contains (labels_of t) l → address_of_label l ≤ a
      → ((x : ℕ) → Contains (labels_of t) x → address_of_label x ≤ a → address_of_label x ≤ address_of_label l) → place_of m a ≡ Some (address_of_label l)

abbrev pub BuiltMapsHaveNames : Type 0
BuiltMapsHaveNames =
    (t : SymbolTable) (items : List Item) → IsSymbolTable t → AreInParts t items → HasItsNames t (built_map t items) (built_address items)

-- the places of a program's functions and blocks have the names that its source has
pub record HasSourceNames (program : Program) (m : Map) (address_of_label : ℕ → ℕ) : Type 0 where
  pub functions : (at : SourceSite) (func : Func) → slice_get program.funcs at.func ≡ Some func
      → place_name m (address_of_label at.func) ≡ source_func_name program at
  pub blocks : (at : SourceSite) (func : Func) (block : BlockIr) → slice_get program.funcs at.func ≡ Some func → slice_get func.blocks at.block ≡ Some block
      → place_name m (address_of_label (label_of_block program at.func at.block)) ≡ source_block_name program at

abbrev pub PlacesAreNamedBySource : Type 0
PlacesAreNamedBySource =
    (program : Program) (codes : List FunctionCode) → IsChecked program → HasValidNames program → AreCodes (symbols_of program) (symbols_of program).functions codes
    → HasSourceNames program (built_map (symbols_of program) (items_for program codes)) (built_address (items_for program codes))

-- ---- sites

-- a mark whose row transfers control
abbrev pub is_site_mark : Mark → Bool
is_site_mark (Jump to) = true
is_site_mark (Branch taken other) = true
is_site_mark (Call to) = true
is_site_mark (ICall params) = true
is_site_mark Ret = true
is_site_mark _ = false

abbrev pub is_site_item : Item → Bool
is_site_item (item.Mark m) = is_site_mark m
is_site_item _ = false

-- the site of a mark has the place of the last label before it, and its number counts the sites between
abbrev pub SitesAreCounted : Type 0
SitesAreCounted =
    (t : SymbolTable) (items before middle behind : List Item) (l : ℕ) (m : Mark) → IsSymbolTable t → AreInParts t items
    → items ≡ before ++ item.Label l ∷ (middle ++ item.Mark m ∷ behind) → ((x : ℕ) → Contains middle (item.Label x) → ⊥)
    → site (built_map t items) (address code_base (words_become before + words_become middle))
    ≡ record { place = place_name (built_map t items) (built_address items l); number = count_by is_site_item middle }

-- in an image with the shape a return site is named by its call
abbrev pub CallSitesAreFound : Type 0
CallSitesAreFound =
    (i : Image) (row : Row) → IsWellFormedImage i → IsShaped i → Contains i.map.rows row → IsTrue (is_call row)
    → call_site i.map (after row) ≡ site i.map (address_of row)

-- the site of a mark in a block has the name of the source's site with as many sites before it in the block
abbrev pub SitesAreNamedBySource : Type 0
SitesAreNamedBySource =
    (program : Program) (code : ℕ → Func → FunctionCode) → IsChecked program → HasValidNames program
    → ((f : ℕ) (func : Func) → slice_get program.funcs f ≡ Some func → IsCodeOf (symbols_of program) func (code f func))
    → (at : SourceSite) (func : Func) (block : BlockIr) (front behind : List Item) (m : Mark)
    → slice_get program.funcs at.func ≡ Some func → slice_get func.blocks at.block ≡ Some block
    → slice_get (code at.func func).blocks at.block ≡ Some (front ++ item.Mark m ∷ behind) → count_by is_site_item front ≡ at.number
    → site (built_map (symbols_of program) (items_for program (codes_of code program)))
    (built_address (items_for program (codes_of code program)) (label_of_block program at.func at.block) + 4 * words_become front)
    ≡ source_site_name program at
