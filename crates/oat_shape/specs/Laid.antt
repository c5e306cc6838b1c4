-- What a well-formed image with the shape gives (docs/PROMISES.md): how its groups lie in code, of which all that runs or replays it makes use.
use Rattle.std.specs.Prelude.{◌≡◌, ◌+◌, ◌*◌, ◌%◌, ◌^◌, ◌<◌, ◌≤◌, ◌||◌, ℕ, true, List, slice_get, Contains, Some, IsSome}
use Rattle.oat_a64.specs.{global_address, declared.inst.Inst.Inst, Kinds.is_measured, Kinds.is_transfer}
use Rattle.oat_image.specs.{Map, Row, Begin, address_of, after, next, start, row_over, IsOrdered, IsOperation, BeginsAt, entries_of, starts_of, declared.image.Image.Image, Grammar.IsWellFormedImage}
use Rattle.oat_image.specs.{Grammar.IsRow}
use Rattle.oat_shape.specs.{Groups.Stands, Groups.AreElements, Groups.IsGroup, MapRules.LeadsToPlaces, MapRules.S7, Shape.Everywhere, Shape.IsShaped, Shape.Covers, Shape.CutsNoGroup}
use Rattle.oat_shape.specs.{Shape.IsPlaceOrSite, Shape.group_end}

-- the row is the lowest one at or above an address
pub record IsNext (rows : List Row) (t : ℕ) (row : Row) : Type 0 where
  pub has : Contains rows row
  pub above : t ≤ address_of row
  pub lowest : (r : Row) → Contains rows r → t ≤ address_of r → address_of row ≤ address_of r

pub record IsLaid (image : Image) : Type 0 where
  -- rows rise; each has the numbers of its kind, and its group wraps around no address
  pub ordered : IsOrdered image.map.rows
  pub low : (r : Row) → Contains image.map.rows r → IsRow r × (group_end r < 2 ^ 33) × (after r ≡ group_end r)
  -- each has its group, which leads to places; the row over an address of a group, and the next one, are found
  pub group : (r : Row) → Contains image.map.rows r → IsGroup image.code image.cells r
  pub leads : (r : Row) → Contains image.map.rows r → LeadsToPlaces (entries_of image.map.functions) (starts_of image.map.blocks) r
  pub over : (r : Row) (p : ℕ) → Contains image.map.rows r → Covers r p → row_over image.map.rows p ≡ Some r
  pub next_is : (t : ℕ) (row : Row) → next image.map.rows t ≡ Some row → IsNext image.map.rows t row
  -- neither the end of a group nor a place lies inside a group
  pub behind : (r : Row) → Contains image.map.rows r → CutsNoGroup image.map.rows (group_end r)
  pub place : (p : ℕ) → IsPlaceOrSite image.map p → CutsNoGroup image.map.rows p
  -- instructions stand at addresses of words, those that transfer or are measured in groups
  pub coded : (p : ℕ) (i : Inst) → Stands image.code p i → (p % 4 ≡ 0) × (p < 2 ^ 32)
  pub covered : (p : ℕ) (i : Inst) → Stands image.code p i → (is_transfer i || is_measured i) ≡ true
      → (r : Row) × Contains image.map.rows r × Covers r p
  -- cells are words of global data, and an operation starts behind its Begin row
  pub cell : (index : ℕ) → Contains image.cells index → index ≤ 65535
  pub begun : (at op : ℕ) → Contains image.map.rows (Begin at op) → start image.map.rows op ≡ Some (after (Begin at op))

abbrev pub ShapedImagesAreLaid : Type 0
ShapedImagesAreLaid = (image : Image) → IsWellFormedImage image → IsShaped image → IsLaid image

-- the window of an operation opens at one place
abbrev pub OperationsOpenOnce : Type 0
OperationsOpenOnce = (m : Map) (op one other : ℕ) → Everywhere (S7 m) → BeginsAt m op one → BeginsAt m op other → other ≡ one

-- an operation starts somewhere
abbrev pub OperationsStart : Type 0
OperationsStart = (m : Map) (op : ℕ) → IsOperation m op → IsSome (start m.rows op)

-- element i of an array, whose first cell has this word of global data, stands in a cell of its own, and its word stands as many words behind the first one
pub record IsElement (cells : List ℕ) (cell index i : ℕ) : Type 0 where
  pub own : slice_get cells (cell + i) ≡ Some (index + i)
  pub within : index + i ≤ 65535
  pub behind : global_address (index + i) ≡ global_address index + 8 * i

-- each element of an array has its cell
abbrev pub ElementsHaveTheirCells : Type 0
ElementsHaveTheirCells = (image : Image) (cell len index i : ℕ) → IsLaid image → AreElements image.cells cell len index → i < len
    → IsElement image.cells cell index i
