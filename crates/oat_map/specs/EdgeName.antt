-- Names of edges, as the lines of a path write them: by functions, blocks and numbers of rows, and
-- not by addresses (docs/FORMATS.md). A path of a program's source has names of the same kind.
use Rattle.std.specs.{Prelude.ℕ, Prelude.Bool, Prelude.true, Prelude.false, Prelude.◌&&◌, Prelude.◌==◌, Prelude.nat_lt, Prelude.nat_le, Prelude.max, Prelude.List, Prelude.[], Prelude.◌++◌}
use Rattle.std.specs.{Prelude.filter, Prelude.fold, Prelude.find, Prelude.reverse, Prelude.count_by, Prelude.Option, Prelude.None, Prelude.Some, Prelude.unwrap_or, Option.option_map, Option.option_or}
use Rattle.std.specs.{Option.option_and_then}
use Rattle.oat_map.specs.{declared.row.Row.Row, declared.row.Row.TheVariants.Jump, declared.row.Row.TheVariants.Branch, declared.row.Row.TheVariants.Call, declared.row.Row.TheVariants.ICall}
use Rattle.oat_map.specs.{declared.row.Row.TheVariants.Ret, declared.edge.Edge.Edge, declared.map.Map.Map, Rows.address_of, Rows.is_returned_to, Rows.entries_of, Rows.starts_of}
use Rattle.oat_map.specs.declared.edge.Edge.TheVariants as edges

-- a place: the entry of the function, written `f`, or one of its blocks, written `f.b`
pub record PlaceName : Type 0 where
  pub function : List ℕ
  pub block : Option (List ℕ)

-- a row's site: the greatest place at or below its address, written `-` where there is none, and
-- the row's number among those of the same place
pub record Site : Type 0 where
  pub place : Option PlaceName
  pub number : ℕ

pub data EdgeName : Type 0 where
  jump : (site : Site) (place : Option PlaceName) → EdgeName
  branch : (site : Site) (bit : Bool) (place : Option PlaceName) → EdgeName
  call : (site : Site) (place : Option PlaceName) → EdgeName
  icall : (site : Site) (place : Option PlaceName) → EdgeName
  return : (site called_from : Site) → EdgeName
  finish : (op : ℕ) → EdgeName
  stray : (from to : ℕ) → EdgeName  -- no row allows it, so it has no name but its addresses

-- the addresses of all places
abbrev pub places : Map → List ℕ
places flow = entries_of flow.functions ++ starts_of flow.blocks

abbrev pub later_of : Option ℕ → ℕ → Option ℕ
later_of None place = Some place
later_of (Some other) place = Some (max other place)

-- the greatest place at or below an address
abbrev pub place_of : Map → ℕ → Option ℕ
place_of flow address = fold later_of None (filter (λ place. nat_le place address) (places flow))

-- the name of the last function with its entry below an address, which is the one with the greatest
-- entry where these rise; the empty name where there is none, which shape rule S8 excludes for blocks
abbrev pub function_below : Map → ℕ → List ℕ
function_below flow address =
    unwrap_or (option_map (λ function. function.name) (find (λ function. nat_lt function.entry address) (reverse flow.functions))) []

abbrev pub block_name : Map → ℕ → Option PlaceName
block_name flow place =
    option_map (λ block. record { function = function_below flow place; block = Some block.label })
    (find (λ block. block.start == place) flow.blocks)

-- the name of the place at just this address
abbrev pub place_name : Map → ℕ → Option PlaceName
place_name flow place =
    option_or (option_map (λ function. record { function = function.name; block = None })
    (find (λ function. function.entry == place) flow.functions)) (block_name flow place)

abbrev pub is_numbered : Row → Bool
is_numbered (Jump at to) = true
is_numbered (Branch at taken other) = true
is_numbered (Call at to) = true
is_numbered (ICall at params) = true
is_numbered (Ret at) = true
is_numbered _ = false

abbrev pub is_same_place : Option ℕ → Option ℕ → Bool
is_same_place None None = true
is_same_place (Some place) (Some other) = place == other
is_same_place _ _ = false

-- whether the row is numbered before the one at `address`: it transfers control, has the same place
-- and a lower address
abbrev pub is_numbered_before : Map → ℕ → Row → Bool
is_numbered_before flow address row =
    is_numbered row && nat_lt (address_of row) address && is_same_place (place_of flow (address_of row)) (place_of flow address)

-- the site of the row at an address
abbrev pub site : Map → ℕ → Site
site flow address = record {
  place = option_and_then (place_name flow) (place_of flow address);
  number = count_by (is_numbered_before flow address) flow.rows;
}

-- a return site is named by its call; an address that is none, by itself
abbrev pub call_site : Map → ℕ → Site
call_site flow back = site flow (unwrap_or (option_map address_of (find (is_returned_to back) flow.rows)) back)

abbrev pub name_of : Map → Edge → EdgeName
name_of flow (edges.Jump from to) = jump (site flow from) (place_name flow to)
name_of flow (edges.Branch from bit to) = branch (site flow from) bit (place_name flow to)
name_of flow (edges.Call from to) = call (site flow from) (place_name flow to)
name_of flow (edges.ICall from to) = icall (site flow from) (place_name flow to)
name_of flow (edges.Ret from to) = return (site flow from) (call_site flow to)
name_of flow (edges.End op) = finish op
name_of flow (edges.Stray from to) = stray from to
