-- The rows of a control-flow map: the words of their groups (one A64 instruction each, 4 bytes as
-- the Arm A64 manual has it), the address behind a group, and the row that stands next behind an
-- address. Addresses are numbers of 64 bits, and their sums are taken modulo 2 ^ 64.
use Rattle.std.specs.{Prelude.ℕ, Prelude.◌≡◌, Prelude.◌+◌, Prelude.◌*◌, Prelude.◌%◌, Prelude.◌^◌, Prelude.◌≤◌, Prelude.Bool, Prelude.true, Prelude.false, Prelude.◌==◌, Prelude.◌&&◌, Prelude.List}
use Rattle.std.specs.{Prelude.map, Prelude.find, Prelude.nat_le, Prelude.nat_lt, Prelude.Option, Prelude.Some, Prelude.Contains, Option.option_map, List.Sorted.IsStrictlyIncreasing}
use Rattle.oat_map.specs.{declared.row.Row.Row, declared.row.Row.TheVariants.Jump, declared.row.Row.TheVariants.Branch, declared.row.Row.TheVariants.Call, declared.row.Row.TheVariants.ICall}
use Rattle.oat_map.specs.{declared.row.Row.TheVariants.Ret, declared.row.Row.TheVariants.Begin, declared.row.Row.TheVariants.End, declared.row.Row.TheVariants.UseCell}
use Rattle.oat_map.specs.{declared.row.Row.TheVariants.DefCell, declared.row.Row.TheVariants.UseAt, declared.row.Row.TheVariants.DefAt, declared.row.Row.TheVariants.Check}
use Rattle.oat_map.specs.{declared.map.Function.Function, declared.map.Block.Block, declared.map.Map.Map}

-- the address of the first word of the row's group
abbrev pub address_of : Row → ℕ
address_of (Jump at to) = at
address_of (Branch at taken other) = at
address_of (Call at to) = at
address_of (ICall at params) = at
address_of (Ret at) = at
address_of (Begin at op) = at
address_of (End at op) = at
address_of (UseCell at cell) = at
address_of (DefCell at cell) = at
address_of (UseAt at cell len) = at
address_of (DefAt at cell len) = at
address_of (Check at) = at

-- how many words the row's group has
abbrev pub word_count : Row → ℕ
word_count (Jump at to) = 1
word_count (Branch at taken other) = 3
word_count (Call at to) = 1
word_count (ICall at params) = 2
word_count (Ret at) = 2
word_count (Begin at op) = 2
word_count (End at op) = 2
word_count (UseCell at cell) = 5
word_count (DefCell at cell) = 5
word_count (UseAt at cell len) = 10
word_count (DefAt at cell len) = 10
word_count (Check at) = 2

-- the address behind the row's group; behind that of a Call or an ICall it is the return site
abbrev pub after : Row → ℕ
after row = (address_of row + 4 * word_count row) % 2 ^ 64

-- the addresses of the rows, in their order
abbrev pub row_addresses : List Row → List ℕ
row_addresses rows = map address_of rows

-- the addresses of the rows rise strictly
abbrev pub IsOrdered : List Row → Type 0
IsOrdered rows = IsStrictlyIncreasing (row_addresses rows)

-- the first row whose address is at least `place`; where the rows are ordered, it is the lowest one
abbrev pub next : List Row → ℕ → Option Row
next rows place = find (λ row. nat_le place (address_of row)) rows

-- where the rows are ordered, the next row is the lowest one at or above the place
abbrev pub NextIsLowest : Type 0
NextIsLowest = (rows : List Row) (place : ℕ) (row : Row) → IsOrdered rows → next rows place ≡ Some row
    → Contains rows row × (place ≤ address_of row)
    × ((other : Row) → Contains rows other → place ≤ address_of other → address_of row ≤ address_of other)

-- whether the row is a Begin of this operation
abbrev pub begins : ℕ → Row → Bool
begins op (Begin at begun) = begun == op
begins op _ = false

-- where an operation starts: behind the group of its Begin row
abbrev pub start : List Row → ℕ → Option ℕ
start rows op = option_map after (find (begins op) rows)

-- where functions are entered, and where blocks start
abbrev pub entries_of : List Function → List ℕ
entries_of functions = map (λ function. function.entry) functions

abbrev pub starts_of : List Block → List ℕ
starts_of blocks = map (λ block. block.start) blocks

-- an indirect call with this number of parameters may lead to `target`
pub record IsIndirectTarget (functions : List Function) (params target : ℕ) : Type 0 where
  pub function : Function
  pub among : Contains functions function
  pub entry : function.entry ≡ target
  pub same_params : function.params ≡ params
  pub referenced : function.referenced ≡ true

-- whether the function has its entry there, and may be called by an indirect call with so many parameters
abbrev pub is_called_at : ℕ → ℕ → Function → Bool
is_called_at params target function = (function.entry == target) && (function.params == params) && function.referenced

-- whether the row is a call
abbrev pub is_call : Row → Bool
is_call (Call at to) = true
is_call (ICall at params) = true
is_call _ = false

-- whether the row is a call with this return site
abbrev pub is_returned_to : ℕ → Row → Bool
is_returned_to to row = is_call row && (after row == to)

-- the row in whose group an address lies
abbrev pub is_over : ℕ → Row → Bool
is_over address row = nat_le (address_of row) address && nat_lt address (address_of row + 4 * word_count row)

abbrev pub row_over : List Row → ℕ → Option Row
row_over rows address = find (is_over address) rows

-- The operations of a map are those that a row begins.
abbrev pub IsOperation : Map → ℕ → Type 0
IsOperation m op = (at : ℕ) × Contains m.rows (Begin at op)

-- where the window of an operation opens: the SVC in the group of its Begin row
abbrev pub BeginsAt : Map → ℕ → ℕ → Type 0
BeginsAt m op begin_at = (at : ℕ) × Contains m.rows (Begin at op) × (begin_at ≡ at + 4)
