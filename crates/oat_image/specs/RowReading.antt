-- What the lines of rows say in each version of the text, with the first fault of a line (docs/FORMATS.md).
use Rattle.std.specs.Prelude.{ℕ, Bool, true, List, codes, Option, Some, None, ok_or, Result, Ok, bytes_eq, if◌then◌else◌}
use Rattle.oat_lines.specs.{Reading.◌>>=◌, Reading.guard, Fields.one_field, Fields.field_and_rest, Fields.two_fields, Fields.three_fields}
use Rattle.oat_map.specs.{declared.row.Row.Row, declared.row.Row.TheVariants.Jump, declared.row.Row.TheVariants.Branch, declared.row.Row.TheVariants.Call, declared.row.Row.TheVariants.ICall}
use Rattle.oat_map.specs.{declared.row.Row.TheVariants.Ret, declared.row.Row.TheVariants.Begin, declared.row.Row.TheVariants.End, declared.row.Row.TheVariants.UseCell}
use Rattle.oat_map.specs.{declared.row.Row.TheVariants.DefCell, declared.row.Row.TheVariants.UseAt, declared.row.Row.TheVariants.DefAt, declared.row.Row.TheVariants.Check}
use Rattle.oat_image.specs.{declared.fault.ImageFaultKind.ImageFaultKind, declared.fault.ImageFaultKind.TheVariants.Token, declared.keyword.RowKind.RowKind, declared.keyword.RowKind.TheVariants.Edge}
use Rattle.oat_image.specs.{declared.keyword.RowKind.TheVariants.Point, declared.keyword.RowKind.TheVariants.Element, declared.keyword.EdgeKind.EdgeKind, declared.keyword.PointKind.PointKind}
use Rattle.oat_image.specs.{declared.element.ElementKind.ElementKind, LineReading.eight_digits, LineReading.number_in}
use Rattle.oat_image.specs.declared.keyword.EdgeKind.TheVariants as edges
use Rattle.oat_image.specs.declared.keyword.PointKind.TheVariants as points
use Rattle.oat_image.specs.declared.element.ElementKind.TheVariants as elements

abbrev pub kind_of : List ℕ → Option RowKind
kind_of word =
    if bytes_eq word (codes "jump") then Some (Edge edges.Jump) else
    if bytes_eq word (codes "branch") then Some (Edge edges.Branch) else
    if bytes_eq word (codes "call") then Some (Edge edges.Call) else
    if bytes_eq word (codes "icall") then Some (Edge edges.ICall) else
    if bytes_eq word (codes "ret") then Some (Edge edges.Ret) else
    if bytes_eq word (codes "begin") then Some (Point points.Begin) else
    if bytes_eq word (codes "end") then Some (Point points.End) else
    if bytes_eq word (codes "use") then Some (Point points.UseCell) else
    if bytes_eq word (codes "def") then Some (Point points.DefCell) else
    if bytes_eq word (codes "check") then Some (Point points.Check) else
    if bytes_eq word (codes "useat") then Some (Element elements.UseAt) else
    if bytes_eq word (codes "defat") then Some (Element elements.DefAt) else None

unfoldable pub sole_address : List ℕ → Result ℕ ImageFaultKind
sole_address fields = do
  word ← ok_or (one_field fields) Token
  eight_digits word

unfoldable pub two_addresses : List ℕ → Result (ℕ × ℕ) ImageFaultKind
two_addresses fields = do
  words ← ok_or (two_fields fields) Token
  first ← eight_digits words.0
  second ← eight_digits words.1
  Ok (first, second)

unfoldable pub addresses_of : List ℕ → List ℕ → List ℕ → Result (ℕ × ℕ × ℕ) ImageFaultKind
addresses_of one two three = do
  first ← eight_digits one
  second ← eight_digits two
  third ← eight_digits three
  Ok (first, second, third)

unfoldable pub three_addresses : List ℕ → Result (ℕ × ℕ × ℕ) ImageFaultKind
three_addresses fields = do
  words ← ok_or (three_fields fields) Token
  addresses_of words.0 words.1 words.2

unfoldable pub address_and_number : ℕ → ℕ → List ℕ → Result (ℕ × ℕ) ImageFaultKind
address_and_number least most fields = do
  words ← ok_or (two_fields fields) Token
  address ← eight_digits words.0
  n ← number_in least most words.1
  Ok (address, n)

-- an address, and an array by the number of its first cell and its length
unfoldable pub array_of : List ℕ → List ℕ → List ℕ → Result (ℕ × ℕ × ℕ) ImageFaultKind
array_of one two three = do
  address ← eight_digits one
  cell ← number_in 0 65535 two
  len ← number_in 1 4096 three
  Ok (address, cell, len)

unfoldable pub address_and_array : List ℕ → Result (ℕ × ℕ × ℕ) ImageFaultKind
address_and_array fields = do
  words ← ok_or (three_fields fields) Token
  array_of words.0 words.1 words.2

unfoldable pub edge_row : EdgeKind → List ℕ → Result Row ImageFaultKind
edge_row edges.Jump fields = two_addresses fields >>= λ p. Ok (Jump p.0 p.1)
edge_row edges.Branch fields = three_addresses fields >>= λ p. Ok (Branch p.0 p.1 p.2)
edge_row edges.Call fields = two_addresses fields >>= λ p. Ok (Call p.0 p.1)
edge_row edges.ICall fields = address_and_number 0 4 fields >>= λ p. Ok (ICall p.0 p.1)
edge_row edges.Ret fields = sole_address fields >>= λ a. Ok (Ret a)

unfoldable pub point_row : PointKind → List ℕ → Result Row ImageFaultKind
point_row points.Begin fields = address_and_number 1 65535 fields >>= λ p. Ok (Begin p.0 p.1)
point_row points.End fields = address_and_number 1 65535 fields >>= λ p. Ok (End p.0 p.1)
point_row points.UseCell fields = address_and_number 0 65535 fields >>= λ p. Ok (UseCell p.0 p.1)
point_row points.DefCell fields = address_and_number 0 65535 fields >>= λ p. Ok (DefCell p.0 p.1)
point_row points.Check fields = sole_address fields >>= λ a. Ok (Check a)

unfoldable pub element_row : ElementKind → List ℕ → Result Row ImageFaultKind
element_row elements.UseAt fields = address_and_array fields >>= λ p. Ok (UseAt p.0 p.1 p.2)
element_row elements.DefAt fields = address_and_array fields >>= λ p. Ok (DefAt p.0 p.1 p.2)

abbrev pub row_with : RowKind → List ℕ → Result Row ImageFaultKind
row_with (Edge kind) fields = edge_row kind fields
row_with (Point kind) fields = point_row kind fields
row_with (Element kind) fields = element_row kind fields

-- rows of elements are of the second version alone
abbrev pub is_kind_in : Bool → RowKind → Bool
is_kind_in second (Element kind) = second
is_kind_in second _ = true

unfoldable pub kind_in : Bool → List ℕ → Result RowKind ImageFaultKind
kind_in second word = do
  kind ← ok_or (kind_of word) Token
  known ← guard (is_kind_in second kind) Token
  Ok kind

unfoldable pub row_of : Bool → List ℕ → Result Row ImageFaultKind
row_of second line = do
  parts ← ok_or (field_and_rest line) Token
  kind ← kind_in second parts.0
  row_with kind parts.1
