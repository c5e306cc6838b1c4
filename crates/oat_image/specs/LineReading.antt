-- What the lines of code, data, cells, functions and blocks say, with the first fault of a line (docs/FORMATS.md).
-- In a line a wrong word or spacing comes first, then a wrong number, then an index or address that doesn't rise.
use Rattle.std.specs.Prelude.{ℕ, Bool, List, Option, Some, None, ok_or, Result, Ok, nat_lt, ◌==◌}
use Rattle.oat_lines.specs.{Reading.◌>>=◌, Reading.guard, Reading.between, Decimal.decimal_of, Hexadecimal.hexadecimal_of, Fields.one_field, Fields.two_fields, Fields.four_fields}
use Rattle.oat_map.specs.{Name.read_name, declared.map.Function.Function, declared.map.Block.Block}
use Rattle.oat_image.specs.{declared.image.InitWord.InitWord, declared.fault.ImageFaultKind.ImageFaultKind, declared.fault.ImageFaultKind.TheVariants.Token}
use Rattle.oat_image.specs.{declared.fault.ImageFaultKind.TheVariants.Number}

-- ---- words

-- the address or word of code that eight digits spell
abbrev pub eight_digits : List ℕ → Result ℕ ImageFaultKind
eight_digits word = ok_or (hexadecimal_of 8 word) Number

-- a decimal number within bounds
abbrev pub number_in : ℕ → ℕ → List ℕ → Result ℕ ImageFaultKind
number_in least most word = do
  n ← ok_or (decimal_of word) Number
  within ← guard (between least most n) Number
  Ok n

-- the value of a word of data, which isn't zero
abbrev pub value_of : List ℕ → Result ℕ ImageFaultKind
value_of word = do
  value ← ok_or (hexadecimal_of 16 word) Number
  set ← guard (nat_lt 0 value) Number
  Ok value

abbrev pub flag_of : List ℕ → Result Bool ImageFaultKind
flag_of word = do
  n ← number_in 0 1 word
  Ok (n == 1)

abbrev pub spelled_name : List ℕ → Result (List ℕ) ImageFaultKind
spelled_name word = ok_or (read_name word) Token

-- ---- lines

unfoldable pub code_of : List ℕ → Result ℕ ImageFaultKind
code_of line = do
  word ← ok_or (one_field line) Token
  eight_digits word

unfoldable pub data_of : List ℕ → Result InitWord ImageFaultKind
data_of line = do
  words ← ok_or (two_fields line) Token
  index ← number_in 0 65535 words.0
  value ← value_of words.1
  Ok (record { index = index; value = value })

unfoldable pub cell_of : List ℕ → Result ℕ ImageFaultKind
cell_of line = do
  word ← ok_or (one_field line) Token
  number_in 0 65535 word

unfoldable pub function_with : List ℕ → List ℕ → List ℕ → List ℕ → Result Function ImageFaultKind
function_with name entry params flag = do
  e ← eight_digits entry
  p ← number_in 0 4 params
  r ← flag_of flag
  Ok (record { entry = e; name = name; params = p; referenced = r })

unfoldable pub function_of : List ℕ → Result Function ImageFaultKind
function_of line = do
  words ← ok_or (four_fields line) Token
  name ← spelled_name words.1
  function_with name words.0 words.2 words.3

unfoldable pub block_of : List ℕ → Result Block ImageFaultKind
block_of line = do
  words ← ok_or (two_fields line) Token
  label ← spelled_name words.1
  start ← eight_digits words.0
  Ok (record { start = start; label = label })

-- ---- keys

-- no item before it has to be below it
abbrev pub no_key : {X : Type 0} → X → Option ℕ
no_key item = None

abbrev pub index_key : InitWord → Option ℕ
index_key word = Some word.index

abbrev pub cell_key : ℕ → Option ℕ
cell_key index = Some index

abbrev pub entry_key : Function → Option ℕ
entry_key f = Some f.entry

abbrev pub start_key : Block → Option ℕ
start_key b = Some b.start
