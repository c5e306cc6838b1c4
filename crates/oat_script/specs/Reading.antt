-- Which script a text stands for, or else the fault of its first bad line (docs/FORMATS.md, "Owner scripts"). A line is read with what the
-- lines above it have read_so_far; its faults are tested in the order Token, Number, Twice, Order.
use Rattle.std.specs.{Prelude.ℕ, Prelude.◌+◌, Prelude.◌^◌, Prelude.◌==◌, Prelude.◌&&◌, Prelude.Bool, Prelude.not, Prelude.List, Prelude.[], Prelude.◌∷◌, Prelude.◌++◌, Prelude.length, Prelude.nat_lt}
use Rattle.std.specs.{Prelude.codes, Prelude.option_map, Prelude.Result, Prelude.Ok, Prelude.Err, Prelude.if◌then◌else◌, List.list_all, List.list_any, Option.ok_or, Str.bytes_eq}
use Rattle.hex.specs.{Hex.decode_of, declared.error.FromHexError.FromHexError}
use Rattle.oat_owner.specs.{Fault, At, TextWord, lines_of, words_of, is_comment, sole, triple, numeral_of, capped, is_visible, ◌>>=◌, guard, key_fits, operation_fits}
use Rattle.oat_owner.specs.{declared.call.OwnerCall.OwnerCall}
use Rattle.oat_script.specs.{declared.script.ScriptDevice.ScriptDevice, declared.script.Script.Script, declared.fault.ScriptFaultKind.ScriptFaultKind, declared.fault.ScriptFaultKind.TheVariants.Token}
use Rattle.oat_script.specs.{declared.fault.ScriptFaultKind.TheVariants.Number, declared.fault.ScriptFaultKind.TheVariants.Twice, declared.fault.ScriptFaultKind.TheVariants.Order}
use Rattle.oat_owner.specs.declared.call.OwnerCall.TheVariants as calls

-- the most devices of a script
abbrev pub device_limit : ℕ
device_limit = 16

-- ids have 32 bits
abbrev pub id_fits : ℕ → Bool
id_fits id = nat_lt id (2 ^ 32)

-- a word of printable ASCII characters
abbrev pub is_file_byte : ℕ → Bool
is_file_byte b = is_visible b && nat_lt b 127

abbrev pub is_file_word : TextWord → Bool
is_file_word word = list_all is_file_byte word

-- a decimal number; the largest of 64 bits stands for each above it, since both are out of every limit
unfoldable pub number_word : ℕ → TextWord → Result ℕ (Fault ScriptFaultKind)
number_word n word = ok_or (option_map capped (numeral_of word)) (At n Token)

-- the bytes of a word of hexadecimal digits
abbrev pub hex_or_token : {X : Type 0} → ℕ → Result X FromHexError → Result X (Fault ScriptFaultKind)
hex_or_token n (Ok x) = Ok x
hex_or_token n (Err e) = Err (At n Token)

unfoldable pub bytes_word : ℕ → TextWord → Result (List ℕ) (Fault ScriptFaultKind)
bytes_word n word = hex_or_token n (decode_of word)

unfoldable pub device_words : ℕ → TextWord × TextWord × TextWord → Result ScriptDevice (Fault ScriptFaultKind)
device_words n words = do
  id ← number_word n words.0
  file ← guard (is_file_word words.1) (At n Token)
  key ← bytes_word n words.2
  limited ← guard (id_fits id && key_fits key) (At n Number)
  Ok (record { id = id; file = words.1; key = key })

-- no device has the id yet
abbrev pub is_new : List ScriptDevice → ℕ → Bool
is_new devices id = not (list_any (λ d. d.id == id) devices)

-- before all other lines, and at most so many
abbrev pub may_be_device : Script → Bool
may_be_device g = (length g.calls == 0) && nat_lt (length g.devices) device_limit

unfoldable pub device_line : ℕ → Script → List TextWord → Result Script (Fault ScriptFaultKind)
device_line n g words = do
  three ← ok_or (triple words) (At n Token)
  device ← device_words n three
  once ← guard (is_new g.devices device.id) (At n Twice)
  placed ← guard (may_be_device g) (At n Order)
  Ok (record g { devices = g.devices ++ device ∷ [] })

unfoldable pub challenge_words : ℕ → TextWord × TextWord × TextWord → Result OwnerCall (Fault ScriptFaultKind)
challenge_words n words = do
  id ← number_word n words.0
  op ← number_word n words.1
  nonce ← bytes_word n words.2
  limited ← guard (id_fits id && operation_fits op && (length nonce == 16)) (At n Number)
  Ok (calls.Issue id op nonce)

-- behind a device
unfoldable pub add_call : ℕ → Script → OwnerCall → Result Script (Fault ScriptFaultKind)
add_call n g call = do
  placed ← guard (nat_lt 0 (length g.devices)) (At n Order)
  Ok (record g { calls = g.calls ++ call ∷ [] })

unfoldable pub challenge_line : ℕ → Script → List TextWord → Result Script (Fault ScriptFaultKind)
challenge_line n g words = do
  three ← ok_or (triple words) (At n Token)
  call ← challenge_words n three
  add_call n g call

unfoldable pub answer_line : ℕ → Script → List TextWord → Result Script (Fault ScriptFaultKind)
answer_line n g words = do
  word ← ok_or (sole words) (At n Token)
  frame ← bytes_word n word
  add_call n g (calls.Answer frame)

-- by the keyword, the first word of the line
unfoldable pub statement_line : ℕ → Script → TextWord → List TextWord → Result Script (Fault ScriptFaultKind)
statement_line n g keyword words =
    if bytes_eq keyword (codes "device") then device_line n g words
    else if bytes_eq keyword (codes "challenge") then challenge_line n g words
    else if bytes_eq keyword (codes "answer") then answer_line n g words
    else Err (At n Token)

-- one line, of these words
unfoldable pub line_of : ℕ → Script → List TextWord → Result Script (Fault ScriptFaultKind)
line_of n g [] = Ok g
line_of n g (first ∷ words) = if is_comment first then Ok g else statement_line n g first words

-- the script, if it has a device
unfoldable pub whole : ℕ → Script → Result Script (Fault ScriptFaultKind)
whole n g = do
  some ← guard (nat_lt 0 (length g.devices)) (At n Order)
  Ok g

-- the lines from number n on, with what the lines above have read_so_far
unfoldable pub script_from : ℕ → Script → List TextWord → Result Script (Fault ScriptFaultKind)
script_from n g [] = whole n g
script_from n g (line ∷ lines) = do
  next ← line_of n g (words_of line)
  script_from (n + 1) next lines

abbrev pub script_of : List ℕ → Result Script (Fault ScriptFaultKind)
script_of text = script_from 1 (record { devices = []; calls = [] }) (lines_of text)
