-- Which case a text stands for, or else the fault of its first bad line (docs/FORMATS.md). A line is read with what the lines above it
-- have gathered; its faults are tested in the order Token, Twice, Range, OutsideData, Order.
use Rattle.std.specs.{Prelude.◌+◌, Prelude.◌==◌, Prelude.◌&&◌, Prelude.ℕ, Prelude.ℤ, Prelude.Bool, Prelude.true, Prelude.false, Prelude.List, Prelude.[], Prelude.◌∷◌, Prelude.◌++◌, Prelude.length}
use Rattle.std.specs.{Prelude.nat_le, Prelude.codes, Prelude.Option, Prelude.Some, Prelude.None, Prelude.is_none, Prelude.option_map, Prelude.Result, Prelude.Ok, Prelude.Err, Prelude.if◌then◌else◌}
use Rattle.std.specs.{Option.ok_or, Str.bytes_eq}
use Rattle.hex.specs.{Hex.decode_of, declared.error.FromHexError.FromHexError}
use Rattle.oat_mem.specs.DataMemory.{fits}
use Rattle.oat_lines.specs.{declared.fault.Fault.Fault, declared.fault.Fault.TheVariants.At, declared.integer.IntegerFault.IntegerFault, declared.integer.IntegerFault.TheVariants.Misspelled}
use Rattle.oat_lines.specs.{declared.integer.IntegerFault.TheVariants.OutOfRange, Lines.TextWord, Lines.lines_of, Lines.words_of, Lines.is_comment, Lines.sole, Lines.triple, Decimal.numeral_of}
use Rattle.oat_lines.specs.{Decimal.capped, Integer.read_as_integer, Reading.◌>>=◌, Reading.guard}
use Rattle.oat_case.specs.{Limits.key_fits, Limits.operation_fits, Limits.steps_fit, Limits.calls_fit, Limits.write_fits, Grammar.address_numeral, declared.case.Session.Session}
use Rattle.oat_case.specs.{declared.case.Write.Write, declared.case.Case.Case, declared.fault.CaseFaultKind.CaseFaultKind, declared.fault.CaseFaultKind.TheVariants.Token}
use Rattle.oat_case.specs.{declared.fault.CaseFaultKind.TheVariants.Missing, declared.fault.CaseFaultKind.TheVariants.Twice, declared.fault.CaseFaultKind.TheVariants.Range}
use Rattle.oat_case.specs.{declared.fault.CaseFaultKind.TheVariants.Order, declared.fault.CaseFaultKind.TheVariants.OutsideData}

-- what the lines so far have gathered
pub record Gathered : Type 0 where
  pub begun : Bool
  pub key : Option (List ℕ)
  pub nonce : Option (List ℕ)
  pub operation : Option ℕ
  pub steps : Option ℕ
  pub calls : Option ℕ
  pub inputs : List ℤ
  pub writes : List Write
  -- the number below which no further write may be
  pub least : ℕ

abbrev pub nothing_yet : Gathered
nothing_yet = record { begun = false; key = None; nonce = None; operation = None; steps = None; calls = None; inputs = []; writes = []; least = 0 }

-- the bytes of a word of hexadecimal digits
abbrev pub or_token : {X : Type 0} → ℕ → Result X FromHexError → Result X (Fault CaseFaultKind)
or_token n (Ok x) = Ok x
or_token n (Err e) = Err (At n Token)

-- a decimal number; the largest of 64 bits stands for each above it, since both are out of every limit
abbrev pub numeral_at : ℕ → TextWord → Result ℕ (Fault CaseFaultKind)
numeral_at n word = ok_or (option_map capped (numeral_of word)) (At n Token)

-- an integer of 64 bits
abbrev pub integer_or_fault : ℕ → Result ℤ IntegerFault → Result ℤ (Fault CaseFaultKind)
integer_or_fault n (Ok z) = Ok z
integer_or_fault n (Err Misspelled) = Err (At n Token)
integer_or_fault n (Err OutOfRange) = Err (At n Range)

abbrev pub integer_at : ℕ → TextWord → Result ℤ (Fault CaseFaultKind)
integer_at n word = integer_or_fault n (read_as_integer word)

abbrev pub bytes_at : ℕ → TextWord → Result (List ℕ) (Fault CaseFaultKind)
bytes_at n word = or_token n (decode_of word)

-- A line of one word that may be said once: the word, that nothing was said before, and the limits.
abbrev pub once_line : {X : Type 0} → ℕ → (TextWord → Result X (Fault CaseFaultKind)) → (is_free : Bool) → (fits : X → Bool) → (X → Gathered) → List TextWord → Result Gathered (Fault CaseFaultKind)
once_line n read is_free fits with words = do
  word ← ok_or (sole words) (At n Token)
  value ← read word
  once ← guard is_free (At n Twice)
  limited ← guard (fits value) (At n Range)
  Ok (with value)

unfoldable pub key_line : ℕ → Gathered → List TextWord → Result Gathered (Fault CaseFaultKind)
key_line n g = once_line n (bytes_at n) (is_none g.key) key_fits (λ key. record g { key = Some key })

unfoldable pub nonce_line : ℕ → Gathered → List TextWord → Result Gathered (Fault CaseFaultKind)
nonce_line n g = once_line n (bytes_at n) (is_none g.nonce) (λ nonce. length nonce == 16) (λ nonce. record g { nonce = Some nonce })

unfoldable pub operation_line : ℕ → Gathered → List TextWord → Result Gathered (Fault CaseFaultKind)
operation_line n g = once_line n (numeral_at n) (is_none g.operation) operation_fits (λ id. record g { operation = Some id })

unfoldable pub steps_line : ℕ → Gathered → List TextWord → Result Gathered (Fault CaseFaultKind)
steps_line n g = once_line n (numeral_at n) (is_none g.steps) steps_fit (λ steps. record g { steps = Some steps })

unfoldable pub calls_line : ℕ → Gathered → List TextWord → Result Gathered (Fault CaseFaultKind)
calls_line n g = once_line n (numeral_at n) (is_none g.calls) calls_fit (λ calls. record g { calls = Some calls })

unfoldable pub input_line : ℕ → Gathered → List TextWord → Result Gathered (Fault CaseFaultKind)
input_line n g words = do
  word ← ok_or (sole words) (At n Token)
  input ← integer_at n word
  Ok (record g { inputs = g.inputs ++ input ∷ [] })

-- the write that three words give
unfoldable pub write_of : ℕ → TextWord × TextWord × TextWord → Result Write (Fault CaseFaultKind)
write_of n words = do
  before ← numeral_at n words.0
  address ← ok_or (address_numeral words.1) (At n Token)
  bytes ← bytes_at n words.2
  Ok (record { before = before; address = address; bytes = bytes })

-- a write that may follow those before it
unfoldable pub add_write : ℕ → Gathered → Write → Result Gathered (Fault CaseFaultKind)
add_write n g write = do
  limited ← guard (write_fits write) (At n Range)
  inside ← guard (fits write.address (length write.bytes)) (At n OutsideData)
  later ← guard (nat_le g.least write.before) (At n Order)
  Ok (record g { writes = g.writes ++ write ∷ []; least = write.before })

unfoldable pub write_line : ℕ → Gathered → List TextWord → Result Gathered (Fault CaseFaultKind)
write_line n g words = do
  three ← ok_or (triple words) (At n Token)
  write ← write_of n three
  add_write n g write

-- by the keyword, the first word of the line
unfoldable pub statement_line : ℕ → Gathered → TextWord → List TextWord → Result Gathered (Fault CaseFaultKind)
statement_line n g keyword words =
    if bytes_eq keyword (codes "key") then key_line n g words
    else if bytes_eq keyword (codes "nonce") then nonce_line n g words
    else if bytes_eq keyword (codes "operation") then operation_line n g words
    else if bytes_eq keyword (codes "steps") then steps_line n g words
    else if bytes_eq keyword (codes "calls") then calls_line n g words
    else if bytes_eq keyword (codes "input") then input_line n g words
    else if bytes_eq keyword (codes "write") then write_line n g words
    else Err (At n Token)

unfoldable pub header_line : ℕ → Gathered → TextWord → List TextWord → Result Gathered (Fault CaseFaultKind)
header_line n g first words = do
  version ← ok_or (sole words) (At n Token)
  right ← guard (bytes_eq first (codes "oat-case") && bytes_eq version (codes "1")) (At n Token)
  Ok (record g { begun = true })

-- one line, of these words
unfoldable pub line_of : ℕ → Gathered → List TextWord → Result Gathered (Fault CaseFaultKind)
line_of n g [] = Ok g
line_of n g (first ∷ words) =
    if is_comment first then Ok g
    else if g.begun then statement_line n g first words
    else header_line n g first words

abbrev pub session_of : ℕ → Option (List ℕ) → Option (List ℕ) → Option ℕ → Option ℕ → Result Session (Fault CaseFaultKind)
session_of n key nonce operation calls = do
  key ← ok_or key (At n Missing)
  nonce ← ok_or nonce (At n Missing)
  op ← ok_or operation (At n Missing)
  Ok (record { key = key; nonce = nonce; op = op; calls = calls })

-- the case, if nothing is wanting
unfoldable pub whole : ℕ → Gathered → Result Case (Fault CaseFaultKind)
whole n g = do
  begun ← guard g.begun (At n Missing)
  session ← session_of n g.key g.nonce g.operation g.calls
  steps ← ok_or g.steps (At n Missing)
  Ok (record { session = session; steps = steps; inputs = g.inputs; writes = g.writes })

-- the lines from number n on, with what the lines above have gathered
unfoldable pub case_from : ℕ → Gathered → List TextWord → Result Case (Fault CaseFaultKind)
case_from n g [] = whole n g
case_from n g (line ∷ lines) = do
  next ← line_of n g (words_of line)
  case_from (n + 1) next lines

abbrev pub case_of : List ℕ → Result Case (Fault CaseFaultKind)
case_of text = case_from 1 nothing_yet (lines_of text)
