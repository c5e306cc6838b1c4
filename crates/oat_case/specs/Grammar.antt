-- The case text, as docs/FORMATS.md has it under "Case text": which text stands for which case.
use Rattle.std.specs.{Prelude.◌≡◌, Prelude.◌&&◌, Prelude.IsTrue, Prelude.ℕ, Prelude.ℤ, Prelude.Bool, Prelude.List, Prelude.[], Prelude.◌∷◌, Prelude.length, Prelude.nat_lt, Prelude.codes}
use Rattle.std.specs.{Prelude.Option, Prelude.Some, Prelude.None, Prelude.Ok, Prelude.if◌then◌else◌, List.filter_map, List.list_all, Option.option_to_list, Char.digit_value, Str.Parse.digits_value}
use Rattle.hex.specs.Hex.{decode_of}
use Rattle.oat_lines.specs.{Lines.TextWord, Lines.lines_of, Lines.counting, Decimal.numeral_of, Integer.integer_of, Integer.is_i64, Reading.between}
use Rattle.oat_case.specs.{Limits.IsWellFormedCase, declared.case.Write.Write, declared.case.Case.Case}

-- a hexadecimal digit of either case
abbrev pub is_hex_digit : ℕ → Bool
is_hex_digit c = nat_lt (digit_value c) 16

-- 1 to 16 hexadecimal digits
abbrev pub address_numeral : TextWord → Option ℕ
address_numeral word = if between 1 16 (length word) && list_all is_hex_digit word then Some (digits_value 16 word) else None

-- what a line can say
pub data Statement : Type 0 where
  KeyIs : (key : List ℕ) → Statement
  NonceIs : (nonce : List ℕ) → Statement
  OperationIs : (id : ℕ) → Statement
  StepsAre : (steps : ℕ) → Statement
  CallsAre : (calls : ℕ) → Statement
  InputIs : (value : ℤ) → Statement
  WriteIs : (made : Write) → Statement

-- The words of a line say a statement. Bytes are two hexadecimal digits each, of either case.
abbrev pub SaysStatement : List TextWord → Statement → Type 0
SaysStatement words (KeyIs key) = (digits : TextWord) × (words ≡ codes "key" ∷ digits ∷ []) × (decode_of digits ≡ Ok key)
SaysStatement words (NonceIs nonce) = (digits : TextWord) × (words ≡ codes "nonce" ∷ digits ∷ []) × (decode_of digits ≡ Ok nonce) × (length nonce ≡ 16)
SaysStatement words (OperationIs id) = (digits : TextWord) × (words ≡ codes "operation" ∷ digits ∷ []) × (numeral_of digits ≡ Some id)
SaysStatement words (StepsAre steps) = (digits : TextWord) × (words ≡ codes "steps" ∷ digits ∷ []) × (numeral_of digits ≡ Some steps)
SaysStatement words (CallsAre calls) = (digits : TextWord) × (words ≡ codes "calls" ∷ digits ∷ []) × (numeral_of digits ≡ Some calls)
SaysStatement words (InputIs value) = (digits : TextWord) × (words ≡ codes "input" ∷ digits ∷ []) × (integer_of digits ≡ Some value) × IsTrue (is_i64 value)
SaysStatement words (WriteIs write) =
    (number : TextWord) × (place : TextWord) × (digits : TextWord) × (words ≡ codes "write" ∷ number ∷ place ∷ digits ∷ [])
    × (numeral_of number ≡ Some write.before) × (address_numeral place ≡ Some write.address) × (decode_of digits ≡ Ok write.bytes)

-- line by line
abbrev pub SayStatements : List (List TextWord) → List Statement → Type 0
SayStatements [] [] = Unit {0}
SayStatements (words ∷ lines) (statement ∷ statements) = SaysStatement words statement × SayStatements lines statements
SayStatements _ _ = ⊥

abbrev pub key_in : Statement → Option (List ℕ)
key_in (KeyIs key) = Some key
key_in _ = None

abbrev pub nonce_in : Statement → Option (List ℕ)
nonce_in (NonceIs nonce) = Some nonce
nonce_in _ = None

abbrev pub operation_in : Statement → Option ℕ
operation_in (OperationIs id) = Some id
operation_in _ = None

abbrev pub steps_in : Statement → Option ℕ
steps_in (StepsAre steps) = Some steps
steps_in _ = None

abbrev pub calls_in : Statement → Option ℕ
calls_in (CallsAre calls) = Some calls
calls_in _ = None

abbrev pub input_in : Statement → Option ℤ
input_in (InputIs value) = Some value
input_in _ = None

abbrev pub write_in : Statement → Option Write
write_in (WriteIs write) = Some write
write_in _ = None

abbrev pub header : List TextWord
header = codes "oat-case" ∷ codes "1" ∷ []

-- The text stands for the case: behind its header the text says just one key, nonce, operation and number of steps,
-- at most one number of calls, and the inputs and writes in their order.
pub record IsCaseText (text : List ℕ) (case : Case) : Type 0 where
  pub lines : List (List TextWord)
  pub statements : List Statement
  pub says : counting (lines_of text) ≡ header ∷ lines
  pub each : SayStatements lines statements
  pub key : filter_map key_in statements ≡ case.session.key ∷ []
  pub nonce : filter_map nonce_in statements ≡ case.session.nonce ∷ []
  pub operation : filter_map operation_in statements ≡ case.session.op ∷ []
  pub steps : filter_map steps_in statements ≡ case.steps ∷ []
  pub calls : filter_map calls_in statements ≡ option_to_list case.session.calls
  pub inputs : filter_map input_in statements ≡ case.inputs
  pub writes : filter_map write_in statements ≡ case.writes
  pub limits : IsWellFormedCase case
