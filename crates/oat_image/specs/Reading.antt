-- Reading a text line by line, section by section, with the first fault that is met and its line (docs/FORMATS.md).
use Rattle.std.specs.Prelude.{ℕ, zero, suc, ◌+◌, ◌-◌, ◌^◌, min, Bool, true, List, [], ◌∷◌, Option, Some, None, ok_or, Result, Ok, Err, nat_lt, bytes_eq}
use Rattle.oat_lines.specs.{declared.fault.Fault.Fault, declared.fault.Fault.TheVariants.At, Faults.at, Reading.◌>>=◌, Reading.guard, Reading.between, Decimal.decimal_of, Fields.cut}
use Rattle.oat_lines.specs.{Fields.two_fields}
use Rattle.oat_image.specs.{declared.fault.ImageFaultKind.ImageFaultKind, declared.fault.ImageFaultKind.TheVariants.Token, declared.fault.ImageFaultKind.TheVariants.Number}
use Rattle.oat_image.specs.{declared.fault.ImageFaultKind.TheVariants.Order, declared.fault.ImageFaultKind.TheVariants.Limit}

-- what is left of a text, and the number of its first line
pub record Remainder : Type 0 where
  pub rest : List ℕ
  pub line : ℕ

-- line numbers are of 32 bits
abbrev pub next_number : ℕ → ℕ
next_number line = min (line + 1) (2 ^ 32 - 1)

-- the first line without its end, and the place after it
abbrev pub line_from : ℕ → Option (List ℕ × List ℕ) → Result (List ℕ × Remainder) (Fault ImageFaultKind)
line_from line None = Err (At line Token)
line_from line (Some parts) = Ok (parts.0, record { rest = parts.1; line = next_number line })

unfoldable pub line_at : Remainder → Result (List ℕ × Remainder) (Fault ImageFaultKind)
line_at t = line_from t.line (cut 10 t.rest)

-- a key above the last one; items without keys always rise
abbrev pub rises : Option ℕ → Option ℕ → Bool
rises None next = true
rises (Some last) None = true
rises (Some last) (Some next) = nat_lt last next

unfoldable pub item_at : {X : Type 0} → (List ℕ → Result X ImageFaultKind) → (X → Option ℕ) → Option ℕ → Remainder → Result (X × Remainder) (Fault ImageFaultKind)
item_at reads key last t = do
  line ← line_at t
  item ← at t.line (reads line.0)
  risen ← at t.line (guard (rises last (key item)) Order)
  Ok (item, line.1)

unfoldable pub items_at : {X : Type 0} → (List ℕ → Result X ImageFaultKind) → (X → Option ℕ) → ℕ → Option ℕ → Remainder → Result (List X × Remainder) (Fault ImageFaultKind)
items_at reads key zero last t = Ok ([], t)
items_at reads key (suc n) last t = do
  one ← item_at reads key last t
  others ← items_at reads key n (key one.0) one.1
  Ok (one.0 ∷ others.0, others.1)

-- the number behind a keyword
abbrev pub number_within : ℕ → ℕ → List ℕ → Result ℕ ImageFaultKind
number_within least most word = do
  count ← ok_or (decimal_of word) Number
  within ← guard (between least most count) Limit
  Ok count

unfoldable pub count_of : List ℕ → ℕ → ℕ → List ℕ → Result ℕ ImageFaultKind
count_of keyword least most line = do
  words ← ok_or (two_fields line) Token
  named ← guard (bytes_eq words.0 keyword) Token
  number_within least most words.1

unfoldable pub section_at : {X : Type 0} → List ℕ → ℕ → ℕ → (List ℕ → Result X ImageFaultKind) → (X → Option ℕ) → Remainder → Result (List X × Remainder) (Fault ImageFaultKind)
section_at keyword least most reads key t = do
  line ← line_at t
  count ← at t.line (count_of keyword least most line.0)
  items_at reads key count None line.1

-- a line that is always the same
unfoldable pub fixed_at : List ℕ → Remainder → Result Remainder (Fault ImageFaultKind)
fixed_at text t = do
  line ← line_at t
  same ← at t.line (guard (bytes_eq line.0 text) Token)
  Ok line.1
