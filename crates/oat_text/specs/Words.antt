-- What a word of a program text says, and which words say it (docs/FORMATS.md, "Program text"). Keywords, names and types
-- have one spelling; numbers may have leading zeros, and -0 is 0.
use Rattle.std.specs.{Prelude.ℕ, Prelude.ℤ, Prelude.◌≡◌, Prelude.IsTrue, Prelude.◌++◌, Prelude.codes, Prelude.decimal, Prelude.Some, Fmt.signed_decimal}
use Rattle.oat_lines.specs.{Decimal.numeral_of, Integer.integer_of, Integer.is_i64, Lines.TextWord}
use Rattle.oat_ir.specs.{IsName, declared.func.Ty.Ty, declared.func.Ty.TheVariants.I64, declared.func.Ty.TheVariants.Fn}

-- the word of a reference of a function with so many parameters
abbrev pub reference_text : ℕ → TextWord
reference_text params = codes "fn/" ++ decimal params

abbrev pub ty_text : Ty → TextWord
ty_text I64 = codes "i64"
ty_text (Fn params) = reference_text params

-- what a word says
pub data Said : Type 0 where
  Keyword : (word : TextWord) → Said
  Named : (name : TextWord) → Said
  Typed : (ty : Ty) → Said
  Parameter : (name : TextWord) (ty : Ty) → Said
  Number : (n : ℕ) → Said
  Integer : (z : ℤ) → Said

abbrev pub parameter_text : TextWord → Ty → TextWord
parameter_text name ty = name ++ (codes ":" ++ ty_text ty)

-- the word says it
abbrev pub Says : TextWord → Said → Type 0
Says word (Keyword keyword) = word ≡ keyword
Says word (Named name) = (word ≡ name) × IsName name
Says word (Typed ty) = word ≡ ty_text ty
Says word (Parameter name ty) = (word ≡ parameter_text name ty) × IsName name
Says word (Number n) = numeral_of word ≡ Some n
Says word (Integer z) = (integer_of word ≡ Some z) × IsTrue (is_i64 z)

-- the word that is printed for it
abbrev pub printed_word : Said → TextWord
printed_word (Keyword keyword) = keyword
printed_word (Named name) = name
printed_word (Typed ty) = ty_text ty
printed_word (Parameter name ty) = parameter_text name ty
printed_word (Number n) = decimal n
printed_word (Integer z) = signed_decimal z
