-- What a word of a program text gives where a value of its kind is wanted, and the tests that a line's words have to pass
-- (docs/FORMATS.md, "Program text").
use Rattle.std.specs.{Prelude.ℕ, Prelude.ℤ, Prelude.◌-◌, Prelude.◌&&◌, Prelude.◌||◌, Prelude.Bool, Prelude.true, Prelude.List, Prelude.◌∷◌, Prelude.length, Prelude.take, Prelude.nat_lt, Prelude.codes}
use Rattle.std.specs.{Prelude.Option, Prelude.Some, Prelude.None, Prelude.is_some, Prelude.option_map, Prelude.option_and_then, Prelude.slice_get, Prelude.if◌then◌else◌, List.list_all, Str.bytes_eq}
use Rattle.oat_lines.specs.{Decimal.numeral_of, Fields.cut, Fields.is_visible, Integer.integer_of, Integer.is_i64, Reading.between, Lines.TextWord}
use Rattle.oat_ir.specs.{read_name, declared.func.Ty.Ty, declared.func.Ty.TheVariants.I64, declared.func.Ty.TheVariants.Fn, declared.func.Local.Local}
use Rattle.oat_text.specs.{declared.form.LineForm.LineForm, declared.form.WordKind.WordKind, Forms.kinds_of, Forms.optional}
use Rattle.oat_text.specs.declared.form.WordKind.TheVariants as kind

-- ---- values

-- the number of parameters of a reference's type
abbrev pub params_of : TextWord → Option ℕ
params_of word =
    if bytes_eq word (codes "fn/0") then Some 0
    else if bytes_eq word (codes "fn/1") then Some 1
    else if bytes_eq word (codes "fn/2") then Some 2
    else if bytes_eq word (codes "fn/3") then Some 3
    else if bytes_eq word (codes "fn/4") then Some 4
    else None

abbrev pub ty_of : TextWord → Option Ty
ty_of word = if bytes_eq word (codes "i64") then Some I64 else option_map (λ params. Fn params) (params_of word)

abbrev pub local_of : TextWord → TextWord → Option Local
local_of name ty = option_and_then (λ n. option_map (λ t. record { name = n; ty = t }) (ty_of ty)) (read_name name)

-- a name and a type, on both sides of the first colon
abbrev pub parameter_of : TextWord → Option Local
parameter_of word = option_and_then (λ p. local_of p.0 p.1) (cut 58 word)

-- a number of 64 bits with a sign
abbrev pub i64_of : TextWord → Option ℤ
i64_of word = option_and_then (λ z. if is_i64 z then Some z else None) (integer_of word)

-- a number from 1 to this one
abbrev pub count_of : ℕ → TextWord → Option ℕ
count_of most word = option_and_then (λ n. if between 1 most n then Some n else None) (numeral_of word)

-- the name at a place of a line
abbrev pub name_at : List TextWord → ℕ → Option TextWord
name_at words k = option_and_then read_name (slice_get words k)

-- the local that the first two words of a line give
abbrev pub local_in : List TextWord → Option Local
local_in words = option_and_then (λ name. option_and_then (local_of name) (slice_get words 1)) (slice_get words 0)

abbrev pub begins_reference : TextWord → Bool
begins_reference word = bytes_eq (take 3 word) (codes "fn/")

-- ---- tests

-- ASCII that is printed
abbrev pub is_printable : TextWord → Bool
is_printable word = list_all (λ b. is_visible b && nat_lt b 127) word

-- well formed, where a name, a type or a parameter is wanted
abbrev pub is_shaped : WordKind → TextWord → Bool
is_shaped kind.Named word = is_some (read_name word)
is_shaped kind.Typed word = is_some (ty_of word)
is_shaped kind.Parameter word = is_some (parameter_of word)
is_shaped kind.Start word = if begins_reference word then is_some (ty_of word) else true
is_shaped _ word = true

-- a number in its range, where one is wanted
abbrev pub is_in_range : WordKind → TextWord → Bool
is_in_range kind.Start word = begins_reference word || is_some (i64_of word)
is_in_range kind.Integer word = is_some (i64_of word)
is_in_range (kind.Count most) word = is_some (count_of most word)
is_in_range _ word = true

-- each word passes the test of its kind, as far as there are both
abbrev pub all_pass : (WordKind → TextWord → Bool) → List WordKind → List TextWord → Bool
all_pass test (kind ∷ kinds) (word ∷ words) = test kind word && all_pass test kinds words
all_pass test _ _ = true

-- there are as many words as there may be
abbrev pub has_number : LineForm → List TextWord → Bool
has_number form words = between (length (kinds_of form) - optional form) (length (kinds_of form)) (length words)
