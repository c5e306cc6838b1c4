-- What a name is: the form that program texts and image texts give to functions and labels (docs/FORMATS.md).
use Rattle.std.specs.{Prelude.ℕ, Prelude.◌≡◌, Prelude.◌≤◌, Prelude.◌⊎◌, Prelude.Bool, Prelude.not, Prelude.◌&&◌, Prelude.◌||◌, Prelude.◌==◌, Prelude.nat_lt, Prelude.List, Prelude.length}
use Rattle.std.specs.{Prelude.slice_index, Prelude.All, Prelude.Option, Prelude.Some, Prelude.None, Prelude.if◌then◌else◌, Char.IsAsciiAlphanumeric, Char.IsAsciiDigit, Char.is_ascii_alphanumeric}
use Rattle.std.specs.{Char.is_ascii_digit, List.list_all}

abbrev pub underscore : ℕ
underscore = 95

-- an ASCII letter, a digit or an underscore
abbrev pub IsNameByte : ℕ → Type 0
IsNameByte c = IsAsciiAlphanumeric c ⊎ (c ≡ underscore)

-- 1 to 32 of these, the first of which is no digit
pub record IsName (text : List ℕ) : Type 0 where
  pub begun : 1 ≤ length text
  pub short : length text ≤ 32
  pub word : All IsNameByte text
  pub no_number : ¬ IsAsciiDigit (slice_index text 0)

-- ---- the same as one test

abbrev pub is_name_byte : ℕ → Bool
is_name_byte c = is_ascii_alphanumeric c || c == underscore

abbrev pub is_name : List ℕ → Bool
is_name text = nat_lt 0 (length text) && nat_lt (length text) 33 && list_all is_name_byte text && not (is_ascii_digit (slice_index text 0))

-- the name that a text spells
abbrev pub read_name : List ℕ → Option (List ℕ)
read_name text = if is_name text then Some text else None
