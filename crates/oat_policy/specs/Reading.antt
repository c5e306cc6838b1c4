-- Which policy a text stands for, or else the fault of its first bad line (docs/FORMATS.md, "Policies"). The faults of a line are
-- tested in the order TooMany, Token, Number.
use Rattle.std.specs.{Prelude.◌+◌, Prelude.◌==◌, Prelude.◌&&◌, Prelude.◌||◌, Prelude.ℕ, Prelude.Bool, Prelude.List, Prelude.[], Prelude.◌∷◌, Prelude.◌++◌, Prelude.length, Prelude.nat_le}
use Rattle.std.specs.{Prelude.nat_lt, Prelude.codes, Prelude.Option, Prelude.Some, Prelude.None, Prelude.option_map, Prelude.Result, Prelude.Ok, Prelude.Err, Prelude.if◌then◌else◌}
use Rattle.std.specs.{Char.is_ascii_alphanumeric, List.list_all, List.slice_split, Option.ok_or, Str.bytes_eq}
use Rattle.oat_report.specs.{Fault, At, TextWord, lines_of, words_of, is_comment, sole, numeral_of, capped, ◌>>=◌, guard, between}
use Rattle.oat_policy.specs.{declared.policy.PathRule.PathRule, declared.policy.PathRule.TheVariants.Never, declared.policy.PathRule.TheVariants.Before, declared.policy.PathRule.TheVariants.Most}
use Rattle.oat_policy.specs.{declared.policy.PathRule.TheVariants.Order, declared.policy.PolicyRule.PolicyRule, declared.fault.PolicyFaultKind.PolicyFaultKind}
use Rattle.oat_policy.specs.{declared.fault.PolicyFaultKind.TheVariants.Token, declared.fault.PolicyFaultKind.TheVariants.Number, declared.fault.PolicyFaultKind.TheVariants.TooMany}

-- the most rules of a policy
abbrev pub rule_limit : ℕ
rule_limit = 64

-- letters, digits, `_`, `#`, `.` and `-`
abbrev pub is_pattern_byte : ℕ → Bool
is_pattern_byte c = is_ascii_alphanumeric c || c == 95 || c == 35 || c == 46 || c == 45

-- a star, or 1 to 100 of these bytes
abbrev pub is_pattern_word : TextWord → Bool
is_pattern_word word = bytes_eq word (codes "*") || (between 1 100 (length word) && list_all is_pattern_byte word)

-- 2 to 4 words
abbrev pub is_pattern : List TextWord → Bool
is_pattern words = between 2 4 (length words) && list_all is_pattern_word words

abbrev pub is_colon : ℕ → Bool
is_colon b = b == 58

-- the parts between the colons
unfoldable pub parts_of : TextWord → List TextWord
parts_of word = slice_split is_colon word

unfoldable pub pattern_at : ℕ → TextWord → Result (List TextWord) (Fault PolicyFaultKind)
pattern_at n word = do
  right ← guard (is_pattern (parts_of word)) (At n Token)
  Ok (parts_of word)

unfoldable pub patterns_at : ℕ → List TextWord → Result (List (List TextWord)) (Fault PolicyFaultKind)
patterns_at n [] = Ok []
patterns_at n (word ∷ words) = do
  pattern ← pattern_at n word
  patterns ← patterns_at n words
  Ok (pattern ∷ patterns)

-- a decimal number of at most 4194304
unfoldable pub limit_at : ℕ → TextWord → Result ℕ (Fault PolicyFaultKind)
limit_at n word = do
  limit ← ok_or (option_map capped (numeral_of word)) (At n Number)
  fits ← guard (nat_le limit 4194304) (At n Number)
  Ok limit

-- the words, where there are just two
abbrev pub pair : List TextWord → Option (TextWord × TextWord)
pair (first ∷ second ∷ []) = Some (first, second)
pair words = None

unfoldable pub never_line : ℕ → List TextWord → Result PathRule (Fault PolicyFaultKind)
never_line n words = do
  word ← ok_or (sole words) (At n Token)
  pattern ← pattern_at n word
  Ok (Never pattern)

unfoldable pub before_line : ℕ → List TextWord → Result PathRule (Fault PolicyFaultKind)
before_line n words = do
  two ← ok_or (pair words) (At n Token)
  first ← pattern_at n two.0
  second ← pattern_at n two.1
  Ok (Before first second)

unfoldable pub most_line : ℕ → List TextWord → Result PathRule (Fault PolicyFaultKind)
most_line n words = do
  two ← ok_or (pair words) (At n Token)
  pattern ← pattern_at n two.1
  limit ← limit_at n two.0
  Ok (Most limit pattern)

unfoldable pub order_line : ℕ → List TextWord → Result PathRule (Fault PolicyFaultKind)
order_line n words = do
  patterns ← patterns_at n words
  fits ← guard (between 1 16 (length patterns)) (At n Token)
  Ok (Order patterns)

-- by the keyword, the first word of the line
unfoldable pub rule_line : ℕ → TextWord → List TextWord → Result PathRule (Fault PolicyFaultKind)
rule_line n keyword words =
    if bytes_eq keyword (codes "never") then never_line n words
    else if bytes_eq keyword (codes "before") then before_line n words
    else if bytes_eq keyword (codes "most") then most_line n words
    else if bytes_eq keyword (codes "order") then order_line n words
    else Err (At n Token)

-- one line, of these words, below these rules
unfoldable pub line_of : ℕ → List PolicyRule → List TextWord → Result (List PolicyRule) (Fault PolicyFaultKind)
line_of n rules [] = Ok rules
line_of n rules (first ∷ words) = if is_comment first then Ok rules else do
  room ← guard (nat_lt (length rules) rule_limit) (At n TooMany)
  rule ← rule_line n first words
  Ok (rules ++ record { line = n; rule = rule } ∷ [])

-- the lines from number n on, below these rules
unfoldable pub policy_from : ℕ → List PolicyRule → List TextWord → Result (List PolicyRule) (Fault PolicyFaultKind)
policy_from n rules [] = Ok rules
policy_from n rules (line ∷ lines) = do
  next ← line_of n rules (words_of line)
  policy_from (n + 1) next lines

abbrev pub policy_of : List ℕ → Result (List PolicyRule) (Fault PolicyFaultKind)
policy_of text = policy_from 1 [] (lines_of text)
