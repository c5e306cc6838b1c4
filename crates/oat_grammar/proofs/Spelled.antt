-- What is spelled of tokens has these words and no others.
use Rattle.std.proofs.Common.{◌≡◌, ℕ, ◌^◌, ◌<◌, Bool, true, false, List, [], ◌∷◌, ◌++◌, length, map, Option, Some, None, refl, sym, ◌∙◌, ap, subst, arith}
use Rattle.std.specs.Prelude.{◌&&◌, ◌||◌, ◌==◌, not, min, nat_lt, nat_le, slice_index, decimal, if◌then◌else◌, is_some}
use Rattle.std.specs.List.{list_all}
use Rattle.std.specs.Char.{is_ascii_digit, is_ascii_alphanumeric}
use Rattle.std.proofs.lemmas.Bool.{and_parts, ltb-true}
use Rattle.std.proofs.lemmas.Bool.Decides.{nat_tests}
use Rattle.std.proofs.lemmas.Fmt.{decimal_nonempty}
use Rattle.oat_map.specs.Name.{is_name, is_name_byte}
use Rattle.oat_lines.specs.Decimal.{is_decimal_digit, numeral_of, decimal_of, leads_with_zero, capped}
use Rattle.oat_lines.proofs.Decimals.{decimal_digits, decimal_again}
use Rattle.oat_grammar.specs.declared.token.Mark.{Mark}
use Rattle.oat_grammar.specs.declared.token.Mark.TheVariants.{Global, Critical, Array, Fn, Operation, Main, Var, If, Else, While, Out, Return, Halt, In, Assign, Semicolon, Comma, OpenRound, CloseRound, OpenSquare, CloseSquare, OpenBrace, CloseBrace}
use Rattle.oat_tree.specs.declared.operator.Operator.{Operator}
use Rattle.oat_tree.specs.declared.operator.Operator.TheVariants.{Equal, Unequal, Less, AtMost, Greater, AtLeast, BitOr, BitXor, BitAnd, ShiftLeft, ShiftRight, Plus, Minus, Times, Quotient, Remainder}
use Rattle.oat_grammar.specs.declared.token.Token.{Token}
use Rattle.oat_grammar.specs.declared.token.Token.TheVariants.{Named, Number, Fixed, Sign}
use Rattle.oat_tree.specs.Syntax.{Word}
use Rattle.oat_grammar.specs.Words.{keyword_in, is_free_name, is_word, are_words}
use Rattle.oat_grammar.specs.Spots.{Spot, spot, of_word, class_of, is_of_word, are_of_word, word_token, name_token, has_bytes, IsSpotted, ends, separates, spells, pairs, signs, spots}
use Rattle.oat_grammar.specs.Spelling.{mark_text, operator_text, token_text, tokens_text}
use Rattle.oat_grammar.proofs.Spotted.{scanned}

-- ---- words

mark_spotted : (m : Mark) (line : ℕ) (bs : List ℕ) (ss : List Spot) → IsSpotted line bs ss → IsSpotted line (mark_text m ++ 32 ∷ bs) (spot line (Some (Fixed m)) ∷ ss)
mark_spotted Global line bs ss d = spells (mark_text Global) refl refl refl (separates 32 refl d)
mark_spotted Critical line bs ss d = spells (mark_text Critical) refl refl refl (separates 32 refl d)
mark_spotted Array line bs ss d = spells (mark_text Array) refl refl refl (separates 32 refl d)
mark_spotted Fn line bs ss d = spells (mark_text Fn) refl refl refl (separates 32 refl d)
mark_spotted Operation line bs ss d = spells (mark_text Operation) refl refl refl (separates 32 refl d)
mark_spotted Main line bs ss d = spells (mark_text Main) refl refl refl (separates 32 refl d)
mark_spotted Var line bs ss d = spells (mark_text Var) refl refl refl (separates 32 refl d)
mark_spotted If line bs ss d = spells (mark_text If) refl refl refl (separates 32 refl d)
mark_spotted Else line bs ss d = spells (mark_text Else) refl refl refl (separates 32 refl d)
mark_spotted While line bs ss d = spells (mark_text While) refl refl refl (separates 32 refl d)
mark_spotted Out line bs ss d = spells (mark_text Out) refl refl refl (separates 32 refl d)
mark_spotted Return line bs ss d = spells (mark_text Return) refl refl refl (separates 32 refl d)
mark_spotted Halt line bs ss d = spells (mark_text Halt) refl refl refl (separates 32 refl d)
mark_spotted In line bs ss d = spells (mark_text In) refl refl refl (separates 32 refl d)
mark_spotted Assign line bs ss d = signs 61 refl refl (separates 32 refl d)
mark_spotted Semicolon line bs ss d = signs 59 refl refl (separates 32 refl d)
mark_spotted Comma line bs ss d = signs 44 refl refl (separates 32 refl d)
mark_spotted OpenRound line bs ss d = signs 40 refl refl (separates 32 refl d)
mark_spotted CloseRound line bs ss d = signs 41 refl refl (separates 32 refl d)
mark_spotted OpenSquare line bs ss d = signs 91 refl refl (separates 32 refl d)
mark_spotted CloseSquare line bs ss d = signs 93 refl refl (separates 32 refl d)
mark_spotted OpenBrace line bs ss d = signs 123 refl refl (separates 32 refl d)
mark_spotted CloseBrace line bs ss d = signs 125 refl refl (separates 32 refl d)

operator_spotted : (o : Operator) (line : ℕ) (bs : List ℕ) (ss : List Spot) → IsSpotted line bs ss → IsSpotted line (operator_text o ++ 32 ∷ bs) (spot line (Some (Sign o)) ∷ ss)
operator_spotted Equal line bs ss d = pairs 61 61 (Sign Equal) refl refl (separates 32 refl d)
operator_spotted Unequal line bs ss d = pairs 33 61 (Sign Unequal) refl refl (separates 32 refl d)
operator_spotted Less line bs ss d = signs 60 refl refl (separates 32 refl d)
operator_spotted AtMost line bs ss d = pairs 60 61 (Sign AtMost) refl refl (separates 32 refl d)
operator_spotted Greater line bs ss d = signs 62 refl refl (separates 32 refl d)
operator_spotted AtLeast line bs ss d = pairs 62 61 (Sign AtLeast) refl refl (separates 32 refl d)
operator_spotted BitOr line bs ss d = signs 124 refl refl (separates 32 refl d)
operator_spotted BitXor line bs ss d = signs 94 refl refl (separates 32 refl d)
operator_spotted BitAnd line bs ss d = signs 38 refl refl (separates 32 refl d)
operator_spotted ShiftLeft line bs ss d = pairs 60 60 (Sign ShiftLeft) refl refl (separates 32 refl d)
operator_spotted ShiftRight line bs ss d = pairs 62 62 (Sign ShiftRight) refl refl (separates 32 refl d)
operator_spotted Plus line bs ss d = signs 43 refl refl (separates 32 refl d)
operator_spotted Minus line bs ss d = signs 45 refl refl (separates 32 refl d)
operator_spotted Times line bs ss d = signs 42 refl refl (separates 32 refl d)
operator_spotted Quotient line bs ss d = signs 47 refl refl (separates 32 refl d)
operator_spotted Remainder line bs ss d = signs 37 refl refl (separates 32 refl d)

-- a word, and a space behind it
word_spotted : (w : Word) (t : Token) (line : ℕ) (bs : List ℕ) (ss : List Spot) → has_bytes w ≡ true → are_of_word w ≡ true → word_token w ≡ Some t → IsSpotted line bs ss
    → IsSpotted line (w ++ 32 ∷ bs) (spot line (Some t) ∷ ss)
word_spotted w t line bs ss some all e d =
    subst (λ (x : Option Token). IsSpotted line (w ++ 32 ∷ bs) (spot line x ∷ ss)) e (spells w some all refl (separates 32 refl d))

has_some : (w : Word) → 0 < length w → has_bytes w ≡ true
has_some [] h = absurd (omega arith)
has_some (b ∷ w) h = refl

-- ---- names

name_byte_class : (b : ℕ) → is_name_byte b ≡ true → is_of_word (class_of b) ≡ true
name_byte_class b h = rw h refl

are_name_bytes : (w : Word) → list_all is_name_byte w ≡ true → are_of_word w ≡ true
are_name_bytes [] h = refl
are_name_bytes (b ∷ w) h =
    let p = and_parts (is_name_byte b) (list_all is_name_byte w) h in
    rw (name_byte_class b p.0, are_name_bytes w p.1) refl

not_true : (b : Bool) → not b ≡ true → b ≡ false
not_true true h = cc
not_true false h = refl

never : (x y : Bool) → (x && (false && y)) ≡ false
never true y = refl
never false y = refl

-- the first byte of a name is no digit
no_numeral : (w : Word) → not (is_ascii_digit (slice_index w 0)) ≡ true → numeral_of w ≡ None
no_numeral [] h = refl
no_numeral (b ∷ w) h =
    let e : is_decimal_digit b ≡ false = not_true (is_ascii_digit b) h in
    rw (e, never (nat_lt 0 (length (b ∷ w))) (list_all is_decimal_digit w)) refl

record IsNamed (w : Word) : Type 0 where
  some : 0 < length w
  bytes : list_all is_name_byte w ≡ true
  no_digit : not (is_ascii_digit (slice_index w 0)) ≡ true

name_parts : (w : Word) → is_free_name w ≡ true → IsNamed w
name_parts w h =
    let p = and_parts (is_name w && nat_le (length w) 30) (not (is_some (keyword_in w))) h in
    let q = and_parts (is_name w) (nat_le (length w) 30) p.0 in
    let r = and_parts (nat_lt 0 (length w) && nat_lt (length w) 33 && list_all is_name_byte w) (not (is_ascii_digit (slice_index w 0))) q.0 in
    let s = and_parts (nat_lt 0 (length w) && nat_lt (length w) 33) (list_all is_name_byte w) r.0 in
    let u = and_parts (nat_lt 0 (length w)) (nat_lt (length w) 33) s.0 in
    record { some = ltb-true 0 (length w) u.0; bytes = s.1; no_digit = r.1 }

name_again : (w : Word) → is_free_name w ≡ true → word_token w ≡ Some (Named w)
name_again w h = rw (no_numeral w (name_parts w h).no_digit, h) refl

-- ---- numbers

digit_class : (b : ℕ) → is_decimal_digit b ≡ true → is_name_byte b ≡ true
digit_class b h = rw h refl

are_digits : (w : Word) → list_all is_decimal_digit w ≡ true → list_all is_name_byte w ≡ true
are_digits [] h = refl
are_digits (b ∷ w) h =
    let p = and_parts (is_decimal_digit b) (list_all is_decimal_digit w) h in
    rw (digit_class b p.0, are_digits w p.1) refl

unled : (b : Bool) (o : Option ℕ) (n : ℕ) → (if b then None else o) ≡ Some n → o ≡ Some n
unled true o n e = absurd cc
unled false o n e = e

numeral_again : (n : ℕ) → n < 2 ^ 64 → numeral_of (decimal n) ≡ Some n
numeral_again n lt = unled (leads_with_zero (decimal n)) (numeral_of (decimal n)) n (decimal_again n lt)

uncapped : (n : ℕ) → n < 2 ^ 64 → capped n ≡ n
uncapped n lt = omega arith

number_again : (n : ℕ) → n < 2 ^ 64 → word_token (decimal n) ≡ Some (Number n)
number_again n lt = rw (numeral_again n lt) (ap (λ (k : ℕ). Some (Number k)) (uncapped n lt))

-- ---- tokens

low : (n : ℕ) → nat_lt n 9223372036854775808 ≡ true → n < 2 ^ 64
low n h = grind (arith, nat_tests)

token_spotted : (t : Token) (line : ℕ) (bs : List ℕ) (ss : List Spot) → is_word t ≡ true → IsSpotted line bs ss → IsSpotted line (token_text t ++ 32 ∷ bs) (spot line (Some t) ∷ ss)
token_spotted (Named w) line bs ss h d = word_spotted w (Named w) line bs ss (has_some w (name_parts w h).some) (are_name_bytes w (name_parts w h).bytes) (name_again w h) d
token_spotted (Number n) line bs ss h d =
    word_spotted (decimal n) (Number n) line bs ss (has_some (decimal n) (decimal_nonempty n (low n h))) (are_name_bytes (decimal n) (are_digits (decimal n) (decimal_digits n (low n h)))) (number_again n (low n h)) d
token_spotted (Fixed m) line bs ss h d = mark_spotted m line bs ss d
token_spotted (Sign o) line bs ss h d = operator_spotted o line bs ss d

tokens_spotted : (ts : List Token) (line : ℕ) → are_words ts ≡ true → IsSpotted line (tokens_text ts) (map (λ t. spot line (Some t)) ts)
tokens_spotted [] line h = ends
tokens_spotted (t ∷ ts) line h =
    let p = and_parts (is_word t) (are_words ts) h in
    token_spotted t line (tokens_text ts) (map (λ u. spot line (Some u)) ts) p.0 (tokens_spotted ts line p.1)

-- all on the first line
pub spelled : (ts : List Token) → are_words ts ≡ true → spots (tokens_text ts) ≡ map (λ t. spot 1 (Some t)) ts
spelled ts h = scanned (tokens_spotted ts 1 h)
