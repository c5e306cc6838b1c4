-- The words of a text of bytes, each at its line.
use Rattle.std.specs.Prelude.{◌≡◌, ℕ, suc, Bool, true, false, not, ◌&&◌, ◌||◌, ◌==◌, List, [], ◌∷◌, ◌++◌, Option, Some, None, is_some, option_map, if◌then◌else◌}
use Rattle.std.specs.List.{list_all}
use Rattle.oat_map.specs.Name.{is_name_byte}
use Rattle.oat_lines.specs.Decimal.{numeral_of, capped}
use Rattle.oat_grammar.specs.declared.token.Mark.TheVariants.{Assign, Semicolon, Comma, OpenRound, CloseRound, OpenSquare, CloseSquare, OpenBrace, CloseBrace}
use Rattle.oat_tree.specs.declared.operator.Operator.TheVariants.{Equal, Unequal, Less, AtMost, Greater, AtLeast, BitOr, BitXor, BitAnd, ShiftLeft, ShiftRight, Plus, Minus, Times, Quotient, Remainder}
use Rattle.oat_grammar.specs.declared.token.Token.{Token}
use Rattle.oat_grammar.specs.declared.token.Token.TheVariants.{Named, Number, Fixed, Sign}
use Rattle.oat_tree.specs.Syntax.{Word}
use Rattle.oat_grammar.specs.Words.{keyword_in, is_free_name}

-- A word or sign of a text, or a byte or word that is none.
pub record Spot : Type 0 where
  pub line : ℕ
  pub token : Option Token

abbrev pub spot : ℕ → Option Token → Spot
spot n t = record { line = n; token = t }

-- ---- bytes

-- what a byte is between words
pub data Class : Type 0 where
  of_word : Class
  feed : Class
  separator : Class
  solid : Class

-- LF; space, tab and CR; all that is neither these nor of a word
abbrev pub class_of : ℕ → Class
class_of b = if is_name_byte b then of_word else if b == 10 then feed else if b == 32 || b == 9 || b == 13 then separator else solid

abbrev pub is_of_word : Class → Bool
is_of_word of_word = true
is_of_word _ = false

abbrev pub is_feed : Class → Bool
is_feed feed = true
is_feed _ = false

abbrev pub are_of_word : List ℕ → Bool
are_of_word w = list_all (λ b. is_of_word (class_of b)) w

abbrev pub are_of_line : List ℕ → Bool
are_of_line cs = list_all (λ c. not (is_feed (class_of c))) cs

abbrev pub slash : ℕ
slash = 47

-- ---- words

-- letters, digits and underscores: a number, a word of the grammar, or a name
abbrev pub name_token : Word → Option Token
name_token w = if is_free_name w then Some (Named w) else option_map (λ k. Fixed k.keyword) (keyword_in w)

abbrev pub number_or_name : Word → Option ℕ → Option Token
number_or_name w (Some n) = Some (Number (capped n))
number_or_name w None = name_token w

abbrev pub word_token : Word → Option Token
word_token w = number_or_name w (numeral_of w)

-- a sign of two bytes
abbrev pub pair_token : ℕ → ℕ → Option Token
pair_token a b =
    if b == 61 then (if a == 61 then Some (Sign Equal) else if a == 33 then Some (Sign Unequal) else if a == 60 then Some (Sign AtMost) else if a == 62 then Some (Sign AtLeast) else None)
    else if b == 60 then (if a == 60 then Some (Sign ShiftLeft) else None)
    else if b == 62 then (if a == 62 then Some (Sign ShiftRight) else None)
    else None

-- a sign of one byte
abbrev pub sign_token : ℕ → Option Token
sign_token b =
    if b == 61 then Some (Fixed Assign)
    else if b == 59 then Some (Fixed Semicolon)
    else if b == 44 then Some (Fixed Comma)
    else if b == 40 then Some (Fixed OpenRound)
    else if b == 41 then Some (Fixed CloseRound)
    else if b == 91 then Some (Fixed OpenSquare)
    else if b == 93 then Some (Fixed CloseSquare)
    else if b == 123 then Some (Fixed OpenBrace)
    else if b == 125 then Some (Fixed CloseBrace)
    else if b == 60 then Some (Sign Less)
    else if b == 62 then Some (Sign Greater)
    else if b == 124 then Some (Sign BitOr)
    else if b == 94 then Some (Sign BitXor)
    else if b == 38 then Some (Sign BitAnd)
    else if b == 43 then Some (Sign Plus)
    else if b == 45 then Some (Sign Minus)
    else if b == 42 then Some (Sign Times)
    else if b == 47 then Some (Sign Quotient)
    else if b == 37 then Some (Sign Remainder)
    else None

abbrev pub begins_comment : ℕ → ℕ → Bool
begins_comment a b = a == slash && b == slash

-- ---- what stands behind

-- no byte of a word
abbrev pub ends_word : List ℕ → Bool
ends_word [] = true
ends_word (b ∷ bs) = not (is_of_word (class_of b))

-- the end of the text or of the line
abbrev pub ends_line : List ℕ → Bool
ends_line [] = true
ends_line (b ∷ bs) = is_feed (class_of b)

-- a byte that makes no sign of two and no comment with the one before
abbrev pub ends_sign : ℕ → List ℕ → Bool
ends_sign a [] = true
ends_sign a (b ∷ bs) = not (is_some (pair_token a b)) && not (begins_comment a b)

abbrev pub has_bytes : Word → Bool
has_bytes [] = false
has_bytes (b ∷ bs) = true

-- ---- texts

-- These bytes, the first of which stands at this line, are these words.
pub data IsSpotted : ℕ → List ℕ → List Spot → Type 0 where
  ends : {line : ℕ} → IsSpotted line [] []
  separates : {line : ℕ} (b : ℕ) {bs : List ℕ} {ss : List Spot} → class_of b ≡ separator → IsSpotted line bs ss → IsSpotted line (b ∷ bs) ss
  breaks : {line : ℕ} (b : ℕ) {bs : List ℕ} {ss : List Spot} → class_of b ≡ feed → IsSpotted (suc line) bs ss → IsSpotted line (b ∷ bs) ss
  comments : {line : ℕ} (cs : List ℕ) {bs : List ℕ} {ss : List Spot} → are_of_line cs ≡ true → ends_line bs ≡ true → IsSpotted line bs ss → IsSpotted line (slash ∷ slash ∷ (cs ++ bs)) ss
  spells : {line : ℕ} (w : Word) {bs : List ℕ} {ss : List Spot} → has_bytes w ≡ true → are_of_word w ≡ true → ends_word bs ≡ true → IsSpotted line bs ss → IsSpotted line (w ++ bs) (spot line (word_token w) ∷ ss)
  pairs : {line : ℕ} (a b : ℕ) (t : Token) {bs : List ℕ} {ss : List Spot} → class_of a ≡ solid → pair_token a b ≡ Some t → IsSpotted line bs ss → IsSpotted line (a ∷ b ∷ bs) (spot line (Some t) ∷ ss)
  signs : {line : ℕ} (a : ℕ) {bs : List ℕ} {ss : List Spot} → class_of a ≡ solid → ends_sign a bs ≡ true → IsSpotted line bs ss → IsSpotted line (a ∷ bs) (spot line (sign_token a) ∷ ss)

-- ---- the same, byte by byte

-- between words, in a word that began with these bytes, behind a byte that may begin a sign, or in a comment
pub data Scan : Type 0 where
  apart : Scan
  in_word : Word → Scan
  behind : ℕ → Scan
  in_comment : Scan

-- where a byte leads from between words
abbrev pub from : ℕ → Class → Scan
from b of_word = in_word (b ∷ [])
from b solid = behind b
from b _ = apart

abbrev pub sign_after : ℕ → ℕ → Option Token → Scan
sign_after a b (Some t) = apart
sign_after a b None = if begins_comment a b then in_comment else from b (class_of b)

abbrev pub after : Scan → ℕ → Class → Scan
after (in_word w) b of_word = in_word (w ++ b ∷ [])
after in_comment b feed = apart
after in_comment b _ = in_comment
after (behind a) b _ = sign_after a b (pair_token a b)
after _ b k = from b k

abbrev pub sign_done : ℕ → ℕ → ℕ → Option Token → List Spot
sign_done line a b (Some t) = spot line (Some t) ∷ []
sign_done line a b None = if begins_comment a b then [] else spot line (sign_token a) ∷ []

-- the word that ends with a byte or before it
abbrev pub done : ℕ → Scan → ℕ → Class → List Spot
done line (in_word w) b of_word = []
done line (in_word w) b _ = spot line (word_token w) ∷ []
done line (behind a) b _ = sign_done line a b (pair_token a b)
done line _ b _ = []

-- the word that ends with the text
abbrev pub ended : ℕ → Scan → List Spot
ended line (in_word w) = spot line (word_token w) ∷ []
ended line (behind a) = spot line (sign_token a) ∷ []
ended line _ = []

abbrev pub line_behind : ℕ → Class → ℕ
line_behind line feed = suc line
line_behind line _ = line

abbrev pub scan : Scan → ℕ → List ℕ → List Spot
scan s line [] = ended line s
scan s line (b ∷ bs) = done line s b (class_of b) ++ scan (after s b (class_of b)) (line_behind line (class_of b)) bs

-- the words of a text
abbrev pub spots : List ℕ → List Spot
spots text = scan apart 1 text
