-- Each piece of a text is one thing of which the definition of its words says what it is.
use Rattle.std.proofs.Common.{◌≡◌, ℕ, suc, ◌+◌, ◌<◌, ◌≤◌, Bool, true, false, List, [], ◌∷◌, ◌++◌, length, Option, Some, None, refl, sym, ◌∙◌, ap, subst, arith, length-append}
use Rattle.std.proofs.lemmas.Bool.{and_parts, eqb-true}
use Rattle.std.specs.Prelude.{not, ◌&&◌, ◌==◌, is_some, option_map, if◌then◌else◌}
use Rattle.oat_grammar.specs.declared.token.Mark.{Mark}
use Rattle.oat_grammar.specs.declared.token.Token.{Token}
use Rattle.oat_grammar.specs.declared.token.Token.TheVariants.{Named, Fixed}
use Rattle.oat_grammar.specs.Words.{Keyword}
use Rattle.oat_grammar.specs.Spots.{Class, of_word, feed, separator, solid, class_of, is_of_word, is_feed, are_of_word, are_of_line, slash, word_token, pair_token, sign_token, begins_comment, ends_word, ends_line, ends_sign, has_bytes, separates, breaks, comments, spells, pairs, signs}
use Rattle.oat_grammar.proofs.Spotted.{scanned, are_spotted}
use Rattle.oat_parse.specs.declared.words.Piece.TheVariants.{Blank, LineFeed, Word}
use Rattle.oat_parse.specs.Pieces.{BeginsWith}

-- ---- words

pub keyword_token : (w : List ℕ) (m : Mark) (x : Option Keyword) (b : Bool) → Some m ≡ option_map (λ k. k.keyword) x → Some (Fixed m) ≡ (if b && not (is_some x) then Some (Named w) else option_map (λ k. Fixed k.keyword) x)
keyword_token w m None b h = cc
keyword_token w m (Some k) true h = ap (option_map Fixed) h
keyword_token w m (Some k) false h = ap (option_map Fixed) h

pub no_feed : (x y z : Bool) → y ≡ false → not (is_feed (if x then of_word else if y then feed else if z then separator else solid)) ≡ true
no_feed true y z h = refl
no_feed false true z h = cc
no_feed false false true h = refl
no_feed false false false h = refl

pub has_some : (w bs : List ℕ) (b : ℕ) (after : List ℕ) → b ∷ after ≡ w ++ bs → class_of b ≡ of_word → ends_word bs ≡ true → has_bytes w ≡ true
has_some (c ∷ w) bs b after e h ends = refl
has_some [] bs b after e h ends =
    let k : not (is_of_word (class_of b)) ≡ true = subst (λ (xs : List ℕ). ends_word xs ≡ true) (sym e) ends in
    let n : false ≡ true = rw h at k in
    cc

pub shorter : (w bs text : List ℕ) → text ≡ w ++ bs → has_bytes w ≡ true → length bs < length text
shorter [] bs text e h = cc
shorter (b ∷ w) bs text e h = rw e (omega (arith, length-append w bs))

-- ---- pieces

pub word_first : (w bs : List ℕ) → has_bytes w ≡ true → are_of_word w ≡ true → ends_word bs ≡ true → BeginsWith (w ++ bs) (Word (word_token w)) bs
word_first w bs some all ends = λ line. scanned (spells w some all ends (are_spotted line bs))

pub feed_first : (b : ℕ) (bs : List ℕ) → class_of b ≡ feed → BeginsWith (b ∷ bs) LineFeed bs
feed_first b bs h = λ line. scanned (breaks b h (are_spotted (suc line) bs))

pub separator_first : (b : ℕ) (bs : List ℕ) → class_of b ≡ separator → BeginsWith (b ∷ bs) Blank bs
separator_first b bs h = λ line. scanned (separates b h (are_spotted line bs))

pub comment_first : (cs bs : List ℕ) → are_of_line cs ≡ true → ends_line bs ≡ true → BeginsWith (slash ∷ slash ∷ (cs ++ bs)) Blank bs
comment_first cs bs all ends = λ line. scanned (comments cs all ends (are_spotted line bs))

pub pair_first : (a b : ℕ) (t : Token) (bs : List ℕ) → class_of a ≡ solid → pair_token a b ≡ Some t → BeginsWith (a ∷ b ∷ bs) (Word (Some t)) bs
pair_first a b t bs h e = λ line. scanned (pairs a b t h e (are_spotted line bs))

pub sign_first : (a : ℕ) (bs : List ℕ) → class_of a ≡ solid → ends_sign a bs ≡ true → BeginsWith (a ∷ bs) (Word (sign_token a)) bs
sign_first a bs h ends = λ line. scanned (signs a h ends (are_spotted line bs))

-- ---- the same where the text is cut

pub word_found : (text w bs : List ℕ) (b : ℕ) (after : List ℕ) → text ≡ b ∷ after → text ≡ w ++ bs → class_of b ≡ of_word → are_of_word w ≡ true → ends_word bs ≡ true → BeginsWith text (Word (word_token w)) bs
word_found text w bs b after e cut h all ends =
    subst (λ (xs : List ℕ). BeginsWith xs (Word (word_token w)) bs) (sym cut) (word_first w bs (has_some w bs b after (sym e ∙ cut) h ends) all ends)

pub shorter_found : (text w bs : List ℕ) (b : ℕ) (after : List ℕ) → text ≡ b ∷ after → text ≡ w ++ bs → class_of b ≡ of_word → ends_word bs ≡ true → length bs < length text
shorter_found text w bs b after e cut h ends = shorter w bs text cut (has_some w bs b after (sym e ∙ cut) h ends)

pub comment_found : (a b : ℕ) (after rest cs bs : List ℕ) → after ≡ b ∷ rest → begins_comment a b ≡ true → rest ≡ cs ++ bs → are_of_line cs ≡ true → ends_line bs ≡ true → BeginsWith (a ∷ after) Blank bs
comment_found a b after rest cs bs e h cut all ends =
    let p = and_parts (a == slash) (b == slash) h in
    rw (e, cut, eqb-true a slash p.0, eqb-true b slash p.1) (comment_first cs bs all ends)

pub sign_found : (a b : ℕ) (after rest : List ℕ) → after ≡ b ∷ rest → class_of a ≡ solid → pair_token a b ≡ None → begins_comment a b ≡ false → BeginsWith (a ∷ after) (Word (sign_token a)) after
sign_found a b after rest e h no_pair no_comment = rw e (sign_first a (b ∷ rest) h (rw (no_pair, no_comment) refl))
