-- The words of a text are those that are scanned, byte by byte: each text has one list of words.
use Rattle.std.proofs.Common.{◌≡◌, ℕ, suc, Bool, true, false, List, [], ◌∷◌, ◌++◌, Option, Some, None, refl, sym, ◌∙◌, ap, subst, inl, inr}
use Rattle.std.specs.Prelude.{not, ◌==◌, is_some}
use Rattle.std.proofs.lemmas.Bool.{and_parts, eqb-true, cases_Bool}
use Rattle.std.proofs.lemmas.List.{append_assoc, append-nil}
use Rattle.std.proofs.lemmas.List.Folds.{list_all-append}
use Rattle.oat_grammar.specs.declared.token.Token.{Token}
use Rattle.oat_tree.specs.Syntax.{Word}
use Rattle.oat_grammar.specs.Spots.{Spot, spot, Class, of_word, feed, separator, solid, class_of, is_of_word, is_feed, are_of_word, are_of_line, slash, word_token, pair_token, sign_token, begins_comment, ends_word, ends_line, ends_sign, has_bytes, IsSpotted, ends, separates, breaks, comments, spells, pairs, signs, apart, in_word, behind, in_comment, scan, spots}

-- ---- bytes

word_class : (k : Class) → is_of_word k ≡ true → k ≡ of_word
word_class of_word h = refl
word_class feed h = cc
word_class separator h = cc
word_class solid h = cc

feed_class : (k : Class) → is_feed k ≡ true → k ≡ feed
feed_class feed h = refl
feed_class of_word h = cc
feed_class separator h = cc
feed_class solid h = cc

no_token : (x : Option Token) → not (is_some x) ≡ true → x ≡ None
no_token None h = refl
no_token (Some t) h = cc

is_not : (b : Bool) → not b ≡ true → b ≡ false
is_not true h = cc
is_not false h = refl

no_pair : {t : Token} → None ≡ Some t → ⊥
no_pair h = cc

-- ---- what ends a word, a sign or a comment

word_ends : (w : Word) (line b : ℕ) (bs : List ℕ) (k : Class) → class_of b ≡ k → not (is_of_word k) ≡ true → scan (in_word w) line (b ∷ bs) ≡ spot line (word_token w) ∷ scan apart line (b ∷ bs)
word_ends w line b bs of_word e h = cc
word_ends w line b bs feed e h = rw e refl
word_ends w line b bs separator e h = rw e refl
word_ends w line b bs solid e h = rw e refl

word_ended : (w : Word) (line : ℕ) (bs : List ℕ) → ends_word bs ≡ true → scan (in_word w) line bs ≡ spot line (word_token w) ∷ scan apart line bs
word_ended w line [] h = refl
word_ended w line (b ∷ bs) h = word_ends w line b bs (class_of b) refl h

sign_ended : (a line : ℕ) (bs : List ℕ) → ends_sign a bs ≡ true → scan (behind a) line bs ≡ spot line (sign_token a) ∷ scan apart line bs
sign_ended a line [] h = refl
sign_ended a line (b ∷ bs) h =
    let p = and_parts (not (is_some (pair_token a b))) (not (begins_comment a b)) h in
    rw (no_token (pair_token a b) p.0, is_not (begins_comment a b) p.1) refl

comment_ended : (line : ℕ) (bs : List ℕ) → ends_line bs ≡ true → scan in_comment line bs ≡ scan apart line bs
comment_ended line [] h = refl
comment_ended line (b ∷ bs) h = rw (feed_class (class_of b) h) refl

-- ---- from words to bytes scanned

word_scanned : (v w : Word) (line : ℕ) (bs : List ℕ) → are_of_word w ≡ true → scan (in_word v) line (w ++ bs) ≡ scan (in_word (v ++ w)) line bs
word_scanned v [] line bs h = ap (λ (x : Word). scan (in_word x) line bs) (sym (append-nil v))
word_scanned v (b ∷ w) line bs h =
    let p = and_parts (is_of_word (class_of b)) (are_of_word w) h in
    rw (word_class (class_of b) p.0) (word_scanned (v ++ b ∷ []) w line bs p.1 ∙ ap (λ (x : Word). scan (in_word x) line bs) (append_assoc v (b ∷ []) w))

comment_goes_on : (line b : ℕ) (bs : List ℕ) (k : Class) → class_of b ≡ k → not (is_feed k) ≡ true → scan in_comment line (b ∷ bs) ≡ scan in_comment line bs
comment_goes_on line b bs feed e h = cc
comment_goes_on line b bs of_word e h = rw e refl
comment_goes_on line b bs separator e h = rw e refl
comment_goes_on line b bs solid e h = rw e refl

comment_scanned : (cs : List ℕ) (line : ℕ) (bs : List ℕ) → are_of_line cs ≡ true → scan in_comment line (cs ++ bs) ≡ scan in_comment line bs
comment_scanned [] line bs h = refl
comment_scanned (c ∷ cs) line bs h =
    let p = and_parts (not (is_feed (class_of c))) (are_of_line cs) h in
    comment_goes_on line c (cs ++ bs) (class_of c) refl p.0 ∙ comment_scanned cs line bs p.1

-- the second byte of a sign of two is one of three
no_pair_by : (a b : ℕ) → (b == 61) ≡ false → (b == 60) ≡ false → (b == 62) ≡ false → pair_token a b ≡ None
no_pair_by a b e f g = rw (e, f, g) refl

pair_solid : (a b : ℕ) (t : Token) → pair_token a b ≡ Some t → class_of b ≡ solid
pair_solid a b t h =
    elim (cases_Bool (b == 61)) [
      | inl e ↦ subst (λ (c : ℕ). class_of c ≡ solid) (sym (eqb-true b 61 e)) refl
      | inr e ↦ elim (cases_Bool (b == 60)) [
        | inl f ↦ subst (λ (c : ℕ). class_of c ≡ solid) (sym (eqb-true b 60 f)) refl
        | inr f ↦ elim (cases_Bool (b == 62)) [
          | inl g ↦ subst (λ (c : ℕ). class_of c ≡ solid) (sym (eqb-true b 62 g)) refl
          | inr g ↦ absurd (no_pair (sym (no_pair_by a b e f g) ∙ h))
        ]
      ]
    ]

pair_scanned : (a b : ℕ) (t : Token) (line : ℕ) (bs : List ℕ) → class_of a ≡ solid → pair_token a b ≡ Some t → scan apart line (a ∷ b ∷ bs) ≡ spot line (Some t) ∷ scan apart line bs
pair_scanned a b t line bs e h = rw (e, h, pair_solid a b t h) refl

sign_begins : (a line : ℕ) (bs : List ℕ) → class_of a ≡ solid → scan apart line (a ∷ bs) ≡ scan (behind a) line bs
sign_begins a line bs e = rw e refl

word_begins : (b : ℕ) (w : Word) (line : ℕ) (bs : List ℕ) → are_of_word (b ∷ w) ≡ true → scan apart line (b ∷ w ++ bs) ≡ scan (in_word (b ∷ w)) line bs
word_begins b w line bs h =
    let p = and_parts (is_of_word (class_of b)) (are_of_word w) h in
    rw (word_class (class_of b) p.0) (word_scanned (b ∷ []) w line bs p.1)

-- each list of words that a text is, is the scanned one
pub scanned : {line : ℕ} {bs : List ℕ} {ss : List Spot} → IsSpotted line bs ss → scan apart line bs ≡ ss
scanned ends = refl
scanned (separates b e d) = rw e (scanned d)
scanned (breaks b e d) = rw e (scanned d)
scanned (comments {line} cs {bs} h i d) = comment_scanned cs line bs h ∙ comment_ended line bs i ∙ scanned d
scanned (spells {line} [] {bs} h i j d) = cc
scanned (spells {line} (b ∷ w) {bs} h i j d) = word_begins b w line bs i ∙ word_ended (b ∷ w) line bs j ∙ ap (λ (xs : List Spot). spot line (word_token (b ∷ w)) ∷ xs) (scanned d)
scanned (pairs {line} a b t {bs} e h d) = pair_scanned a b t line bs e h ∙ ap (λ (xs : List Spot). spot line (Some t) ∷ xs) (scanned d)
scanned (signs {line} a {bs} e h d) = sign_begins a line bs e ∙ sign_ended a line bs h ∙ ap (λ (xs : List Spot). spot line (sign_token a) ∷ xs) (scanned d)

-- ---- from bytes scanned to words

-- what is read from any place of the scan on
record Holds (bs : List ℕ) : Type 0 where
  at_apart : (line : ℕ) → IsSpotted line bs (scan apart line bs)
  at_word : (w : Word) (line : ℕ) → has_bytes w ≡ true → are_of_word w ≡ true → IsSpotted line (w ++ bs) (scan (in_word w) line bs)
  at_sign : (a line : ℕ) → class_of a ≡ solid → IsSpotted line (a ∷ bs) (scan (behind a) line bs)
  at_comment : (cs : List ℕ) (line : ℕ) → are_of_line cs ≡ true → IsSpotted line (slash ∷ slash ∷ (cs ++ bs)) (scan in_comment line bs)

as_spots : {line : ℕ} {bs : List ℕ} {xs ys : List Spot} → xs ≡ ys → IsSpotted line bs ys → IsSpotted line bs xs
as_spots {line} {bs} e d = subst (λ (zs : List Spot). IsSpotted line bs zs) (sym e) d

as_bytes : {line : ℕ} {xs ys : List ℕ} {ss : List Spot} → xs ≡ ys → IsSpotted line xs ss → IsSpotted line ys ss
as_bytes {line} {ss} e d = subst (λ (zs : List ℕ). IsSpotted line zs ss) e d

begun : (w : Word) (b : ℕ) → has_bytes (w ++ b ∷ []) ≡ true
begun [] b = refl
begun (c ∷ w) b = refl

one_word : (b : ℕ) → class_of b ≡ of_word → are_of_word (b ∷ []) ≡ true
one_word b e = rw e refl

one_of_line : (c : ℕ) → is_feed (class_of c) ≡ false → are_of_line (c ∷ []) ≡ true
one_of_line c e = rw e refl

word_more : (w : Word) (b : ℕ) → are_of_word w ≡ true → class_of b ≡ of_word → are_of_word (w ++ b ∷ []) ≡ true
word_more w b h e = list_all-append (λ c. is_of_word (class_of c)) w (b ∷ []) ∙ rw (h, e) refl

line_more : (cs : List ℕ) (c : ℕ) → are_of_line cs ≡ true → is_feed (class_of c) ≡ false → are_of_line (cs ++ c ∷ []) ≡ true
line_more cs c h e = list_all-append (λ d. not (is_feed (class_of d))) cs (c ∷ []) ∙ rw (h, e) refl

apart_more : (b : ℕ) (bs : List ℕ) → Holds bs → (line : ℕ) (k : Class) → class_of b ≡ k → IsSpotted line (b ∷ bs) (scan apart line (b ∷ bs))
apart_more b bs h line of_word e = as_spots (rw e refl) (h.at_word (b ∷ []) line refl (one_word b e))
apart_more b bs h line feed e = as_spots (rw e refl) (breaks b e (h.at_apart (suc line)))
apart_more b bs h line separator e = as_spots (rw e refl) (separates b e (h.at_apart line))
apart_more b bs h line solid e = as_spots (rw e refl) (h.at_sign b line e)

word_over : (b : ℕ) (bs : List ℕ) (w : Word) (line : ℕ) → IsSpotted line (b ∷ bs) (scan apart line (b ∷ bs)) → has_bytes w ≡ true → are_of_word w ≡ true → not (is_of_word (class_of b)) ≡ true
    → IsSpotted line (w ++ b ∷ bs) (scan (in_word w) line (b ∷ bs))
word_over b bs w line d some all other = as_spots (word_ended w line (b ∷ bs) other) (spells w some all other d)

word_on : (b : ℕ) (bs : List ℕ) → Holds bs → (w : Word) (line : ℕ) → has_bytes w ≡ true → are_of_word w ≡ true → (k : Class) → class_of b ≡ k
    → IsSpotted line (w ++ b ∷ bs) (scan (in_word w) line (b ∷ bs))
word_on b bs h w line some all of_word e = as_spots (rw e refl) (as_bytes (append_assoc w (b ∷ []) bs) (h.at_word (w ++ b ∷ []) line (begun w b) (word_more w b all e)))
word_on b bs h w line some all feed e = word_over b bs w line (apart_more b bs h line feed e) some all (rw e refl)
word_on b bs h w line some all separator e = word_over b bs w line (apart_more b bs h line separator e) some all (rw e refl)
word_on b bs h w line some all solid e = word_over b bs w line (apart_more b bs h line solid e) some all (rw e refl)

comment_begins : (a b line : ℕ) (bs : List ℕ) → Holds bs → a ≡ slash → b ≡ slash → IsSpotted line (a ∷ b ∷ bs) (scan (behind a) line (b ∷ bs))
comment_begins a b line bs h e f =
    subst (λ (c : ℕ). IsSpotted line (c ∷ b ∷ bs) (scan (behind c) line (b ∷ bs))) (sym e)
    (subst (λ (c : ℕ). IsSpotted line (slash ∷ c ∷ bs) (scan (behind slash) line (c ∷ bs))) (sym f)
    (h.at_comment [] line refl))

sign_on : (a b : ℕ) (bs : List ℕ) → Holds bs → (line : ℕ) → class_of a ≡ solid → (x : Option Token) → pair_token a b ≡ x → IsSpotted line (a ∷ b ∷ bs) (scan (behind a) line (b ∷ bs))
sign_on a b bs h line e (Some t) f = as_spots (sym (sign_begins a line (b ∷ bs) e) ∙ pair_scanned a b t line bs e f) (pairs a b t e f (h.at_apart line))
sign_on a b bs h line e None f =
    elim (cases_Bool (begins_comment a b)) [
      | inl g ↦ let p = and_parts (a == slash) (b == slash) g in comment_begins a b line bs h (eqb-true a slash p.0) (eqb-true b slash p.1)
      | inr g ↦ as_spots (sign_ended a line (b ∷ bs) (rw (f, g) refl)) (signs a e (rw (f, g) refl) (apart_more b bs h line (class_of b) refl))
    ]

comment_on : (b : ℕ) (bs : List ℕ) → Holds bs → (cs : List ℕ) (line : ℕ) → are_of_line cs ≡ true → IsSpotted line (slash ∷ slash ∷ (cs ++ b ∷ bs)) (scan in_comment line (b ∷ bs))
comment_on b bs h cs line all =
    elim (cases_Bool (is_feed (class_of b))) [
      | inl e ↦ as_spots (comment_ended line (b ∷ bs) e) (comments cs all e (apart_more b bs h line (class_of b) refl))
      | inr e ↦ as_spots (comment_goes_on line b bs (class_of b) refl (rw e refl))
          (as_bytes (ap (λ (xs : List ℕ). slash ∷ slash ∷ xs) (append_assoc cs (b ∷ []) bs)) (h.at_comment (cs ++ b ∷ []) line (line_more cs b all e)))
    ]

holds : (bs : List ℕ) → Holds bs
holds [] = record {
  at_apart = λ line. ends;
  at_word = λ w line some all. spells w some all refl ends;
  at_sign = λ a line e. signs a e refl ends;
  at_comment = λ cs line all. comments cs all refl ends;
}
holds (b ∷ bs) =
    let h = holds bs in
    record {
      at_apart = λ line. apart_more b bs h line (class_of b) refl;
      at_word = λ w line some all. word_on b bs h w line some all (class_of b) refl;
      at_sign = λ a line e. sign_on a b bs h line e (pair_token a b) refl;
      at_comment = λ cs line all. comment_on b bs h cs line all;
    }

-- the scanned words are the words of the bytes
pub are_spotted : (line : ℕ) (bs : List ℕ) → IsSpotted line bs (scan apart line bs)
are_spotted line bs = (holds bs).at_apart line

pub is_spotted : (text : List ℕ) → IsSpotted 1 text (spots text)
is_spotted text = are_spotted 1 text

-- so a text has one list of words
pub one_spotting : {line : ℕ} {bs : List ℕ} {ss us : List Spot} → IsSpotted line bs ss → IsSpotted line bs us → ss ≡ us
one_spotting d e = sym (scanned d) ∙ scanned e
