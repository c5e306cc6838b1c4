-- The lines and words of a text that is printed are those that were put.
use Rattle.std.proofs.Common.{◌≡◌, ℕ, ◌-◌, ◌<◌, Bool, true, false, eqb, ltb, List, [], ◌∷◌, ◌++◌, length, get_or, refl, ap, ◌∙◌, append_assoc, arith}
use Rattle.std.specs.{List.All, List.AllByRecursion, List.list_all, List.slice_split, Str.Lines.lines_of_parts, Str.Lines.strip_carriage_return}
use Rattle.std.proofs.lemmas.{Bool.ne_eqb, Bool.ltb-true, Bool.lt-ltb, List.Elements.All-from_recursion, List.Folds.list_all-append, List.Splits.slice_split_at, List.Splits.slice_split_none}
use Rattle.std.proofs.lemmas.{List.Splits.length-slice_split, Bool.and_parts}
use Rattle.oat_lines.specs.{Lines.lines_of, Lines.words_of, Lines.is_blank, Lines.has_bytes, Lines.is_comment, Fields.spaced, Fields.ended, Fields.is_visible}

-- a word that is printed
pub record IsPlain (word : List ℕ) : Type 0 where
  pub visible : list_all is_visible word ≡ true
  pub nonempty : 0 < length word
  pub counts : is_comment word ≡ false

-- ---- words

no_blank : (b : ℕ) → is_visible b ≡ true → is_blank b ≡ false
no_blank b e =
    let above : 32 < b = ltb-true 32 b e in
    rw (ne_eqb b 32 (λ f. omega arith), ne_eqb b 9 (λ f. omega arith)) refl

solid : (word : List ℕ) → list_all is_visible word ≡ true → AllByRecursion (λ b. is_blank b ≡ false) word
solid [] e = tt
solid (b ∷ bs) e = let p = and_parts (is_visible b) (list_all is_visible bs) e in (no_blank b p.0, solid bs p.1)

some_bytes : (word : List ℕ) → 0 < length word → has_bytes word ≡ true
some_bytes [] some = absurd (omega arith)
some_bytes (b ∷ bs) some = refl

all_solid : (word : List ℕ) → IsPlain word → All (λ b. is_blank b ≡ false) word
all_solid word plain = All-from_recursion (λ b. is_blank b ≡ false) word (solid word plain.visible)

pub words_spaced : (words : List (List ℕ)) → AllByRecursion IsPlain words → words_of (spaced words) ≡ words
unfolding words_of
words_spaced [] plain = refl
words_spaced (word ∷ []) plain =
    rw (slice_split_none is_blank word (all_solid word plain.0), some_bytes word plain.0.nonempty) refl
words_spaced (word ∷ next ∷ words) plain =
    rw (slice_split_at is_blank word 32 (spaced (next ∷ words)) (all_solid word plain.0) refl, some_bytes word plain.0.nonempty)
    (ap (λ (rest : List (List ℕ)). word ∷ rest) (words_spaced (next ∷ words) plain.1))

-- ---- lines

-- a byte above those that end a line
abbrev pub is_within : ℕ → Bool
is_within b = ltb 13 b

visible_within : (word : List ℕ) → list_all is_visible word ≡ true → list_all is_within word ≡ true
visible_within [] e = refl
visible_within (b ∷ bs) e =
    let p = and_parts (is_visible b) (list_all is_visible bs) e in
    let above : 32 < b = ltb-true 32 b p.0 in
    rw (lt-ltb 13 b (omega arith), visible_within bs p.1) refl

pub spaced_within : (words : List (List ℕ)) → AllByRecursion IsPlain words → list_all is_within (spaced words) ≡ true
spaced_within [] plain = refl
spaced_within (word ∷ []) plain = visible_within word plain.0.visible
spaced_within (word ∷ next ∷ words) plain =
    rw (list_all-append is_within word (32 ∷ spaced (next ∷ words)), visible_within word plain.0.visible, spaced_within (next ∷ words) plain.1) refl

no_feed : (line : List ℕ) → list_all is_within line ≡ true → AllByRecursion (λ b. eqb b 10 ≡ false) line
no_feed [] e = tt
no_feed (b ∷ bs) e =
    let p = and_parts (is_within b) (list_all is_within bs) e in
    let above : 13 < b = ltb-true 13 b p.0 in
    (ne_eqb b 10 (λ f. omega arith), no_feed bs p.1)

no_return : (line : List ℕ) → list_all is_within line ≡ true → AllByRecursion (λ b. eqb b 13 ≡ false) line
no_return [] e = tt
no_return (b ∷ bs) e =
    let p = and_parts (is_within b) (list_all is_within bs) e in
    let above : 13 < b = ltb-true 13 b p.0 in
    (ne_eqb b 13 (λ f. omega arith), no_return bs p.1)

last_kept : (line : List ℕ) → All (λ b. eqb b 13 ≡ false) line → eqb (get_or line (length line - 1) 0) 13 ≡ false
last_kept [] all = refl
last_kept (b ∷ bs) all = all (length (b ∷ bs) - 1) 0 (omega arith)

kept : (line : List ℕ) → list_all is_within line ≡ true → strip_carriage_return line ≡ line
kept line e = rw (last_kept line (All-from_recursion (λ b. eqb b 13 ≡ false) line (no_return line e))) refl

onward : (line : List ℕ) (parts : List (List ℕ)) → 0 < length parts
    → lines_of_parts (line ∷ parts) ≡ strip_carriage_return line ∷ lines_of_parts parts
onward line [] some = absurd (omega arith)
onward line (next ∷ parts) some = refl

pub lines_ended : (line rest : List ℕ) → list_all is_within line ≡ true → lines_of (ended line ++ rest) ≡ line ∷ lines_of rest
unfolding lines_of
lines_ended line rest e =
    let feed = λ (b : ℕ). eqb b 10 in
    let cut = slice_split_at feed line 10 rest (All-from_recursion (λ b. eqb b 10 ≡ false) line (no_feed line e)) refl in
    let many = length-slice_split feed rest in
    ap (λ (text : List ℕ). lines_of_parts (slice_split feed text)) (append_assoc line (10 ∷ []) rest)
    ∙ ap lines_of_parts cut ∙ onward line (slice_split feed rest) (omega arith)
    ∙ ap (λ (first : List ℕ). first ∷ lines_of_parts (slice_split feed rest)) (kept line e)
