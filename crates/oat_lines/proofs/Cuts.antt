-- How a text is cut into lines, and a line into words.
use Rattle.std.proofs.Common.{◌≡◌, ℕ, suc, ◌+◌, ◌<◌, ◌≤◌, Bool, true, false, cond, eqb, List, [], ◌∷◌, length, take, drop, refl, ap, ◌∙◌, inl, inr, arith}
use Rattle.std.specs.{Prelude.filter, Prelude.not, List.slice_split, List.onto_first, List.position_or_len, List.before_first, List.after_first, Str.Lines.lines_of_parts}
use Rattle.std.specs.{Str.Lines.strip_carriage_return}
use Rattle.std.proofs.lemmas.{Bool.cases_Bool, Bool.ne_eqb, List.Splits.slice_split_first}
use Rattle.oat_lines.specs.Lines.{is_line_feed, is_blank, is_solid, has_bytes, lines_of, words_of}

-- The first part of a split, and the parts after it.
abbrev Splits : (ℕ → Bool) → List ℕ → List (List ℕ) → Type 0
Splits p xs parts = slice_split p xs ≡ take (position_or_len p xs) xs ∷ parts

one_more : (n : ℕ) → 1 + n ≡ suc n
one_more n = omega arith

-- the words after the first part are those of what follows it
split_words : (xs : List ℕ) → (parts : List (List ℕ)) × Splits is_blank xs parts × (filter has_bytes parts ≡ words_of (drop (position_or_len is_blank xs) xs))
unfolding words_of
split_words [] = ([], refl, refl)
split_words (b ∷ bs) =
    let rest = split_words bs in
    elim (cases_Bool (is_blank b)) [
      | inl blank ↦ (slice_split is_blank bs, rw blank refl, rw (blank, blank) refl)
      | inr solid ↦ (rest.0, rw (solid, one_more) (ap (onto_first b) rest.1), rw (solid, one_more) rest.2)
    ]

split_last : (p : ℕ → Bool) (xs : List ℕ) → length xs ≤ position_or_len p xs → slice_split p xs ≡ xs ∷ []
split_last p [] past = refl
split_last p (x ∷ xs) past =
    elim (cases_Bool (p x)) [
      | inl passes ↦ absurd (let over : suc (length xs) ≤ cond (not true) (1 + position_or_len p xs) 0 = rw passes at past in omega arith)
      | inr fails ↦ rw fails (ap (onto_first x) (split_last p xs (let over : suc (length xs) ≤ cond (not false) (1 + position_or_len p xs) 0 = rw fails at past in omega arith)))
    ]

pub lines_of-cut : (text : List ℕ) → position_or_len is_line_feed text < length text
    → lines_of text ≡ strip_carriage_return (before_first is_line_feed text) ∷ lines_of (after_first is_line_feed text)
unfolding lines_of
lines_of-cut text within =
    ap lines_of_parts (slice_split_first is_line_feed text 0 within) ∙ parts (slice_split is_line_feed (after_first is_line_feed text)) (before_first is_line_feed text) (split_has_part (after_first is_line_feed text))
  where
    parts : (others : List (List ℕ)) (first : List ℕ) → (part : List ℕ) × (more : List (List ℕ)) × (others ≡ part ∷ more) → lines_of_parts (first ∷ others) ≡ strip_carriage_return first ∷ lines_of_parts others
    parts others first after = rw after.2 refl

    split_has_part : (xs : List ℕ) → (part : List ℕ) × (more : List (List ℕ)) × (slice_split is_line_feed xs ≡ part ∷ more)
    split_has_part [] = ([], [], refl)
    split_has_part (x ∷ xs) =
        elim (cases_Bool (is_line_feed x)) [
          | inl passes ↦ ([], slice_split is_line_feed xs, rw passes refl)
          | inr fails ↦ let rest = split_has_part xs in (x ∷ rest.0, rest.1, rw fails (ap (onto_first x) rest.2))
        ]

pub lines_of-last : (text : List ℕ) → 0 < length text → length text ≤ position_or_len is_line_feed text → lines_of text ≡ text ∷ lines_of []
unfolding lines_of
lines_of-last [] some past = absurd (omega arith)
lines_of-last (b ∷ bs) some past = ap lines_of_parts (split_last is_line_feed (b ∷ bs) past) ∙ rw (ne_eqb (suc (length bs)) 0 (λ e. absurd (omega arith))) refl

-- nothing, or a byte of a word first
abbrev pub StartsSolid : List ℕ → Type 0
StartsSolid [] = Unit {0}
StartsSolid (b ∷ bs) = is_blank b ≡ false

-- blanks at the front don't count
pub words_of-skip : (line : List ℕ) → (words_of line ≡ words_of (drop (position_or_len is_solid line) line)) × StartsSolid (drop (position_or_len is_solid line) line)
unfolding words_of
words_of-skip [] = (refl, tt)
words_of-skip (b ∷ bs) =
    elim (cases_Bool (is_blank b)) [
      | inl blank ↦ let rest = words_of-skip bs in rw (blank, one_more) rest
      | inr solid ↦ (rw (solid, solid) refl, rw solid solid)
    ]

pub words_of-first : (line : List ℕ) → StartsSolid line → 0 < length line
    → (words_of line ≡ take (position_or_len is_blank line) line ∷ words_of (drop (position_or_len is_blank line) line)) × (0 < position_or_len is_blank line)
unfolding words_of
words_of-first [] solid some = absurd (omega arith)
words_of-first (b ∷ bs) solid some =
    let rest = split_words bs in
    (rw (solid, one_more) (ap (filter has_bytes) (ap (onto_first b) rest.1) ∙ ap (λ (ws : List (List ℕ)). (b ∷ take (position_or_len is_blank bs) bs) ∷ ws) rest.2), rw solid (omega arith))

-- the same of the rest that stands after them
pub words_of-rest : (line rest : List ℕ) (start : ℕ) → start ≡ position_or_len is_solid line → rest ≡ drop start line → (words_of line ≡ words_of rest) × StartsSolid rest
words_of-rest line rest start place cut = rw (cut, place) (words_of-skip line)

pub no_words : (line rest : List ℕ) → words_of line ≡ words_of rest → length rest ≡ 0 → words_of line ≡ []
unfolding words_of
no_words line [] same none = same
no_words line (b ∷ bs) same none = absurd (omega arith)

pub has_some : (rest : List ℕ) → eqb (length rest) 0 ≡ false → 0 < length rest
has_some [] none = absurd cc
has_some (b ∷ bs) some = omega arith
