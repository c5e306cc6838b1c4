-- A pattern is met by as many words alone, each word by its own.
use Rattle.std.proofs.Common.{◌≡◌, ◌≢◌, ℕ, ◌+◌, ◌<◌, ◌≤◌, Bool, true, false, ◌&&◌, List, [], ◌∷◌, length, map, drop, get_or, refl, sym, ap, ◌∙◌, arith}
use Rattle.std.proofs.lemmas.List.{drop_more, drop_all}
use Rattle.oat_report.specs.{TextWord}
use Rattle.oat_policy.specs.{declared.words.PathWord.PathWord, EdgeWords.meets, EdgeWords.meets_each, Pieces.path_word}

pub not_as_many : (pattern words : List TextWord) → length pattern ≢ length words → meets_each pattern words ≡ false
unfolding meets_each
not_as_many [] [] other = absurd (other refl)
not_as_many [] (word ∷ words) other = refl
not_as_many (wanted ∷ pattern) [] other = refl
not_as_many (wanted ∷ pattern) (word ∷ words) other =
    let later : meets_each pattern words ≡ false = not_as_many pattern words (λ e. other (omega (arith, e))) in
    rw later (no_more (meets wanted word))
  where
    no_more : (b : Bool) → (b && false) ≡ false
    no_more true = refl
    no_more false = refl

-- ---- word by word

-- the words from number i on meet the pattern's from there
abbrev from : List TextWord → List PathWord → ℕ → Bool
from pattern words i = meets_each (drop i pattern) (map path_word (drop i words))

one_more : (pattern : List TextWord) (words : List PathWord) (i : ℕ) (d : TextWord) (e : PathWord) → i < length pattern → i < length words
    → from pattern words i ≡ (meets (get_or pattern i d) (path_word (get_or words i e)) && from pattern words (i + 1))
unfolding meets_each
one_more pattern words i d e within inside =
    ap (λ (ps : List TextWord). meets_each ps (map path_word (drop i words))) (drop_more pattern i d within)
    ∙ ap (λ (ws : List PathWord). meets_each (get_or pattern i d ∷ drop (i + 1) pattern) (map path_word ws)) (drop_more words i e inside)

one_tested : (pattern : List TextWord) (words : List PathWord) (i : ℕ) (d : TextWord) (e : PathWord) (wanted : TextWord) (r t b : Bool) → i < length pattern → i < length words
    → wanted ≡ get_or pattern i d → r ≡ meets wanted (path_word (get_or words i e)) → r ≡ t → from pattern words i ≡ b → (t && from pattern words (i + 1)) ≡ b
one_tested pattern words i d e wanted r t b within inside is met tested so_far =
    let meets_so : meets (get_or pattern i d) (path_word (get_or words i e)) ≡ t =
    ap (λ (w : TextWord). meets w (path_word (get_or words i e))) (sym is) ∙ sym met ∙ tested in
    ap (λ (m : Bool). m && from pattern words (i + 1)) (sym meets_so) ∙ sym (one_more pattern words i d e within inside) ∙ so_far

pub one_met : (pattern : List TextWord) (words : List PathWord) (i : ℕ) (d : TextWord) (e : PathWord) (wanted : TextWord) (r b : Bool) → i < length pattern → i < length words
    → wanted ≡ get_or pattern i d → r ≡ meets wanted (path_word (get_or words i e)) → r ≡ true → from pattern words i ≡ b → from pattern words (i + 1) ≡ b
one_met pattern words i d e wanted r b within inside is met passes so_far =
    one_tested pattern words i d e wanted r true b within inside is met passes so_far

pub one_not_met : (pattern : List TextWord) (words : List PathWord) (i : ℕ) (d : TextWord) (e : PathWord) (wanted : TextWord) (r b : Bool) → i < length pattern → i < length words
    → wanted ≡ get_or pattern i d → r ≡ meets wanted (path_word (get_or words i e)) → r ≡ false → from pattern words i ≡ b → false ≡ b
one_not_met pattern words i d e wanted r b within inside is met fails so_far =
    one_tested pattern words i d e wanted r false b within inside is met fails so_far

pub all_met : (pattern : List TextWord) (words : List PathWord) (i : ℕ) (b : Bool) → length pattern ≤ i → length words ≤ i → from pattern words i ≡ b → true ≡ b
unfolding meets_each
all_met pattern words i b beyond past so_far =
    sym (ap (λ (ps : List TextWord). meets_each ps (map path_word (drop i words))) (drop_all i pattern beyond)
    ∙ ap (λ (ws : List PathWord). meets_each [] (map path_word ws)) (drop_all i words past))
    ∙ so_far
