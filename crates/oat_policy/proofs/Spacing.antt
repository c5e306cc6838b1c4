-- The words of an edge with one space between two are its line.
use Rattle.std.proofs.Common.{◌≡◌, ℕ, List, [], ◌∷◌, ◌++◌, refl, sym, ◌∙◌, append_assoc}
use Rattle.std.specs.Prelude.{codes}
use Rattle.oat_report.specs.{spaced, EdgeName, jump, branch, call, icall, return, finish, stray, name_of, PathLine.place_text, PathLine.site_text, PathLine.bit_text, PathLine.address_digits}
use Rattle.oat_report.specs.{PathLine.name_text}
use Rattle.oat_policy.specs.{EdgeWords.name_words, Laws.WordsMakeTheLine}

-- a keyword and two words
two_words : (keyword first second : List ℕ) → keyword ++ (first ++ 32 ∷ second) ≡ ((keyword ++ first) ++ 32 ∷ []) ++ second
two_words keyword first second = sym (append_assoc (keyword ++ first) (32 ∷ []) second ∙ append_assoc keyword first (32 ∷ second))

three_words : (keyword first second third : List ℕ) → keyword ++ (first ++ 32 ∷ (second ++ 32 ∷ third)) ≡ ((((keyword ++ first) ++ 32 ∷ []) ++ second) ++ 32 ∷ []) ++ third
three_words keyword first second third =
    two_words keyword first (second ++ 32 ∷ third)
    ∙ sym (append_assoc (((keyword ++ first) ++ 32 ∷ []) ++ second) (32 ∷ []) third ∙ append_assoc ((keyword ++ first) ++ 32 ∷ []) second (32 ∷ third))

names_make_the_text : (name : EdgeName) → spaced (name_words name) ≡ name_text name
names_make_the_text (jump site place) = two_words (codes "jump ") (site_text site) (place_text place)
names_make_the_text (branch site bit place) = three_words (codes "branch ") (site_text site) (bit_text bit) (place_text place)
names_make_the_text (call site place) = two_words (codes "call ") (site_text site) (place_text place)
names_make_the_text (icall site place) = two_words (codes "icall ") (site_text site) (place_text place)
names_make_the_text (return site called_from) = two_words (codes "ret ") (site_text site) (site_text called_from)
names_make_the_text (finish op) = refl
names_make_the_text (stray from to) = two_words (codes "stray ") (address_digits from) (address_digits to)

pub words_make_the_line : WordsMakeTheLine
words_make_the_line flow edge = names_make_the_text (name_of flow edge)
