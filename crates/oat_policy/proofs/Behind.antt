-- The bytes with which a text begins, one piece behind the other.
use Rattle.std.proofs.Common.{◌≡◌, ℕ, ◌<◌, true, false, eqb, List, [], ◌∷◌, ◌++◌, length, take, drop, Option, Some, None, refl, sym, ap, ◌∙◌, inl, inr, arith}
use Rattle.std.specs.{Option.option_and_then, Option.option_copied, Str.bytes_eq}
use Rattle.std.proofs.lemmas.{Bool.cases_Bool, Bool.eqb-true, Bool.eq-eqb, Bool.ne_eqb, Bool.false≢true, List.take_at, List.take-append-drop, List.append-nil, Slice.Eq.bytes_eq-Decides}
use Rattle.oat_lines.proofs.Steps.{some_is}
use Rattle.oat_policy.specs.{declared.words.PathWord.PathWord, Behind.rest_behind, Behind.rest_behind_sign, Behind.rest_behind_word, Behind.is_whole, Pieces.with_piece, Pieces.place_word}
use Rattle.oat_policy.specs.{Pieces.path_word}

pub both : (front more text : List ℕ) → rest_behind (front ++ more) text ≡ option_and_then (rest_behind more) (rest_behind front text)
unfolding rest_behind
both [] more text = refl
both (b ∷ front) more [] = refl
both (b ∷ front) more (c ∷ text) =
    elim (cases_Bool (eqb c b)) [
      | inl same ↦ rw same (both front more text)
      | inr other ↦ rw other refl
    ]

three : (first second third text : List ℕ)
    → option_and_then (rest_behind third) (option_and_then (rest_behind second) (rest_behind first text)) ≡ rest_behind ((first ++ second) ++ third) text
three first second third text = sym (both (first ++ second) third text ∙ ap (option_and_then (rest_behind third)) (both first second text))

unchanged : (found : Option (List ℕ)) → option_and_then (λ text. Some text) found ≡ found
unchanged None = refl
unchanged (Some text) = refl

regrouped : (sign piece : List ℕ) (found : Option (List ℕ))
    → option_and_then (λ text. option_and_then (rest_behind piece) (rest_behind sign text)) found ≡ option_and_then (rest_behind piece) (option_and_then (rest_behind sign) found)
regrouped sign piece None = refl
regrouped sign piece (Some text) = refl

further : (front sign : List ℕ) (piece : Option (List ℕ)) (text : List ℕ)
    → option_and_then (rest_behind_sign sign piece) (rest_behind front text) ≡ rest_behind (with_piece front sign piece) text
further front sign None text = unchanged (rest_behind front text)
further front sign (Some piece) text = regrouped sign piece (rest_behind front text) ∙ three front sign piece text

by_pieces : (word : PathWord) (text : List ℕ) → rest_behind_word word text ≡ rest_behind (path_word word) text
by_pieces word text =
    ap (option_and_then (rest_behind_sign (35 ∷ []) (option_copied word.number))) (further word.place.name.now (46 ∷ []) (option_copied word.place.label) text)
    ∙ further (place_word word.place) (35 ∷ []) (option_copied word.number) text

again : (front rest : List ℕ) → rest_behind front (front ++ rest) ≡ Some rest
unfolding rest_behind
again [] rest = refl
again (b ∷ front) rest = rw (eq-eqb b b refl) (again front rest)

taken : (front text rest : List ℕ) → rest_behind front text ≡ Some rest → text ≡ front ++ rest
unfolding rest_behind
taken [] text rest e = some_is text rest e
taken (b ∷ front) [] rest e = absurd cc
taken (b ∷ front) (c ∷ text) rest e =
    elim (cases_Bool (eqb c b)) [
      | inl same ↦ let inner : rest_behind front text ≡ Some rest = rw same at e in
          ap (λ d. d ∷ text) (eqb-true c b same) ∙ ap (λ (t : List ℕ). b ∷ t) (taken front text rest inner)
      | inr other ↦ absurd (let bad : Path (Option (List ℕ)) None (Some rest) = rw other at e in cc)
    ]

lacking : (front text : List ℕ) (found : Option (List ℕ)) → rest_behind front text ≡ found → ((rest : List ℕ) → text ≡ front ++ rest → ⊥) → rest_behind front text ≡ None
lacking front text None e other = e
lacking front text (Some rest) e other = absurd (other rest (taken front text rest e))

pub none_behind : (front text : List ℕ) → ((rest : List ℕ) → text ≡ front ++ rest → ⊥) → rest_behind front text ≡ None
none_behind front text other = lacking front text (rest_behind front text) refl other

longer : (front rest : List ℕ) → length (front ++ rest) < length front → ⊥
longer [] rest short = omega arith
longer (b ∷ front) rest short = longer front rest (omega arith)

pub too_short : (front text : List ℕ) → length text < length front → rest_behind front text ≡ None
too_short front text short = none_behind front text (λ rest e. longer front rest (rw e at short))

pub found_behind : (front text head rest : List ℕ) → head ≡ take (length front) text → rest ≡ drop (length front) text → bytes_eq head front ≡ true
    → rest_behind front text ≡ Some rest
found_behind front text head rest cut left same =
    let front_is : head ≡ front = (bytes_eq-Decides head front).0 same in
    let whole : front ++ rest ≡ text = ap (λ (h : List ℕ). h ++ rest) (sym front_is ∙ cut) ∙ ap (λ (r : List ℕ). take (length front) text ++ r) left ∙ take-append-drop (length front) text in
    ap (rest_behind front) (sym whole) ∙ again front rest

pub other_front : (front text head : List ℕ) → head ≡ take (length front) text → bytes_eq head front ≡ false → rest_behind front text ≡ None
other_front front text head cut differs =
    none_behind front text (λ rest e.
    let same : head ≡ front = cut ∙ ap (take (length front)) e ∙ take_at front rest (length front) refl in
    false≢true (sym differs ∙ (bytes_eq-Decides head front).1 same))

nothing_left : (front text : List ℕ) (found : Option (List ℕ)) → rest_behind front text ≡ found → is_whole found ≡ bytes_eq text front
nothing_left front text None e =
    elim (cases_Bool (bytes_eq text front)) [
      | inl same ↦ absurd (let is : text ≡ front = (bytes_eq-Decides text front).0 same in
          let some : rest_behind front text ≡ Some [] = ap (rest_behind front) (is ∙ sym (append-nil front)) ∙ again front [] in
          let bad : Path (Option (List ℕ)) None (Some []) = sym e ∙ some in cc)
      | inr other ↦ sym other
    ]
nothing_left front text (Some []) e = sym ((bytes_eq-Decides text front).1 (taken front text [] e ∙ append-nil front))
nothing_left front text (Some (c ∷ rest)) e =
    elim (cases_Bool (bytes_eq text front)) [
      | inl same ↦ absurd (let is : front ≡ front ++ c ∷ rest = sym ((bytes_eq-Decides text front).0 same) ∙ taken front text (c ∷ rest) e in endless front c rest is)
      | inr other ↦ ne_eqb (length (c ∷ rest)) 0 (λ none. omega (arith, none)) ∙ sym other
    ]
  where
    endless : (front : List ℕ) (c : ℕ) (rest : List ℕ) → front ≡ front ++ c ∷ rest → ⊥
    endless [] c rest e = cc
    endless (b ∷ front) c rest e = let tail : front ≡ front ++ c ∷ rest = cc in endless front c rest tail

-- a text is the front where nothing is left behind it
whole : (front text : List ℕ) → is_whole (rest_behind front text) ≡ bytes_eq text front
whole front text = nothing_left front text (rest_behind front text) refl

pub whole_word : (word : PathWord) (text : List ℕ) → is_whole (rest_behind_word word text) ≡ bytes_eq text (path_word word)
whole_word word text = ap is_whole (by_pieces word text) ∙ whole (path_word word) text
