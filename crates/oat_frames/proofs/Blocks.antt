-- The code of a block, cut into lines.
use Rattle.std.proofs.Common.{◌≡◌, ◌+◌, ◌*◌, ◌<◌, ◌≤◌, ℕ, zero, suc, List, [], ◌∷◌, length, take, Some, refl, sym, ap, subst, ◌∙◌, arith}
use Rattle.std.specs.List.{slice_get}
use Rattle.std.proofs.lemmas.Option.{slice_get_within}
use Rattle.oat_asm.specs.{declared.item.Item.Item, Items.words_needed}
use Rattle.oat_asm.proofs.StandingItems.{words_of_two, stand_in_two}
use Rattle.oat_frames.specs.{Code.CodeStands, Frames.World, Frames.line_address, Lines.lines_code, Lines.words_before_line, Lines.LinesStand, Lines.WordsAddUp}

-- the words before line l, and of it
words-step : (codes : List (List Item)) (l : ℕ) (is : List Item) → slice_get codes l ≡ Some is → words_before_line codes (l + 1) ≡ words_before_line codes l + words_needed is
words-step [] l is h = absurd (cc)
words-step (c ∷ cs) zero is h =
    let same : c ≡ is = cc in
    words_of_two c [] ∙ ap (λ (js : List Item). words_needed js + 0) same ∙ turn (words_needed is) where
      turn : (n : ℕ) → n + 0 ≡ 0 + n
      turn n = omega arith
words-step (c ∷ cs) (suc l) is h =
    let rest = words-step cs l is h in
    ap (words_before_line (c ∷ cs)) (next l) ∙ words_of_two c (lines_code (take (l + 1) cs)) ∙ ap (λ (n : ℕ). words_needed c + n) rest
    ∙ group (words_needed c) (words_before_line cs l) (words_needed is) ∙ ap (λ (n : ℕ). n + words_needed is) (sym (words_of_two c (lines_code (take l cs)))) where
      next : (l : ℕ) → suc l + 1 ≡ suc (l + 1)
      next l = omega arith

      group : (a b c : ℕ) → a + (b + c) ≡ a + b + c
      group a b c = omega arith

line-stands : (w : World) (codes : List (List Item)) (l p : ℕ) (is : List Item) → CodeStands w p (lines_code codes) → slice_get codes l ≡ Some is → CodeStands w (p + 4 * words_before_line codes l) is
line-stands w [] l p is all h = absurd (cc)
line-stands w (c ∷ cs) zero p is all h =
    let same : c ≡ is = cc in
    let e : p ≡ p + 4 * 0 = omega arith in
    subst (λ (t : ℕ). CodeStands w t is) e (subst (λ (js : List Item). CodeStands w p js) same (stand_in_two w.image w.label p c (lines_code cs) all).0)
line-stands w (c ∷ cs) (suc l) p is all h =
    let rest = line-stands w cs l (p + 4 * words_needed c) is (stand_in_two w.image w.label p c (lines_code cs) all).1 h in
    subst (λ (t : ℕ). CodeStands w t is) (later p (words_needed c) (words_before_line cs l) (words_before_line (c ∷ cs) (suc l)) (words_of_two c (lines_code (take l cs)))) rest where
      later : (p a b c : ℕ) → c ≡ a + b → p + 4 * a + 4 * b ≡ p + 4 * c
      later p a b c e = omega arith

pub lines-stand : LinesStand
lines-stand w f label codes is this at =
    let p : ℕ = w.label label in
    let inside : f.line < length codes = slice_get_within codes f.line is at in
    let here : line_address w f ≡ p + 4 * words_before_line codes f.line = this.places f.line (omega arith) in
    record {
      code = subst (λ (t : ℕ). CodeStands w t is) (sym here) (line-stands w codes f.line p is this.stands at);
      next = step (line_address w f) (w.place f.func f.block (f.line + 1)) p (words_before_line codes f.line) (words_before_line codes (f.line + 1)) (words_needed is) here
          (this.places (f.line + 1) (omega arith)) (words-step codes f.line is at);
    } where
      step : (a b p n k d : ℕ) → a ≡ p + 4 * n → b ≡ p + 4 * k → k ≡ n + d → b ≡ a + 4 * d
      step a b p n k d h l e = omega arith

pub words-add-up : WordsAddUp
words-add-up n [] few = omega arith
words-add-up n (c ∷ cs) few =
    let first : words_needed c ≤ n = few 0 c refl in
    let rest : words_needed (lines_code cs) ≤ n * length cs = words-add-up n cs (λ l is h. few (suc l) is h) in
    let both : words_needed (lines_code (c ∷ cs)) ≡ words_needed c + words_needed (lines_code cs) = words_of_two c (lines_code cs) in
    omega (arith, first, rest, both)
