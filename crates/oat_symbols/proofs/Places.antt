-- Where the code of functions and blocks stands.
use Rattle.std.proofs.Common.{◌≡◌, ℕ, zero, suc, ◌+◌, ◌*◌, ◌<◌, ◌≤◌, List, [], ◌∷◌, ◌++◌, length, sym, ap, ◌∙◌, subst, Some, arith}
use Rattle.std.specs.Prelude.{slice_get}
use Rattle.std.proofs.lemmas.List.Concat.{flat_map-append}
use Rattle.oat_asm.proofs.StandingItems.{stand_in_two}
use Rattle.oat_parts.specs.{Item, words_needed, expanded, expansion, ItemsStand, Image, Symbols.FunctionSymbol, Making.FunctionCode, Making.blocks_code, Making.code_from}
use Rattle.oat_symbols.specs.Codes.{FunctionStands, CodesStand, function_words, CodesFollow}
use Rattle.oat_asm.specs.declared.item.Item.TheVariants as item

module _ (i : Image) (at : ℕ → ℕ) where
  -- two lists of items, expanded
  in_two : (p : ℕ) (xs ys : List Item) → ItemsStand i at p (expansion (xs ++ ys)) → ItemsStand i at p (expansion xs) × ItemsStand i at (p + 4 * words_needed (expansion xs)) (expansion ys)
  in_two p xs ys stands =
      stand_in_two i at p (expansion xs) (expansion ys) (subst (λ (is : List Item). ItemsStand i at p is) (flat_map-append expanded xs ys) stands)

  blocks_stand_from : (n b q : ℕ) (bs : List (List Item)) (body : List Item) → ItemsStand i at q (expansion (blocks_code n bs)) → slice_get bs b ≡ Some body → ItemsStand i at (at (n + b)) (expansion body)
  blocks_stand_from n b q [] body stands has = absurd cc
  blocks_stand_from n zero q (x ∷ bs) body stands has =
      let two = in_two q (item.Label n ∷ x) (blocks_code (n + 1) bs) stands in
      let same : x ≡ body = cc in
      let here : q ≡ at (n + 0) = sym two.0.0 ∙ ap at (number n) in
      subst (λ (is : List Item). ItemsStand i at (at (n + 0)) (expansion is)) same (subst (λ (p : ℕ). ItemsStand i at p (expansion x)) here two.0.1) where
        number : (m : ℕ) → m ≡ m + 0
        number m = omega arith
  blocks_stand_from n (suc b) q (x ∷ bs) body stands has =
      let two = in_two q (item.Label n ∷ x) (blocks_code (n + 1) bs) stands in
      let next : n + 1 + b ≡ n + suc b = omega arith in
      subst (λ (m : ℕ). ItemsStand i at (at m) (expansion body)) next (blocks_stand_from (n + 1) b (q + 4 * words_needed (expansion (item.Label n ∷ x))) bs body two.1 has)

  first_block : (n q : ℕ) (bs : List (List Item)) → 1 ≤ length bs → ItemsStand i at q (expansion (blocks_code n bs)) → at n ≡ q
  first_block n q [] some stands = absurd (omega arith)
  first_block n q (x ∷ bs) some stands = (in_two q (item.Label n ∷ x) (blocks_code (n + 1) bs) stands).0.0

  blocks_follow_from : (n b q : ℕ) (bs : List (List Item)) (body : List Item) → ItemsStand i at q (expansion (blocks_code n bs)) → slice_get bs b ≡ Some body → b + 1 < length bs
      → at (n + (b + 1)) ≡ at (n + b) + 4 * words_needed (expansion body)
  blocks_follow_from n b q [] body stands has more = absurd cc
  blocks_follow_from n zero q (x ∷ bs) body stands has more =
      let two = in_two q (item.Label n ∷ x) (blocks_code (n + 1) bs) stands in
      let same : words_needed (expansion x) ≡ words_needed (expansion body) = ap (λ (is : List Item). words_needed (expansion is)) (let e : x ≡ body = cc in e) in
      let here : at n ≡ q = two.0.0 in
      let next : at (n + 1) ≡ q + 4 * words_needed (expansion (item.Label n ∷ x)) = first_block (n + 1) (q + 4 * words_needed (expansion (item.Label n ∷ x))) bs (omega arith) two.1 in
      let one : at (n + (0 + 1)) ≡ at (n + 1) = ap at (let e : n + (0 + 1) ≡ n + 1 = omega arith in e) in
      let none : at (n + 0) ≡ at n = ap at (let e : n + 0 ≡ n = omega arith in e) in
      omega arith
  blocks_follow_from n (suc b) q (x ∷ bs) body stands has more =
      let two = in_two q (item.Label n ∷ x) (blocks_code (n + 1) bs) stands in
      let rest = blocks_follow_from (n + 1) b (q + 4 * words_needed (expansion (item.Label n ∷ x))) bs body two.1 has (omega arith) in
      let one : at (n + (suc b + 1)) ≡ at (n + 1 + (b + 1)) = ap at (let e : n + (suc b + 1) ≡ n + 1 + (b + 1) = omega arith in e) in
      let none : at (n + suc b) ≡ at (n + 1 + b) = ap at (let e : n + suc b ≡ n + 1 + b = omega arith in e) in
      omega arith

  codes_follow_from : (p k : ℕ) (es : List FunctionSymbol) (cs : List FunctionCode) (e next : FunctionSymbol) (c : FunctionCode) → ItemsStand i at p (expansion (code_from es cs))
      → slice_get es k ≡ Some e → slice_get es (suc k) ≡ Some next → slice_get cs k ≡ Some c → suc k < length cs → at next.label ≡ at e.label + 4 * function_words e c
  codes_follow_from p k [] cs e next c stands one two three more = absurd cc
  codes_follow_from p k (d ∷ es) [] e next c stands one two three more = absurd cc
  codes_follow_from p zero (d ∷ []) (b ∷ cs) e next c stands one two three more = absurd cc
  codes_follow_from p zero (d ∷ f ∷ es) (b ∷ []) e next c stands one two three more = absurd (omega arith)
  codes_follow_from p zero (d ∷ f ∷ es) (b ∷ g ∷ cs) e next c stands one two three more =
      let parts = in_two p (item.Label d.label ∷ b.prologue) (blocks_code d.first b.blocks ++ code_from (f ∷ es) (g ∷ cs)) stands in
      let q = p + 4 * words_needed (expansion (item.Label d.label ∷ b.prologue)) in
      let rest = in_two q (blocks_code d.first b.blocks) (code_from (f ∷ es) (g ∷ cs)) parts.1 in
      let behind = in_two (q + 4 * words_needed (expansion (blocks_code d.first b.blocks))) (item.Label f.label ∷ g.prologue) (blocks_code f.first g.blocks ++ code_from es cs) rest.1 in
      let here : at d.label ≡ p = parts.0.0 in
      let there : at f.label ≡ q + 4 * words_needed (expansion (blocks_code d.first b.blocks)) = behind.0.0 in
      let own : at f.label ≡ at d.label + 4 * function_words d b = omega arith in
      let same_e : d ≡ e = cc in
      let same_c : b ≡ c = cc in
      let same_next : f ≡ next = cc in
      subst (λ (z : FunctionSymbol). at z.label ≡ at e.label + 4 * function_words e c) same_next
      (subst (λ (y : FunctionCode). at f.label ≡ at e.label + 4 * function_words e y) same_c (subst (λ (x : FunctionSymbol). at f.label ≡ at x.label + 4 * function_words x b) same_e own))
  codes_follow_from p (suc k) (d ∷ es) (b ∷ cs) e next c stands one two three more =
      let parts = in_two p (item.Label d.label ∷ b.prologue) (blocks_code d.first b.blocks ++ code_from es cs) stands in
      let q = p + 4 * words_needed (expansion (item.Label d.label ∷ b.prologue)) in
      let rest = in_two q (blocks_code d.first b.blocks) (code_from es cs) parts.1 in
      codes_follow_from (q + 4 * words_needed (expansion (blocks_code d.first b.blocks))) k es cs e next c rest.1 one two three (omega arith)

  code_stands_from : (p k : ℕ) (es : List FunctionSymbol) (cs : List FunctionCode) (e : FunctionSymbol) (c : FunctionCode) → ItemsStand i at p (expansion (code_from es cs)) → slice_get es k ≡ Some e → slice_get cs k ≡ Some c → FunctionStands i at e c
  code_stands_from p k [] cs e c stands one two = absurd cc
  code_stands_from p k (d ∷ es) [] e c stands one two = absurd cc
  code_stands_from p zero (d ∷ es) (b ∷ cs) e c stands one two =
      let parts = in_two p (item.Label d.label ∷ b.prologue) (blocks_code d.first b.blocks ++ code_from es cs) stands in
      let q = p + 4 * words_needed (expansion (item.Label d.label ∷ b.prologue)) in
      let rest = in_two q (blocks_code d.first b.blocks) (code_from es cs) parts.1 in
      let here : p ≡ at d.label = sym parts.0.0 in
      let own : FunctionStands i at d b = record {
        prologue_stands = subst (λ (a : ℕ). ItemsStand i at a (expansion b.prologue)) here parts.0.1;
        first = λ some. first_block d.first q b.blocks some rest.0 ∙ omega arith;
        blocks_follow = λ n body has more. blocks_follow_from d.first n q b.blocks body rest.0 has more;
        blocks_stand = λ n body has. blocks_stand_from d.first n q b.blocks body rest.0 has;
      } in
      let same_e : d ≡ e = cc in
      let same_c : b ≡ c = cc in
      subst (λ (y : FunctionCode). FunctionStands i at e y) same_c (subst (λ (x : FunctionSymbol). FunctionStands i at x b) same_e own)
  code_stands_from p (suc k) (d ∷ es) (b ∷ cs) e c stands one two =
      let parts = in_two p (item.Label d.label ∷ b.prologue) (blocks_code d.first b.blocks ++ code_from es cs) stands in
      let q = p + 4 * words_needed (expansion (item.Label d.label ∷ b.prologue)) in
      let rest = in_two q (blocks_code d.first b.blocks) (code_from es cs) parts.1 in
      code_stands_from (q + 4 * words_needed (expansion (blocks_code d.first b.blocks))) k es cs e c rest.1 one two

pub codes_stand : CodesStand
codes_stand i at p k es cs e c stands one two = code_stands_from i at p k es cs e c stands one two

pub codes_follow : CodesFollow
codes_follow i at p k es cs e next c stands one two three more =
    let suc_k : k + 1 ≡ suc k = omega arith in
    codes_follow_from i at p k es cs e next c stands one (subst (λ (m : ℕ). slice_get es m ≡ Some next) suc_k two) three (omega arith)

-- the first function stands where the code begins
pub first_code : (i : Image) (at : ℕ → ℕ) (p : ℕ) (e : FunctionSymbol) (es : List FunctionSymbol) (c : FunctionCode) (cs : List FunctionCode)
    → ItemsStand i at p (expansion (code_from (e ∷ es) (c ∷ cs))) → at e.label ≡ p
first_code i at p e es c cs stands = (in_two i at p (item.Label e.label ∷ c.prologue) (blocks_code e.first c.blocks ++ code_from es cs) stands).0.0
