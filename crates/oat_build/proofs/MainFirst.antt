-- Where the code and the symbol of a function stand in the order of code, `main` first.
use Rattle.std.proofs.Common.{◌≡◌, ◌+◌, ◌-◌, ◌<◌, ◌≤◌, ℕ, zero, suc, List, [], ◌∷◌, ◌++◌, length, get_or, take, drop, Some, refl, sym, ap, subst, ◌∙◌, inl, inr, arith, length-take-le, length-append}
use Rattle.std.specs.{Prelude.slice_get, Prelude.◌⊎◌, List.flat_map}
use Rattle.std.proofs.lemmas.{Bool.cases_lt, Option.slice_get-get_or, Option.slice_get_within}
use Rattle.oat_asm.proofs.Giving.{get_right}
use Rattle.oat_parts.proofs.Lists.{get_before}
use Rattle.oat_match.specs.{Program, Func, FunctionSymbol, FunctionCode, block_names, symbol_for, symbols_from, symbols_of, all_symbols, main_at, with_first, codes_from, codes_of}

-- ---- any list

alone : {X : Type 0} (xs : List X) (m : ℕ) (y : X) → slice_get xs m ≡ Some y → take 1 (drop m xs) ≡ y ∷ []
alone [] m y is = absurd (cc)
alone (x ∷ xs) zero y is = let same : x ≡ y = cc in ap (λ z. z ∷ []) same
alone (x ∷ xs) (suc m) y is = alone xs m y is

taken : {X : Type 0} (xs : List X) (m i : ℕ) → i < m → slice_get (take m xs) i ≡ slice_get xs i
taken xs zero i less = absurd (omega arith)
taken [] (suc m) i less = refl
taken (x ∷ xs) (suc m) zero less = refl
taken (x ∷ xs) (suc m) (suc i) less = taken xs m i (omega arith)

dropped : {X : Type 0} (xs : List X) (m i j : ℕ) → j ≡ m + i → slice_get (drop m xs) i ≡ slice_get xs j
dropped xs zero i j is = ap (slice_get xs) (omega arith)
dropped [] (suc m) i j is = refl
dropped (x ∷ xs) (suc m) i zero is = absurd (omega arith)
dropped (x ∷ xs) (suc m) i (suc j) is = dropped xs m i j (omega arith)

module _ {X : Type 0} (m : ℕ) (xs : List X) where
  at_main : (x : X) → slice_get xs m ≡ Some x → slice_get (with_first m xs) 0 ≡ Some x
  at_main x is = ap (λ ys. slice_get (ys ++ (take m xs ++ drop (m + 1) xs)) 0) (alone xs m x is)

  before_main : (f : ℕ) (x y : X) → slice_get xs m ≡ Some y → f < m → slice_get xs f ≡ Some x → slice_get (with_first m xs) (suc f) ≡ Some x
  before_main f x y main less is =
      let within = slice_get_within xs m y main in
      let long : length (take m xs) ≡ m = length-take-le m xs (omega arith) in
      ap (λ ys. slice_get (ys ++ (take m xs ++ drop (m + 1) xs)) (suc f)) (alone xs m y main)
      ∙ get_before (take m xs) (drop (m + 1) xs) f (omega arith) ∙ taken xs m f less ∙ is

  behind_main : (f : ℕ) (x y : X) → slice_get xs m ≡ Some y → m ≤ f → slice_get xs (suc f) ≡ Some x → slice_get (with_first m xs) (suc f) ≡ Some x
  behind_main f x y main more is =
      let within = slice_get_within xs m y main in
      let long : length (take m xs) ≡ m = length-take-le m xs (omega arith) in
      ap (λ ys. slice_get (ys ++ (take m xs ++ drop (m + 1) xs)) (suc f)) (alone xs m y main)
      ∙ get_right (take m xs) (drop (m + 1) xs) (f - m) f (omega arith) ∙ dropped xs (m + 1) (f - m) (suc f) (omega arith) ∙ is

-- of two lists of one length, the two things of one place stand at one place
pub record StandAlike {X Y : Type 0} (m : ℕ) (xs : List X) (ys : List Y) (x : X) (y : Y) : Type 0 where
  pub k : ℕ
  pub first : slice_get (with_first m xs) k ≡ Some x
  pub second : slice_get (with_first m ys) k ≡ Some y

stand_alike : {X Y : Type 0} (m f : ℕ) (xs : List X) (ys : List Y) (x a : X) (y b : Y) → slice_get xs m ≡ Some a → slice_get ys m ≡ Some b → slice_get xs f ≡ Some x → slice_get ys f ≡ Some y → StandAlike m xs ys x y
stand_alike m f xs ys x a y b one two first second = elim (cases_lt f m) [
  | inl less ↦ record { k = suc f; first = before_main m xs f x a one less first; second = before_main m ys f y b two less second }
  | inr most ↦ elim (cases_lt m f) [
    | inl more ↦
        let next : f ≡ suc (f - 1) = omega arith in
        record {
          k = suc (f - 1);
          first = behind_main m xs (f - 1) x a one (omega arith) (subst (λ (n : ℕ). slice_get xs n ≡ Some x) next first);
          second = behind_main m ys (f - 1) y b two (omega arith) (subst (λ (n : ℕ). slice_get ys n ≡ Some y) next second);
        }
    | inr few ↦
        let same : f ≡ m = omega arith in
        record {
          k = 0;
          first = at_main m xs x (subst (λ (n : ℕ). slice_get xs n ≡ Some x) same first);
          second = at_main m ys y (subst (λ (n : ℕ). slice_get ys n ≡ Some y) same second);
        }
  ]
]

-- ---- symbols and code

symbol_at : (p : Program) (f n : ℕ) (funcs : List Func) (k : ℕ) (func : Func) → slice_get funcs k ≡ Some func → slice_get (symbols_from p f n funcs) k ≡ Some (symbol_for p (f + k) (n + length (flat_map block_names (take k funcs))) func)
symbol_at p f n [] k func is = absurd (cc)
symbol_at p f n (g ∷ gs) zero func is =
    let same : g ≡ func = cc in
    let a : f ≡ f + 0 = omega arith in
    let b : n ≡ n + 0 = omega arith in
    ap (λ (h : Func). Some (symbol_for p f n h)) same ∙ ap (λ (i : ℕ). Some (symbol_for p i n func)) a ∙ ap (λ (i : ℕ). Some (symbol_for p (f + 0) i func)) b
symbol_at p f n (g ∷ gs) (suc k) func is =
    let count = length-append (block_names g) (flat_map block_names (take k gs)) in
    let a : f + 1 + k ≡ f + suc k = omega arith in
    let b : n + length (block_names g) + length (flat_map block_names (take k gs)) ≡ n + length (flat_map block_names (take (suc k) (g ∷ gs))) = omega arith in
    symbol_at p (f + 1) (n + length (block_names g)) gs k func is
    ∙ ap (λ (i : ℕ). Some (symbol_for p i (n + length (block_names g) + length (flat_map block_names (take k gs))) func)) a
    ∙ ap (λ (i : ℕ). Some (symbol_for p (f + suc k) i func)) b

code_at : (code : ℕ → Func → FunctionCode) (f : ℕ) (funcs : List Func) (k : ℕ) (func : Func) → slice_get funcs k ≡ Some func → slice_get (codes_from code f funcs) k ≡ Some (code (f + k) func)
code_at code f [] k func is = absurd (cc)
code_at code f (g ∷ gs) zero func is =
    let same : g ≡ func = cc in
    let one : f ≡ f + 0 = omega arith in
    ap (λ (h : Func). Some (code f h)) same ∙ ap (λ (n : ℕ). Some (code n func)) one
code_at code f (g ∷ gs) (suc k) func is =
    let one : f + 1 + k ≡ f + suc k = omega arith in
    code_at code (f + 1) gs k func is ∙ ap (λ (n : ℕ). Some (code n func)) one

-- the symbol of a function, and its code, in the order of code
abbrev pub own_symbol : Program → ℕ → Func → FunctionSymbol
own_symbol p f func = symbol_for p f (length p.funcs + length (flat_map block_names (take f p.funcs))) func

pub function_stands_at : (p : Program) (code : ℕ → Func → FunctionCode) → main_at p < length p.funcs → (f : ℕ) (func : Func) → slice_get p.funcs f ≡ Some func
    → StandAlike (main_at p) (all_symbols p) (codes_from code 0 p.funcs) (own_symbol p f func) (code f func)
function_stands_at p code within f func is =
    let m = main_at p in
    let main = get_or p.funcs m func in
    let main_is : slice_get p.funcs m ≡ Some main = slice_get-get_or p.funcs m func within in
    let none : 0 + f ≡ f = omega arith in
    stand_alike m f (all_symbols p) (codes_from code 0 p.funcs) (own_symbol p f func) (symbol_for p (0 + m) (length p.funcs + length (flat_map block_names (take m p.funcs))) main) (code f func) (code (0 + m) main)
    (symbol_at p 0 (length p.funcs) p.funcs m main main_is) (code_at code 0 p.funcs m main main_is)
    (symbol_at p 0 (length p.funcs) p.funcs f func is ∙ ap (λ (i : ℕ). Some (symbol_for p i (length p.funcs + length (flat_map block_names (take f p.funcs))) func)) none)
    (code_at code 0 p.funcs f func is ∙ ap (λ (i : ℕ). Some (code i func)) none)
