-- Where `main` is among the functions of a checked program, and how many functions and blocks it has.
use Rattle.std.proofs.Common.{◌≡◌, ◌+◌, ◌-◌, ◌^◌, ◌<◌, ◌≤◌, ◌||◌, ℕ, zero, suc, Bool, true, false, cond, List, [], ◌∷◌, ◌++◌, length, get_or, take, drop, Option, Some, None, refl, sym, ap, ◌∙◌, arith}
use Rattle.std.proofs.Common.{length-append}
use Rattle.std.specs.{Prelude.position, Prelude.nat_lt, Prelude.slice_get, List.flat_map, List.list_any, List.position_or_len, List.sum_by}
use Rattle.std.proofs.lemmas.{Bool.lt-ltb, List.Recursion.is_position_or_len, List.Sums.sum_by-cons}
use Rattle.oat_check.proofs.Checking.{keeps_rules}
use Rattle.oat_match.specs.{Program, Func, BlockIr, block_size, func_size, IsChecked, is_main, main_number, block_names, main_at}
use Rattle.oat_build.proofs.SymbolLists.{count_more, count_least, count_back}

pub main_is : (funcs : List Func) → main_number funcs ≡ position_or_len is_main funcs
main_is funcs = is_position_or_len main_number is_main refl (λ f fs. step (is_main f) (main_number fs)) funcs where
  step : (b : Bool) (n : ℕ) → cond b 0 (suc n) ≡ cond b 0 (1 + n)
  step true n = refl
  step false n = omega arith

below : (funcs : List Func) → list_any is_main funcs ≡ true → main_number funcs < length funcs
below [] some = absurd (cc)
below (f ∷ fs) some = by (is_main f) (list_any is_main fs) some (below fs) where
  by : (b c : Bool) → (b || c) ≡ true → (c ≡ true → main_number fs < length fs) → cond b 0 (suc (main_number fs)) < suc (length fs)
  by true c h rest = omega arith
  by false c h rest = omega (arith, rest h)

pub main_within : (p : Program) → IsChecked p → main_at p < length p.funcs
main_within p ok = let r = below p.funcs (keeps_rules p ok.accepted).main in let same = main_is p.funcs in omega arith

pub main_found : (p : Program) → IsChecked p → position is_main p.funcs ≡ Some (main_at p)
main_found p ok = ap (λ (b : Bool). cond b (Some (main_at p)) None) (lt-ltb (main_at p) (length p.funcs) (main_within p ok))

-- ---- numbers of 32 bits are enough

blocks_few : (blocks : List BlockIr) → length blocks ≤ sum_by block_size blocks
blocks_few [] = omega arith
blocks_few (b ∷ bs) = let sum = sum_by-cons block_size b bs in omega (arith, sum, blocks_few bs)

funcs_few : (funcs : List Func) → length funcs + length (flat_map block_names funcs) ≤ sum_by func_size funcs
funcs_few [] = omega arith
funcs_few (f ∷ fs) =
    let sum = sum_by-cons func_size f fs in
    let all = length-append (block_names f) (flat_map block_names fs) in
    let own = blocks_few f.blocks in
    let named = many f.blocks in
    omega (arith, sum, all, own, named, funcs_few fs) where
      many : (blocks : List BlockIr) → length (block_names (record f { blocks = blocks })) ≡ length blocks
      many [] = refl
      many (b ∷ bs) = ap suc (many bs)

pub labels_few : (p : Program) → IsChecked p → length p.funcs + length (flat_map block_names p.funcs) ≤ 67108864
labels_few p ok = let size = ok.well_formed.size in let few = funcs_few p.funcs in omega arith

-- ---- main, as it is found

pub record MainFound (p : Program) (funcs : List Func) (m : ℕ) : Type 0 where
  pub same : funcs ≡ p.funcs
  pub many : length funcs ≡ length p.funcs
  pub is : m ≡ main_at p
  pub within : m < length funcs
  pub few : length funcs + length (flat_map block_names funcs) ≤ 67108864
  pub few_of : length p.funcs + length (flat_map block_names p.funcs) ≤ 67108864

pub found_main : (p : Program) → IsChecked p → (funcs : List Func) (o : Option ℕ) (m : ℕ) → funcs ≡ p.funcs → o ≡ position is_main funcs → o ≡ Some m → MainFound p funcs m
found_main p ok funcs o m same by is =
    let at : Some m ≡ Some (main_at p) = sym is ∙ by ∙ ap (position is_main) same ∙ main_found p ok in
    let main : m ≡ main_at p = cc in
    let within = main_within p ok in
    let long : length funcs ≡ length p.funcs = ap length same in
    let few = labels_few p ok in
    let blocks : length (flat_map block_names funcs) ≡ length (flat_map block_names p.funcs) = ap (λ (gs : List Func). length (flat_map block_names gs)) same in
    record { same = same; many = long; is = main; within = omega arith; few = omega arith; few_of = few }

pub main_there : (p : Program) → IsChecked p → (funcs : List Func) (o : Option ℕ) → funcs ≡ p.funcs → o ≡ position is_main funcs → o ≡ Some (main_at p)
main_there p ok funcs o same by = by ∙ ap (position is_main) same ∙ main_found p ok

-- ---- labels of the functions before main, of main, and of those behind it

pub record LabelsFit (p : Program) (funcs : List Func) (m before own : ℕ) : Type 0 where
  pub to_main : before ≡ length (flat_map block_names (take m p.funcs))
  pub behind_main : length funcs + before + own ≡ length funcs + length (flat_map block_names (take (m + 1) p.funcs))
  pub fits : length funcs + before + own ≤ 67108864
  pub main : length funcs + before + length (flat_map block_names (take (m + 1 - m) (drop m p.funcs))) < 2 ^ 32
  pub front : length funcs + length (flat_map block_names (take (m - 0) p.funcs)) < 2 ^ 32
  pub back : length funcs + before + own + length (flat_map block_names (take (length funcs - (m + 1)) (drop (m + 1) p.funcs))) < 2 ^ 32

pub labels_fit : (p : Program) (funcs : List Func) (m before own : ℕ) (func : Func) → MainFound p funcs m → before ≡ length (flat_map block_names (take m funcs)) → func ≡ get_or funcs m func → own ≡ length func.blocks
    → LabelsFit p funcs m before own
labels_fit p funcs m before own func f counted is owned =
    let few = f.few in
    let few_of = f.few_of in
    let more = count_more funcs m func f.within is in
    let least = count_least funcs (m + 1) in
    let one = count_least (drop m p.funcs) (m + 1 - m) in
    let one_of = count_back p.funcs m in
    let front = count_least p.funcs (m - 0) in
    let back = count_least (drop (m + 1) p.funcs) (length funcs - (m + 1)) in
    let back_of = count_back p.funcs (m + 1) in
    let long = f.many in
    let same : length (flat_map block_names (take m funcs)) ≡ length (flat_map block_names (take m p.funcs)) = ap (λ (gs : List Func). length (flat_map block_names (take m gs))) f.same in
    let next : length (flat_map block_names (take (m + 1) funcs)) ≡ length (flat_map block_names (take (m + 1) p.funcs)) = ap (λ (gs : List Func). length (flat_map block_names (take (m + 1) gs))) f.same in
    record { to_main = omega arith; behind_main = omega arith; fits = omega arith; main = omega arith; front = omega arith; back = omega arith }
