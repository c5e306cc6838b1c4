-- The words of a program's data and its cells lie in order, and are few.
use Rattle.std.proofs.Common.{◌≡◌, ℕ, zero, suc, ◌+◌, ◌^◌, ◌<◌, ◌≤◌, List, [], ◌∷◌, ◌++◌, length, map, refl, sym, ap, subst, Bool, true, false, cond, arith, inl, inr, length-append}
use Rattle.std.specs.{Prelude.Contains, Prelude.nat_eq, Prelude.◌⊎◌, List.AllByRecursion, List.sum_by, List.range_with_len, List.Sorted.IsStrictlyIncreasing}
use Rattle.std.proofs.lemmas.{Bool.eqb-false as different, List.Elements.Contains-append_cases, List.Sums.sum_by-cons}
use Rattle.oat_parts.specs.{InitWord, Symbols.Rises}
use Rattle.oat_parts.proofs.{Lists.not_in_none, Lists.first_in, Lists.later_in, Lists.only_in, Lists.of_map, Lists.rises_join, Lists.map_length, Orders.increasing}
use Rattle.oat_check.specs.{GlobalItem, Scalar, CriticalArray, Globals.size_in_words, Globals.size_in_cells, Globals.start_of, Globals.cell_words}
use Rattle.oat_symbols.specs.Programs.{word_at_start, words_from}

-- these lie between two bounds by their numbers, rise, and are few
pub record Between {X : Type 0} (key : X → ℕ) (low high : ℕ) (xs : List X) : Type 0 where
  pub are : (x : X) → Contains xs x → (low ≤ key x) × (key x < high)
  pub rise : Rises key xs
  pub few : length xs + low ≤ high

none_between : {X : Type 0} (key : X → ℕ) (low high : ℕ) → low ≤ high → Between key low high []
none_between key low high up = record { are = λ x has. absurd (not_in_none x has); rise = tt; few = omega arith }

one_between : {X : Type 0} (key : X → ℕ) (low high : ℕ) (x : X) → low ≤ key x → key x < high → Between key low high (x ∷ [])
one_between key low high x from to = record {
  are = λ y has. let same : x ≡ y = only_in x y has.0 has.1 has.2 in subst (λ z. (low ≤ key z) × (key z < high)) same (from, to);
  rise = (λ y has. absurd (not_in_none y has), tt);
  few = omega arith;
}

between_both : {X : Type 0} (key : X → ℕ) (low mid high : ℕ) (xs ys : List X) → Between key low mid xs → Between key mid high ys → Between key low high (xs ++ ys)
between_both key low mid high xs ys first second =
    let p = first.few in
    let q = second.few in
    record {
      are = λ x has. elim (Contains-append_cases xs ys x has) [
        | inl one ↦ let r = first.are x one in let a = r.0 in let b = r.1 in (a, omega arith)
        | inr two ↦ let r = second.are x two in let a = r.0 in let b = r.1 in (omega arith, b)
      ];
      rise = rises_join key xs ys first.rise second.rise (λ x y has also. let a = (first.are x has).1 in let b = (second.are y also).0 in omega arith);
      few = omega (arith, length-append xs ys);
    }

start_fits : (item : GlobalItem) → start_of item < 2 ^ 64
start_fits (Scalar name start critical) = omega arith
start_fits _ = omega arith

-- an item with a value has a word
has_word : (item : GlobalItem) → (start_of item ≡ 0) ⊎ (1 ≤ size_in_words item)
has_word (Scalar name start critical) = inr (omega arith)
has_word _ = inl refl

one_word : (n value size : ℕ) (b : Bool) → nat_eq value 0 ≡ b → (value ≡ 0) ⊎ (1 ≤ size) → Between (λ (w : InitWord). w.index) n (n + size) (cond b [] (record { index = n; value = value } ∷ []))
one_word n value size true e some = none_between (λ (w : InitWord). w.index) n (n + size) (omega arith)
one_word n value size false e (inl none) = absurd (different value 0 e none)
one_word n value size false e (inr some) = one_between (λ (w : InitWord). w.index) n (n + size) (record { index = n; value = value }) (omega arith) (omega arith)

pub words_between : (n : ℕ) (items : List GlobalItem) → Between (λ (w : InitWord). w.index) n (n + sum_by size_in_words items) (words_from n items)
words_between n [] = none_between (λ (w : InitWord). w.index) n (n + 0) (omega arith)
words_between n (item ∷ items) =
    let size = size_in_words item in
    let e : n + size + sum_by size_in_words items ≡ n + sum_by size_in_words (item ∷ items) = omega (arith, sum_by-cons size_in_words item items) in
    subst (λ (high : ℕ). Between (λ (w : InitWord). w.index) n high (words_from n (item ∷ items))) e
    (between_both (λ (w : InitWord). w.index) n (n + size) (n + size + sum_by size_in_words items) (word_at_start n (start_of item)) (words_from (n + size) items)
    (one_word n (start_of item) size (nat_eq (start_of item) 0) refl (has_word item)) (words_between (n + size) items))

set_word : (n value : ℕ) (b : Bool) → nat_eq value 0 ≡ b → value < 2 ^ 64 → (w : InitWord) → Contains (cond b [] (record { index = n; value = value } ∷ [])) w → (1 ≤ w.value) × (w.value < 2 ^ 64)
set_word n value true e fits w has = absurd (not_in_none w has)
set_word n value false e fits w has =
    let same : record { index = n; value = value } ≡ w = only_in (record { index = n; value = value }) w has.0 has.1 has.2 in
    subst (λ (v : InitWord). (1 ≤ v.value) × (v.value < 2 ^ 64)) same (some value (different value 0 e), fits) where
      some : (v : ℕ) → (v ≡ 0 → ⊥) → 1 ≤ v
      some zero out = absurd (out refl)
      some (suc v) out = omega arith

pub words_set : (n : ℕ) (items : List GlobalItem) (w : InitWord) → Contains (words_from n items) w → (1 ≤ w.value) × (w.value < 2 ^ 64)
words_set n [] w has = absurd (not_in_none w has)
words_set n (item ∷ items) w has =
    elim (Contains-append_cases (word_at_start n (start_of item)) (words_from (n + size_in_words item) items) w has) [
      | inl here ↦ set_word n (start_of item) (nat_eq (start_of item) 0) refl (start_fits item) w here
      | inr later ↦ words_set (n + size_in_words item) items w later
    ]

cells_few : (item : GlobalItem) → size_in_cells item ≤ size_in_words item
cells_few (Scalar name start true) = omega arith
cells_few (Scalar name start false) = omega arith
cells_few (CriticalArray name len) = omega arith
cells_few _ = omega arith

range_between : (n k : ℕ) → Between (λ c. c) n (n + k) (range_with_len n k)
range_between n zero = none_between (λ c. c) n (n + 0) (omega arith)
range_between n (suc k) =
    let e : n + 1 + k ≡ n + suc k = omega arith in
    subst (λ (high : ℕ). Between (λ c. c) n high (range_with_len n (suc k))) e
    (between_both (λ c. c) n (n + 1) (n + 1 + k) (n ∷ []) (range_with_len (n + 1) k) (one_between (λ c. c) n (n + 1) n (omega arith) (omega arith)) (range_between (n + 1) k))

rises_shifted : (by : ℕ) (xs : List ℕ) → Rises (λ c. c) xs → Rises (λ c. c) (map (λ c. by + c) xs)
rises_shifted by [] rises = tt
rises_shifted by (x ∷ xs) rises =
    (λ y has. let r = of_map (λ c. by + c) xs y has in let e = r.2 in let less : x < r.0 = rises.0 r.0 r.1 in omega arith, rises_shifted by xs rises.1)

shifted : (by high : ℕ) (xs : List ℕ) → Between (λ c. c) 0 high xs → Between (λ c. c) by (by + high) (map (λ c. by + c) xs)
shifted by high xs b =
    let f = b.few in
    record {
      are = λ y has. let r = of_map (λ c. by + c) xs y has in let e = r.2 in let less = (b.are r.0 r.1).1 in (omega arith, omega arith);
      rise = rises_shifted by xs b.rise;
      few = let n = map_length (λ c. by + c) xs in omega arith;
    }

widened : (high more : ℕ) (xs : List ℕ) → high ≤ more → Between (λ c. c) 0 high xs → Between (λ c. c) 0 more xs
widened high more xs up b = let f = b.few in record { are = λ y has. let r = b.are y has in let less = r.1 in (r.0, omega arith); rise = b.rise; few = omega arith }

pub cells_between : (items : List GlobalItem) → Between (λ c. c) 0 (sum_by size_in_words items) (cell_words items)
cells_between [] = none_between (λ c. c) 0 0 (omega arith)
cells_between (item ∷ items) =
    let size = size_in_words item in
    let e : size + sum_by size_in_words items ≡ sum_by size_in_words (item ∷ items) = sym (sum_by-cons size_in_words item items) in
    subst (λ (high : ℕ). Between (λ c. c) 0 high (cell_words (item ∷ items))) e
    (between_both (λ c. c) 0 size (size + sum_by size_in_words items) (range_with_len 0 (size_in_cells item)) (map (λ word. size + word) (cell_words items))
    (widened (0 + size_in_cells item) size (range_with_len 0 (size_in_cells item)) (let f = cells_few item in omega arith) (range_between 0 (size_in_cells item)))
    (shifted size (sum_by size_in_words items) (cell_words items) (cells_between items)))

pub all_by : {A : Type 0} (P : A → Type 0) (xs : List A) → ((x : A) → Contains xs x → P x) → AllByRecursion P xs
all_by P [] each = tt
all_by P (x ∷ xs) each = (each x (first_in x xs), all_by P xs (λ y has. each y (later_in x xs y has)))

pub rises_map : {A : Type 0} (g : A → ℕ) (xs : List A) → Rises g xs → Rises (λ n. n) (map g xs)
rises_map g [] rises = tt
rises_map g (x ∷ xs) rises =
    (λ y has. let r = of_map g xs y has in subst (λ (n : ℕ). g x < n) r.2 (rises.0 r.0 r.1), rises_map g xs rises.1)

map_same : (xs : List ℕ) → map (λ n. n) xs ≡ xs
map_same [] = refl
map_same (x ∷ xs) = ap (λ (ns : List ℕ). x ∷ ns) (map_same xs)

pub rising : (xs : List ℕ) → Rises (λ n. n) xs → IsStrictlyIncreasing xs
rising xs rises = subst (λ (ns : List ℕ). IsStrictlyIncreasing ns) (map_same xs) (increasing (λ n. n) (λ n. n) xs (λ x y less. less) rises)
