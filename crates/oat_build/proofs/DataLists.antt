-- The cells of some globals, numbered from the words before them.
use Rattle.std.proofs.Common.{◌≡◌, ◌+◌, ◌<◌, ◌≤◌, ℕ, zero, suc, List, [], ◌∷◌, ◌++◌, length, get_or, drop, map, refl, sym, ap, ◌∙◌, arith, append_assoc, drop-cons}
use Rattle.std.specs.List.{range_with_len, sum_by}
use Rattle.std.proofs.lemmas.List.Sums.{sum_by-cons}
use Rattle.oat_match.specs.{GlobalItem, cell_words, size_in_cells, size_in_words}

range_moved : (first a b n : ℕ) → first + a ≡ b → map (λ (word : ℕ). first + word) (range_with_len a n) ≡ range_with_len b n
range_moved first a b zero is = refl
range_moved first a b (suc n) is = ap (λ (k : ℕ). k ∷ map (λ (word : ℕ). first + word) (range_with_len (a + 1) n)) is ∙ ap (λ (rest : List ℕ). b ∷ rest) (range_moved first (a + 1) (b + 1) n (omega arith))

pub range_more : (a n : ℕ) → range_with_len a (n + 1) ≡ range_with_len a n ++ (a + n) ∷ []
range_more a n = ap (range_with_len a) (one n) ∙ longer a n where
  one : (n : ℕ) → n + 1 ≡ suc n
  one n = omega arith

  longer : (a n : ℕ) → range_with_len a (suc n) ≡ range_with_len a n ++ (a + n) ∷ []
  longer a zero = ap (λ (k : ℕ). k ∷ []) (omega arith)
  longer a (suc n) = ap (λ (rest : List ℕ). a ∷ rest) (longer (a + 1) n) ∙ ap (λ (k : ℕ). a ∷ (range_with_len (a + 1) n ++ k ∷ [])) (omega arith)

map_join : (f : ℕ → ℕ) (xs ys : List ℕ) → map f (xs ++ ys) ≡ map f xs ++ map f ys
map_join f [] ys = refl
map_join f (x ∷ xs) ys = ap (λ (rest : List ℕ). f x ∷ rest) (map_join f xs ys)

map_moved : (first size : ℕ) (xs : List ℕ) → map (λ (word : ℕ). first + word) (map (λ (word : ℕ). size + word) xs) ≡ map (λ (word : ℕ). first + size + word) xs
map_moved first size [] = refl
map_moved first size (x ∷ xs) =
    ap (λ (k : ℕ). k ∷ map (λ (word : ℕ). first + word) (map (λ (word : ℕ). size + word) xs)) (sum first size x) ∙ ap (λ (rest : List ℕ). (first + size + x) ∷ rest) (map_moved first size xs) where
      sum : (a b c : ℕ) → a + (b + c) ≡ a + b + c
      sum a b c = omega arith

-- those of the first global, and those of the others behind its words
pub cells_of_first : (first : ℕ) (item : GlobalItem) (items : List GlobalItem)
    → map (λ (word : ℕ). first + word) (cell_words (item ∷ items)) ≡ range_with_len first (size_in_cells item) ++ map (λ (word : ℕ). first + size_in_words item + word) (cell_words items)
cells_of_first first item items =
    map_join (λ (word : ℕ). first + word) (range_with_len 0 (size_in_cells item)) (map (λ (word : ℕ). size_in_words item + word) (cell_words items))
    ∙ ap (λ (front : List ℕ). front ++ map (λ (word : ℕ). first + word) (map (λ (word : ℕ). size_in_words item + word) (cell_words items))) (range_moved first 0 first (size_in_cells item) (omega arith))
    ∙ ap (λ (rest : List ℕ). range_with_len first (size_in_cells item) ++ rest) (map_moved first (size_in_words item) (cell_words items))

-- ---- one global more

pub drop_next : {X : Type 0} (xs : List X) (i : ℕ) (x : X) → i < length xs → x ≡ get_or xs i x → drop i xs ≡ x ∷ drop (i + 1) xs
drop_next xs i x less is =
    let one : suc i ≡ i + 1 = omega arith in
    drop-cons xs i x less ∙ ap (λ y. y ∷ drop (suc i) xs) (sym is) ∙ ap (λ (n : ℕ). x ∷ drop n xs) one

pub cells_step : (globals : List GlobalItem) (i first count size : ℕ) (item : GlobalItem) (old new all : List ℕ) → drop i globals ≡ item ∷ drop (i + 1) globals → new ≡ old ++ range_with_len first count
    → count ≡ size_in_cells item → size ≡ size_in_words item → old ++ map (λ (word : ℕ). first + word) (cell_words (drop i globals)) ≡ all
    → new ++ map (λ (word : ℕ). first + size + word) (cell_words (drop (i + 1) globals)) ≡ all
cells_step globals i first count size item old new all split pushed cells words before =
    let rest = drop (i + 1) globals in
    ap (λ (xs : List ℕ). xs ++ map (λ (word : ℕ). first + size + word) (cell_words rest)) pushed
    ∙ append_assoc old (range_with_len first count) (map (λ (word : ℕ). first + size + word) (cell_words rest))
    ∙ ap (λ (n : ℕ). old ++ (range_with_len first n ++ map (λ (word : ℕ). first + size + word) (cell_words rest))) cells
    ∙ ap (λ (n : ℕ). old ++ (range_with_len first (size_in_cells item) ++ map (λ (word : ℕ). first + n + word) (cell_words rest))) words
    ∙ sym (ap (λ (xs : List ℕ). old ++ xs) (cells_of_first first item rest))
    ∙ sym (ap (λ (xs : List GlobalItem). old ++ map (λ (word : ℕ). first + word) (cell_words xs)) split)
    ∙ before

pub words_left : (globals : List GlobalItem) (i first size : ℕ) (item : GlobalItem) → drop i globals ≡ item ∷ drop (i + 1) globals → size ≡ size_in_words item
    → first + sum_by size_in_words (drop i globals) ≤ 65536 → first + size + sum_by size_in_words (drop (i + 1) globals) ≤ 65536
words_left globals i first size item split words few =
    let sum : sum_by size_in_words (drop i globals) ≡ size_in_words item + sum_by size_in_words (drop (i + 1) globals) = ap (sum_by size_in_words) split ∙ sum_by-cons size_in_words item (drop (i + 1) globals) in
    omega arith
