-- Cells are what the elements of critical globals hold.
use Rattle.std.proofs.Common.{◌++◌, ◌≡◌, ◌+◌, ◌-◌, ◌<◌, ◌≤◌, ℕ, zero, suc, Bool, true, false, cond, ◌&&◌, List, [], ◌∷◌, take, Option, Some, None, refl, sym, ap, subst, ◌∙◌, arith, eqb, ltb, length}
use Rattle.std.proofs.Common.{inl, inr, option_map, map}
use Rattle.std.specs.{Prelude.slice_get, Prelude.is_some, List.sum_by, List.range_with_len, Option.option_and_then}
use Rattle.std.proofs.Math.Path.{fun_ext}
use Rattle.std.proofs.lemmas.{Option.cond_some, Option.same_Some, Option.slice_get-map, Bool.ltb-true, Bool.ltb-false, Bool.lt-ltb, Bool.le-ltb, Bool.ne_eqb, Bool.eq-eqb, Bool.eqb-true}
use Rattle.std.proofs.lemmas.{Bool.eqb-false, Bool.cases_lt, List.Sums.sum_by-cons, List.FromFn.length-range_with_len}
use Rattle.oat_events.specs.Cells.{defined}
use Rattle.oat_ir.specs.{declared.program.GlobalItem.GlobalItem, declared.program.GlobalItem.TheVariants.Scalar, declared.program.GlobalItem.TheVariants.FnScalar}
use Rattle.oat_ir.specs.{declared.program.GlobalItem.TheVariants.Array, declared.program.GlobalItem.TheVariants.CriticalArray}
use Rattle.oat_check.specs.{Globals.Values, Globals.cell_words, Globals.cell_values, Globals.element_number, Globals.element_values, Globals.of_global, Globals.put, Globals.size_in_cells}
use Rattle.oat_check.specs.{Globals.size_in_words, Globals.word_number, Globals.word_values, RunLaws.CellWordsAreThere, RunLaws.CellsAreWords, RunLaws.CellsHaveWords, RunLaws.ElementsAreNumbered}

behind : (count : GlobalItem → ℕ) (x : GlobalItem) (xs : List GlobalItem) (g i : ℕ) → sum_by count (take (suc g) (x ∷ xs)) + i ≡ count x + (sum_by count (take g xs) + i)
behind count x xs g i = let e : sum_by count (take (suc g) (x ∷ xs)) ≡ count x + sum_by count (take g xs) = sum_by-cons count x (take g xs) in omega arith

-- ---- reading

pub element_holds : (count : GlobalItem → ℕ) (items : List GlobalItem) (values : Values) (g i : ℕ) (item : GlobalItem) → slice_get items g ≡ Some item → i < count item
    → element_values count items values (sum_by count (take g items) + i) ≡ Some (values g i)
element_holds count [] values g i item is l = absurd (cc)
element_holds count (x ∷ xs) values zero i item is l =
    let e : x ≡ item = cc in
    let m : i < count x = subst (λ (y : GlobalItem). i < count y) (sym e) l in
    at (0 + i) (omega arith) where
      at : (c : ℕ) → c ≡ i → element_values count (x ∷ xs) values c ≡ Some (values 0 i)
      at c same = ap (λ (t : Bool). cond t (Some (values 0 c)) (element_values count xs (λ g. values (suc g)) (c - count x))) (lt-ltb c (count x) (let e : x ≡ item = cc in let m : i < count x = subst (λ (y : GlobalItem). i < count y) (sym e) l in omega arith)) ∙ ap (λ (n : ℕ). Some (values 0 n)) same
element_holds count (x ∷ xs) values (suc g) i item is l = at _ _ (behind count x xs g i) (element_holds count xs (λ g. values (suc g)) g i item is l) where
  at : (c d : ℕ) → c ≡ count x + d → element_values count xs (λ g. values (suc g)) d ≡ Some (values (suc g) i) → element_values count (x ∷ xs) values c ≡ Some (values (suc g) i)
  at c d e h =
      ap (λ (t : Bool). cond t (Some (values 0 c)) (element_values count xs (λ g. values (suc g)) (c - count x))) (le-ltb c (count x) (omega arith))
      ∙ ap (element_values count xs (λ g. values (suc g))) (omega arith) ∙ h

-- ---- writing

-- values that agree at the elements of critical globals
pub alike_elements : (count : GlobalItem → ℕ) (items : List GlobalItem) (old new : Values) → ((g i : ℕ) (item : GlobalItem) → slice_get items g ≡ Some item → i < count item → new g i ≡ old g i)
    → (c : ℕ) → element_values count items new c ≡ element_values count items old c
alike_elements count [] old new same c = refl
alike_elements count (x ∷ xs) old new same c = by (ltb c (count x)) refl (alike_elements count xs (λ g. old (suc g)) (λ g. new (suc g)) (λ g i item at l. same (suc g) i item at l) (c - count x)) where
  by : (t : Bool) → ltb c (count x) ≡ t → element_values count xs (λ g. new (suc g)) (c - count x) ≡ element_values count xs (λ g. old (suc g)) (c - count x)
      → cond t (Some (new 0 c)) (element_values count xs (λ g. new (suc g)) (c - count x)) ≡ cond t (Some (old 0 c)) (element_values count xs (λ g. old (suc g)) (c - count x))
  by true is rest = ap Some (same 0 c x refl (ltb-true c (count x) is))
  by false is rest = rest

-- element i of global g has a new value, and no other has
pub record IsPut (items : List GlobalItem) (old new : Values) (g i value : ℕ) : Type 0 where
  pub here : new g i ≡ value
  pub there : (h j : ℕ) → ((h ≡ g) × (j ≡ i) → ⊥) → new h j ≡ old h j

pub is_put : (items : List GlobalItem) (old : Values) (g i value : ℕ) → IsPut items old (put old g i value) g i value
is_put items old g i value = record { here = here; there = there } where
  here : put old g i value g i ≡ value
  here = ap (λ (t : Bool). cond (t && eqb i i) value (old g i)) (eq-eqb g g refl) ∙ ap (λ (t : Bool). cond t value (old g i)) (eq-eqb i i refl)

  there : (h j : ℕ) → ((h ≡ g) × (j ≡ i) → ⊥) → put old g i value h j ≡ old h j
  there h j apart = by (eqb h g) refl where
    by : (t : Bool) → eqb h g ≡ t → cond (t && eqb j i) value (old h j) ≡ old h j
    by false is = refl
    by true is = ap (λ (t : Bool). cond t value (old h j)) (ne_eqb j i (λ e. apart (eqb-true h g is, e)))

-- a cell is defined
pub element_put : (count : GlobalItem → ℕ) (items : List GlobalItem) (old new : Values) (g i value : ℕ) (item : GlobalItem) → IsPut items old new g i value → slice_get items g ≡ Some item → i < count item
    → (c : ℕ) → defined (element_values count items old) (sum_by count (take g items) + i) value c ≡ element_values count items new c
element_put count [] old new g i value item is at l c = absurd (cc)
element_put count (x ∷ xs) old new zero i value item is at l c =
    let e : x ≡ item = cc in
    let m : i < count x = subst (λ (y : GlobalItem). i < count y) (sym e) l in
    by (ltb c (count x)) refl m where
      held : Option ℕ
      held = element_values count xs (λ g. old (suc g)) (c - count x)

      inside : (t : Bool) → eqb c (0 + i) ≡ t → cond (t && true) (Some value) (Some (old 0 c)) ≡ Some (new 0 c)
      inside true same = let e : c ≡ i = omega (arith, eqb-true c (0 + i) same) in ap Some (sym is.here ∙ ap (new 0) (sym e))
      inside false other = ap Some (sym (is.there 0 c (λ h. eqb-false c (0 + i) other (let e : c ≡ i = h.1 in omega arith))))

      by : (t : Bool) → ltb c (count x) ≡ t → i < count x
          → cond (eqb c (0 + i) && is_some (cond t (Some (old 0 c)) held)) (Some value) (cond t (Some (old 0 c)) held) ≡ cond t (Some (new 0 c)) (element_values count xs (λ g. new (suc g)) (c - count x))
      by true low m = inside (eqb c (0 + i)) refl
      by false high m =
          ap (λ (t : Bool). cond (t && is_some held) (Some value) held) (ne_eqb c (0 + i) (λ e. let k : count x ≤ c = ltb-false c (count x) high in omega arith))
          ∙ sym (alike_elements count xs (λ g. old (suc g)) (λ g. new (suc g)) (λ g j y at l. is.there (suc g) j (λ h. let e : suc g ≡ 0 = h.0 in omega arith)) (c - count x))
element_put count (x ∷ xs) old new (suc g) i value item is at l c =
    by (ltb c (count x)) refl (element_put count xs (λ g. old (suc g)) (λ g. new (suc g)) g i value item (record { here = is.here; there = λ h j apart. is.there (suc h) j (λ e. apart (down h e.0, e.1)) }) at l (c - count x)) where
      before : ℕ
      before = sum_by count (take g xs) + i

      down : (h : ℕ) → suc h ≡ suc g → h ≡ g
      down h e = omega arith

      held : Option ℕ
      held = element_values count xs (λ g. old (suc g)) (c - count x)

      shifted : (n : ℕ) → count x ≤ c → n ≡ count x + before → eqb c n ≡ eqb (c - count x) before
      shifted n low e = by (eqb (c - count x) before) refl where
        by : (t : Bool) → eqb (c - count x) before ≡ t → eqb c n ≡ t
        by true same = let f : c - count x ≡ before = eqb-true (c - count x) before same in eq-eqb c n (omega arith)
        by false other = ne_eqb c n (λ f. eqb-false (c - count x) before other (omega arith))

      by : (t : Bool) → ltb c (count x) ≡ t
          → defined (element_values count xs (λ g. old (suc g))) before value (c - count x) ≡ element_values count xs (λ g. new (suc g)) (c - count x)
          → cond (eqb c (sum_by count (take (suc g) (x ∷ xs)) + i) && is_some (cond t (Some (old 0 c)) held)) (Some value) (cond t (Some (old 0 c)) held)
          ≡ cond t (Some (new 0 c)) (element_values count xs (λ g. new (suc g)) (c - count x))
      by true low rest =
          ap (λ (t : Bool). cond (t && true) (Some value) (Some (old 0 c))) (ne_eqb c (sum_by count (take (suc g) (x ∷ xs)) + i) (λ e. let k : c < count x = ltb-true c (count x) low in let d : sum_by count (take (suc g) (x ∷ xs)) + i ≡ count x + (sum_by count (take g xs) + i) = behind count x xs g i in omega arith))
          ∙ ap Some (sym (is.there 0 c (λ h. let e : 0 ≡ suc g = h.0 in omega arith)))
      by false high rest =
          ap (λ (t : Bool). cond (t && is_some held) (Some value) held) (shifted (sum_by count (take (suc g) (x ∷ xs)) + i) (ltb-false c (count x) high) (behind count x xs g i))
          ∙ rest

-- ---- by their numbers

-- what is told of a cell is what the element holds
pub element_told : (count : GlobalItem → ℕ) (items : List GlobalItem) (values : Values) (g i : ℕ) (item : GlobalItem) → slice_get items g ≡ Some item → (c : ℕ) → element_number count items g i ≡ Some c → element_values count items values c ≡ Some (values g i)
element_told count items values g i item is c at =
    let h = cond_some (ltb i (of_global count (slice_get items g))) _ _ at in
    let e : of_global count (slice_get items g) ≡ count item = ap (of_global count) is in
    let l : i < of_global count (slice_get items g) = ltb-true _ _ h.0 in
    subst (λ (n : ℕ). element_values count items values n ≡ Some (values g i)) h.1 (element_holds count items values g i item is (omega arith))

-- a new value of a cell defines it
pub element_stored : (count : GlobalItem → ℕ) (items : List GlobalItem) (values : Values) (g i value : ℕ) (item : GlobalItem) → slice_get items g ≡ Some item → (c : ℕ) → element_number count items g i ≡ Some c
    → defined (element_values count items values) c value ≡ element_values count items (put values g i value)
element_stored count items values g i value item is c at =
    let h = cond_some (ltb i (of_global count (slice_get items g))) _ _ at in
    let e : of_global count (slice_get items g) ≡ count item = ap (of_global count) is in
    let l : i < of_global count (slice_get items g) = ltb-true _ _ h.0 in
    subst (λ (n : ℕ). defined (element_values count items values) n value ≡ element_values count items (put values g i value)) h.1
    (fun_ext (element_put count items values (put values g i value) g i value item (is_put items values g i value) is (omega arith)))

-- and a new value elsewhere leaves the cells
pub elements_stay : (count : GlobalItem → ℕ) (items : List GlobalItem) (values : Values) (g i value : ℕ) (item : GlobalItem) → slice_get items g ≡ Some item → element_number count items g i ≡ None
    → element_values count items values ≡ element_values count items (put values g i value)
elements_stay count items values g i value item is at = sym (fun_ext (alike_elements count items values (put values g i value) same)) where
  high : (t : Bool) (n : ℕ) → cond t (Some n) None ≡ None → t ≡ false
  high false n h = refl
  high true n h = absurd (cc)

  same : (h j : ℕ) (x : GlobalItem) → slice_get items h ≡ Some x → j < count x → put values g i value h j ≡ values h j
  same h j x there l = (is_put items values g i value).there h j (λ e.
      let k : slice_get items h ≡ Some item = ap (slice_get items) e.0 ∙ is in
      let y : x ≡ item = cc in
      let n : count x ≡ count item = ap count y in
      let m : of_global count (slice_get items g) ≡ count item = ap (of_global count) is in
      let o : of_global count (slice_get items g) ≤ i = ltb-false _ _ (high _ _ at) in
      let q : j ≡ i = e.1 in
      omega arith)

pub elements_are_numbered : ElementsAreNumbered
elements_are_numbered count items values g i item is = record {
  told = element_told count items values g i item is;
  stored = λ n value at. element_stored count items values g i value item is n at;
  stays = λ value at. elements_stay count items values g i value item is at;
}

-- ---- the words of cells

cells_few : (item : GlobalItem) → size_in_cells item ≤ size_in_words item
cells_few (Scalar name start true) = omega arith
cells_few (Scalar name start false) = omega arith
cells_few (FnScalar name params) = omega arith
cells_few (Array name len) = omega arith
cells_few (CriticalArray name len) = omega arith

slice_get-range : (a n i : ℕ) → i < n → slice_get (range_with_len a n) i ≡ Some (a + i)
slice_get-range a zero i l = absurd (omega arith)
slice_get-range a (suc n) zero l = ap (λ (m : ℕ). Some m) (omega arith)
slice_get-range a (suc n) (suc i) l = slice_get-range (a + 1) n i (omega arith) ∙ ap (λ (m : ℕ). Some m) (more a i) where
  more : (a i : ℕ) → a + 1 + i ≡ a + suc i
  more a i = omega arith

slice_get-left : {X : Type 0} (xs ys : List X) (i : ℕ) → i < length xs → slice_get (xs ++ ys) i ≡ slice_get xs i
slice_get-left [] ys i l = absurd (omega arith)
slice_get-left (x ∷ xs) ys zero l = refl
slice_get-left (x ∷ xs) ys (suc i) l = slice_get-left xs ys i (omega arith)

slice_get-right : {X : Type 0} (xs ys : List X) (i j : ℕ) → i ≡ length xs + j → slice_get (xs ++ ys) i ≡ slice_get ys j
slice_get-right [] ys i j e = ap (slice_get ys) (let z : length ys ≡ length ys = refl in omega arith)
slice_get-right (x ∷ xs) ys zero j e = absurd (omega arith)
slice_get-right (x ∷ xs) ys (suc i) j e = slice_get-right xs ys i j (omega arith)

pub word_of_cell : (items : List GlobalItem) (g i : ℕ) (item : GlobalItem) → slice_get items g ≡ Some item → i < size_in_cells item
    → slice_get (cell_words items) (sum_by size_in_cells (take g items) + i) ≡ Some (sum_by size_in_words (take g items) + i)
word_of_cell [] g i item is l = absurd (cc)
word_of_cell (x ∷ xs) zero i item is l =
    let e : x ≡ item = cc in
    let m : i < size_in_cells x = subst (λ (y : GlobalItem). i < size_in_cells y) (sym e) l in
    let n : length (range_with_len 0 (size_in_cells x)) ≡ size_in_cells x = length-range_with_len 0 (size_in_cells x) in
    slice_get-left (range_with_len 0 (size_in_cells x)) _ (0 + i) (omega arith) ∙ slice_get-range 0 (size_in_cells x) (0 + i) (omega arith) ∙ ap (λ (m : ℕ). Some m) (nothing i) where
      nothing : (i : ℕ) → 0 + (0 + i) ≡ 0 + i
      nothing i = omega arith
word_of_cell (x ∷ xs) (suc g) i item is l =
    slice_get-right (range_with_len 0 (size_in_cells x)) _ _ (sum_by size_in_cells (take g xs) + i) (behind size_in_cells x xs g i ∙ ap (λ (n : ℕ). n + (sum_by size_in_cells (take g xs) + i)) (sym (length-range_with_len 0 (size_in_cells x))))
    ∙ slice_get-map (λ word. size_in_words x + word) (cell_words xs) (sum_by size_in_cells (take g xs) + i)
    ∙ ap (option_map (λ word. size_in_words x + word)) (word_of_cell xs g i item is l)
    ∙ ap (λ (m : ℕ). Some m) (sym (behind size_in_words x xs g i))

pub cells_have_words : CellsHaveWords
cells_have_words p g i c at = by (slice_get p.globals g) refl where
  none : (t : Bool) (n : ℕ) → cond t (Some n) None ≡ Some c → t ≡ true
  none true n h = refl
  none false n h = absurd (cc)

  by : (o : Option GlobalItem) → slice_get p.globals g ≡ o → slice_get (cell_words p.globals) c ≡ word_number p g i
  by None is =
      let t : ltb i (of_global size_in_cells (slice_get p.globals g)) ≡ true = none _ _ at in
      let z : of_global size_in_cells (slice_get p.globals g) ≡ 0 = ap (of_global size_in_cells) is in
      let l : i < of_global size_in_cells (slice_get p.globals g) = ltb-true _ _ t in
      absurd (omega arith)
  by (Some item) is =
      let h = cond_some (ltb i (of_global size_in_cells (slice_get p.globals g))) _ _ at in
      let l : i < of_global size_in_cells (slice_get p.globals g) = ltb-true _ _ h.0 in
      let z : of_global size_in_cells (slice_get p.globals g) ≡ size_in_cells item = ap (of_global size_in_cells) is in
      let w : of_global size_in_words (slice_get p.globals g) ≡ size_in_words item = ap (of_global size_in_words) is in
      let m : size_in_cells item ≤ size_in_words item = cells_few item in
      ap (slice_get (cell_words p.globals)) (sym h.1) ∙ word_of_cell p.globals g i item is (omega arith)
      ∙ sym (ap (λ (t : Bool). cond t (Some (sum_by size_in_words (take g p.globals) + i)) None) (lt-ltb i (of_global size_in_words (slice_get p.globals g)) (omega arith)))

cells_by_words : (items : List GlobalItem) (values : Values) (c : ℕ) → cell_values items values c ≡ option_and_then (word_values items values) (slice_get (cell_words items) c)
cells_by_words [] values c = refl
cells_by_words (x ∷ xs) values c = elim (cases_lt c (size_in_cells x)) [
  | inl low ↦
      let m : size_in_cells x ≤ size_in_words x = cells_few x in
      let n : length (range_with_len 0 (size_in_cells x)) ≡ size_in_cells x = length-range_with_len 0 (size_in_cells x) in
      ap (λ (t : Bool). cond t (Some (values 0 c)) (cell_values xs (λ g. values (suc g)) (c - size_in_cells x))) (lt-ltb c (size_in_cells x) low)
      ∙ sym (ap (option_and_then (word_values (x ∷ xs) values)) (slice_get-left (range_with_len 0 (size_in_cells x)) _ c (omega arith) ∙ slice_get-range 0 (size_in_cells x) c low ∙ ap (λ (m : ℕ). Some m) (nothing c))
      ∙ ap (λ (t : Bool). cond t (Some (values 0 c)) (word_values xs (λ g. values (suc g)) (c - size_in_words x))) (lt-ltb c (size_in_words x) (omega arith)))
  | inr high ↦
      let n : length (range_with_len 0 (size_in_cells x)) ≡ size_in_cells x = length-range_with_len 0 (size_in_cells x) in
      ap (λ (t : Bool). cond t (Some (values 0 c)) (cell_values xs (λ g. values (suc g)) (c - size_in_cells x))) (le-ltb c (size_in_cells x) high)
      ∙ cells_by_words xs (λ g. values (suc g)) (c - size_in_cells x)
      ∙ sym (ap (option_and_then (word_values (x ∷ xs) values))
      (slice_get-right (range_with_len 0 (size_in_cells x)) _ c (c - size_in_cells x) (omega arith) ∙ slice_get-map (λ word. size_in_words x + word) (cell_words xs) (c - size_in_cells x))
      ∙ shifted (slice_get (cell_words xs) (c - size_in_cells x)))
] where
  nothing : (c : ℕ) → 0 + c ≡ c
  nothing c = omega arith

  past : (w : ℕ) → word_values (x ∷ xs) values (size_in_words x + w) ≡ word_values xs (λ g. values (suc g)) w
  past w =
      ap (λ (t : Bool). cond t (Some (values 0 (size_in_words x + w))) (word_values xs (λ g. values (suc g)) (size_in_words x + w - size_in_words x))) (le-ltb (size_in_words x + w) (size_in_words x) (omega arith))
      ∙ ap (word_values xs (λ g. values (suc g))) (omega arith)

  shifted : (o : Option ℕ) → option_and_then (word_values (x ∷ xs) values) (option_map (λ word. size_in_words x + word) o) ≡ option_and_then (word_values xs (λ g. values (suc g))) o
  shifted None = refl
  shifted (Some w) = past w

pub cells_are_words : CellsAreWords
cells_are_words p values c = cells_by_words p.globals values c

words_there : (items : List GlobalItem) (values : Values) (c word : ℕ) → slice_get (cell_words items) c ≡ Some word → (value : ℕ) × (word_values items values word ≡ Some value)
words_there [] values c word h = absurd (cc)
words_there (x ∷ xs) values c word h = elim (cases_lt c (size_in_cells x)) [
  | inl low ↦
      let m : size_in_cells x ≤ size_in_words x = cells_few x in
      let n : length (range_with_len 0 (size_in_cells x)) ≡ size_in_cells x = length-range_with_len 0 (size_in_cells x) in
      let k : Some (0 + c) ≡ Some word = sym (slice_get-left (range_with_len 0 (size_in_cells x)) (map (λ word. size_in_words x + word) (cell_words xs)) c (omega arith) ∙ slice_get-range 0 (size_in_cells x) c low) ∙ h in
      let e : 0 + c ≡ word = same_Some _ _ k in
      (values 0 word, ap (λ (t : Bool). cond t (Some (values 0 word)) (word_values xs (λ g. values (suc g)) (word - size_in_words x))) (lt-ltb word (size_in_words x) (omega arith)))
  | inr high ↦
      let n : length (range_with_len 0 (size_in_cells x)) ≡ size_in_cells x = length-range_with_len 0 (size_in_cells x) in
      let k : option_map (λ word. size_in_words x + word) (slice_get (cell_words xs) (c - size_in_cells x)) ≡ Some word =
      sym (slice_get-right (range_with_len 0 (size_in_cells x)) (map (λ word. size_in_words x + word) (cell_words xs)) c (c - size_in_cells x) (omega arith) ∙ slice_get-map (λ word. size_in_words x + word) (cell_words xs) (c - size_in_cells x)) ∙ h in
      by (slice_get (cell_words xs) (c - size_in_cells x)) refl k (λ w l. words_there xs (λ g. values (suc g)) (c - size_in_cells x) w l)
] where
  by : (o : Option ℕ) → slice_get (cell_words xs) (c - size_in_cells x) ≡ o → option_map (λ word. size_in_words x + word) o ≡ Some word
      → ((w : ℕ) → slice_get (cell_words xs) (c - size_in_cells x) ≡ Some w → (value : ℕ) × (word_values xs (λ g. values (suc g)) w ≡ Some value)) → (value : ℕ) × (word_values (x ∷ xs) values word ≡ Some value)
  by None is k rest = absurd (cc)
  by (Some w) is k rest =
      let r = rest w is in
      let e : size_in_words x + w ≡ word = same_Some _ _ k in (
        r.0,
        ap (λ (t : Bool). cond t (Some (values 0 word)) (word_values xs (λ g. values (suc g)) (word - size_in_words x))) (le-ltb word (size_in_words x) (omega arith))
            ∙ ap (word_values xs (λ g. values (suc g))) (back word w e) ∙ r.1,
      ) where
        back : (word w : ℕ) → size_in_words x + w ≡ word → word - size_in_words x ≡ w
        back word w e = omega arith

pub cell_words_are_there : CellWordsAreThere
cell_words_are_there p values c word h = words_there p.globals values c word h
