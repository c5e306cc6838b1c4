-- The slots of the globals of a program, what they hold, and their cells.
use Rattle.std.proofs.Common.{◌≡◌, ◌+◌, ◌<◌, ◌≤◌, ◌⊎◌, ℕ, zero, suc, true, false, cond, eqb, ltb, ◌&&◌, List, [], ◌∷◌, ◌++◌, length, get_or, set, map, take, replicate, Option, Some, None, refl, sym}
use Rattle.std.proofs.Common.{ap, subst, ◌∙◌, inl, inr, arith, get_or-set_same, get_or-set_other, length-set}
use Rattle.std.specs.{Prelude.IsSome, Prelude.slice_get, Option.is_some, List.sum_by}
use Rattle.std.proofs.Math.{Path.fun_ext, Seq.get_or-append_seam}
use Rattle.std.proofs.lemmas.{Bool.cases_Bool, Bool.cases_lt, Bool.eqb-true, Bool.eqb-false, Bool.false≢true, Bool.lt-ltb, Bool.le-ltb, List.get_or-map, List.get_or_append_left, List.length-append}
use Rattle.std.proofs.lemmas.{List.length-map, List.map-set, List.Sums.sum_by_more_le_part, Option.get_or_from_slice_get, Option.slice_get-get_or, Option.slice_get_past}
use Rattle.oat_check.specs.{Program, GlobalItem, Scalar, FnScalar, Array, CriticalArray, Globals.Values, Globals.element_number, Globals.first_values, Globals.of_global, Globals.put}
use Rattle.oat_check.specs.{Globals.size_in_cells, Globals.size_in_words, Globals.start_of}
use Rattle.oat_meaning.specs.{declared.globals.Slot.Slot, Globals.AreSlotsOf, Globals.IsSlotOf, Globals.slot_words}
use Rattle.oat_meaning.proofs.Passing.{all_alike}

-- ---- cells

cells_in_words : (item : GlobalItem) → size_in_cells item ≤ size_in_words item
cells_in_words (Scalar name start true) = omega arith
cells_in_words (Scalar name start false) = omega arith
cells_in_words (FnScalar name params) = omega arith
cells_in_words (Array name len) = omega arith
cells_in_words (CriticalArray name len) = omega arith

-- the cells before a global and its own are few
pub cells_are_few : (items : List GlobalItem) (g : ℕ) (item : GlobalItem) → sum_by size_in_words items ≤ 65536 → g < length items
    → sum_by size_in_cells (take g items) + size_in_cells (get_or items g item) ≤ 65536
cells_are_few items g item few l =
    let more = sum_by_more_le_part size_in_cells size_in_words items g item l cells_in_words in
    let own = cells_in_words (get_or items g item) in
    omega (arith, more, own)

-- what a slot tells of its cells
pub record TellsCells (items : List GlobalItem) (g : ℕ) (slot : Slot) : Type 0 where
  pub size : of_global size_in_cells (slice_get items g) ≡ slot.cells
  pub first : sum_by size_in_cells (take g items) ≡ slot.first_cell
  pub few : slot.first_cell + slot.cells ≤ 65536

pub tells_cells : (items : List GlobalItem) (slots : List Slot) (g : ℕ) (slot : Slot) → AreSlotsOf items slots → g < length slots → slot ≡ get_or slots g slot → TellsCells items g slot
tells_cells items slots g slot are l is =
    let none : GlobalItem = FnScalar [] 0 in
    let low : g < length items = let e = are.all in omega (arith, e) in
    let own : IsSlotOf items g (get_or items g none) slot = subst (IsSlotOf items g (get_or items g none)) (sym is) (are.each g none slot l) in
    let few = cells_are_few items g none are.few low in
    let cells = own.cells in
    let first = own.first_cell in
    record {
      size = ap (of_global size_in_cells) (slice_get-get_or items g none low) ∙ sym own.cells;
      first = sym own.first_cell;
      few = omega (arith, few, cells, first);
    }

-- where the code finds a slot
pub found_slot : (items : List GlobalItem) (slots xs : List Slot) (g : ℕ) (slot : Slot) → AreSlotsOf items slots → xs ≡ slots → g < length xs → slot ≡ get_or xs g slot → TellsCells items g slot
found_slot items slots xs g slot are same l is =
    tells_cells items slots g slot are (subst (λ (ys : List Slot). g < length ys) same l) (is ∙ ap (λ (ys : List Slot). get_or ys g slot) same)

-- and where it finds none
pub none_past : {R : Type 0} (o : Option R) (g n : ℕ) → (g < n → IsSome o) → o ≡ None → n ≤ g
none_past o g n there none = elim (cases_lt g n) [ inl l ↦ absurd (false≢true (sym (ap is_some none) ∙ there l)) | inr past ↦ past ]

pub no_slot : (size : GlobalItem → ℕ) (items : List GlobalItem) (slots : List Slot) (g : ℕ) → AreSlotsOf items slots → length slots ≤ g → of_global size (slice_get items g) ≡ 0
no_slot size items slots g are past = ap (of_global size) (slice_get_past items g (let e = are.all in omega (arith, e)))

pub cell_there : (items : List GlobalItem) (g i : ℕ) (slot : Slot) → TellsCells items g slot → i < slot.cells → Some (slot.first_cell + i) ≡ element_number size_in_cells items g i
cell_there items g i slot t l =
    sym (ap (λ n. cond (ltb i n) (Some (sum_by size_in_cells (take g items) + i)) None) t.size ∙ ap (λ b. cond b (Some (sum_by size_in_cells (take g items) + i)) None) (lt-ltb i slot.cells l)
    ∙ ap (λ n. Some (n + i)) t.first)

pub no_cell : (items : List GlobalItem) (g i n : ℕ) → of_global size_in_cells (slice_get items g) ≡ n → n ≤ i → None ≡ element_number size_in_cells items g i
no_cell items g i n size low =
    sym (ap (λ n. cond (ltb i n) (Some (sum_by size_in_cells (take g items) + i)) None) size ∙ ap (λ b. cond b (Some (sum_by size_in_cells (take g items) + i)) None) (le-ltb i n low))

-- ---- slots

abbrev pub HaveSlots : List GlobalItem → List Slot → Type 0
HaveSlots items slots = (g : ℕ) (item : GlobalItem) (slot : Slot) → g < length slots → IsSlotOf items g (get_or items g item) (get_or slots g slot)

-- one more slot
pub slot_pushed : (items : List GlobalItem) (slots : List Slot) (k : ℕ) (item : GlobalItem) (slot : Slot) → HaveSlots items slots → length slots ≡ k → k < length items
    → item ≡ get_or items k item → IsSlotOf items k item slot → HaveSlots items (slots ++ slot ∷ [])
slot_pushed items slots k item slot each count low is new g other d l = by (cases_lt g (length slots)) where
  by : (g < length slots) ⊎ (length slots ≤ g) → IsSlotOf items g (get_or items g other) (get_or (slots ++ slot ∷ []) g d)
  by (inl m) = subst (IsSlotOf items g (get_or items g other)) (sym (get_or_append_left slots (slot ∷ []) d g m)) (each g other d m)
  by (inr m) =
      let at : g ≡ k = let e = length-append slots (slot ∷ []) in omega (arith, e) in
      let own : get_or items g other ≡ item =
      ap (λ n. get_or items n other) at ∙ get_or_from_slice_get items k item other (slice_get-get_or items k item low ∙ ap Some (sym is)) in
      let last : get_or (slots ++ slot ∷ []) g d ≡ slot = ap (λ n. get_or (slots ++ slot ∷ []) n d) (at ∙ sym count) ∙ get_or-append_seam slots slot [] d in
      subst (λ n. IsSlotOf items n (get_or items g other) (get_or (slots ++ slot ∷ []) g d)) (sym at)
      (subst (λ x. IsSlotOf items k x (get_or (slots ++ slot ∷ []) g d)) (sym own) (subst (IsSlotOf items k item) (sym last) new))

-- a slot with other words, as many as before
pub slot_set : (items : List GlobalItem) (slots : List Slot) (g : ℕ) (new d : Slot) → AreSlotsOf items slots → g < length slots
    → length new.words.items ≡ length (get_or slots g d).words.items → new.cells ≡ (get_or slots g d).cells → new.first_cell ≡ (get_or slots g d).first_cell
    → AreSlotsOf items (set slots g new)
slot_set items slots g new d old l words cells first = record {
  all = length-set slots g new ∙ old.all;
  each = λ h item slot k. by h item slot (let e = length-set slots g new in omega (arith, e)) (cases_Bool (eqb h g));
  few = old.few;
} where
  by : (h : ℕ) (item : GlobalItem) (slot : Slot) → h < length slots → (eqb h g ≡ true) ⊎ (eqb h g ≡ false) → IsSlotOf items h (get_or items h item) (get_or (set slots g new) h slot)
  by h item slot k (inl same) =
      let at : h ≡ g = eqb-true h g same in
      let was = old.each g item d l in
      let now : IsSlotOf items g (get_or items g item) new = record { words = words ∙ was.words; cells = cells ∙ was.cells; first_cell = first ∙ was.first_cell } in
      subst (λ (j : ℕ). IsSlotOf items j (get_or items j item) (get_or (set slots g new) j slot)) (sym at)
      (subst (IsSlotOf items g (get_or items g item)) (sym (get_or-set_same slots g new slot l)) now)
  by h item slot k (inr other) = subst (IsSlotOf items h (get_or items h item)) (sym (get_or-set_other slots g h new slot (eqb-false h g other))) (old.each h item slot k)

-- where a global has an element, its slot has it
pub slot_there : (items : List GlobalItem) (slots : List Slot) (g i : ℕ) (d : Slot) → AreSlotsOf items slots → i < of_global size_in_words (slice_get items g)
    → (g < length slots) × (i < length (get_or slots g d).words.items)
slot_there items slots g i d are l = elim (cases_lt g (length slots)) [
  | inl k ↦
      let none : GlobalItem = FnScalar [] 0 in
      let low : g < length items = let e = are.all in omega (arith, e) in
      let size : of_global size_in_words (slice_get items g) ≡ size_in_words (get_or items g none) = ap (of_global size_in_words) (slice_get-get_or items g none low) in
      let words : length (get_or slots g d).words.items ≡ size_in_words (get_or items g none) = (are.each g none d k).words in
      (k, omega (arith, l, size, words))
  | inr past ↦ let none = no_slot size_in_words items slots g are past in absurd (omega (arith, none, l))
]

-- ---- what they hold

-- elements that are not there are as at first
abbrev pub held : Values → List (List ℕ) → Values
held first ws = λ g i. get_or (get_or ws g []) i (first g i)

pub held_put : (first : Values) (ws : List (List ℕ)) (g i value : ℕ) → g < length ws → i < length (get_or ws g [])
    → held first (set ws g (set (get_or ws g []) i value)) ≡ put (held first ws) g i value
held_put first ws g i value l k = fun_ext (λ h. fun_ext (λ j. by h j (cases_Bool (eqb h g)) (cases_Bool (eqb j i)))) where
  old : List ℕ
  old = get_or ws g []

  new : List ℕ
  new = set old i value

  by : (h j : ℕ) → (eqb h g ≡ true) ⊎ (eqb h g ≡ false) → (eqb j i ≡ true) ⊎ (eqb j i ≡ false)
      → held first (set ws g new) h j ≡ cond (eqb h g && eqb j i) value (held first ws h j)
  by h j (inl a) (inl b) =
      let row : get_or (set ws g new) h [] ≡ new = ap (λ n. get_or (set ws g new) n []) (eqb-true h g a) ∙ get_or-set_same ws g new [] l in
      ap (λ r. get_or r j (first h j)) row ∙ ap (λ n. get_or new n (first h j)) (eqb-true j i b) ∙ get_or-set_same old i value (first h j) k
      ∙ sym (ap (λ t. cond (t && eqb j i) value (held first ws h j)) a ∙ ap (λ t. cond t value (held first ws h j)) b)
  by h j (inl a) (inr b) =
      let row : get_or (set ws g new) h [] ≡ new = ap (λ n. get_or (set ws g new) n []) (eqb-true h g a) ∙ get_or-set_same ws g new [] l in
      ap (λ r. get_or r j (first h j)) row ∙ get_or-set_other old i j value (first h j) (eqb-false j i b) ∙ ap (λ n. get_or (get_or ws n []) j (first h j)) (sym (eqb-true h g a))
      ∙ sym (ap (λ t. cond (t && eqb j i) value (held first ws h j)) a ∙ ap (λ t. cond t value (held first ws h j)) b)
  by h j (inr a) b =
      ap (λ r. get_or r j (first h j)) (get_or-set_other ws g h new [] (eqb-false h g a))
      ∙ sym (ap (λ t. cond (t && eqb j i) value (held first ws h j)) a)

-- one word of a slot is set
pub slot_put : (first : Values) (slots : List Slot) (g i value : ℕ) (old new : Slot) → g < length slots → old ≡ get_or slots g old → i < length old.words.items
    → new.words.items ≡ set old.words.items i value → held first (slot_words (set slots g new)) ≡ put (held first (slot_words slots)) g i value
slot_put first slots g i value old new l is k words =
    let row : get_or (slot_words slots) g [] ≡ old.words.items = get_or-map (λ (s : Slot). s.words.items) slots g old [] l ∙ sym (ap (λ (s : Slot). s.words.items) is) in
    let as_set : slot_words (set slots g new) ≡ set (slot_words slots) g (set (get_or (slot_words slots) g []) i value) =
    map-set (λ (s : Slot). s.words.items) slots g new ∙ ap (set (slot_words slots) g) (words ∙ ap (λ xs. set xs i value) (sym row)) in
    let low : g < length (slot_words slots) = let e = length-map slots (λ (s : Slot). s.words.items) in omega (arith, e) in
    ap (held first) as_set ∙ held_put first (slot_words slots) g i value low (subst (λ (xs : List ℕ). i < length xs) (sym row) k)

-- ---- at the start

abbrev pub first_words : GlobalItem → List ℕ
first_words item = replicate (size_in_words item) (start_of item)

first_at : (items : List GlobalItem) (g i : ℕ) → get_or (get_or (map first_words items) g []) i (of_global start_of (slice_get items g)) ≡ of_global start_of (slice_get items g)
first_at [] g i = refl
first_at (item ∷ items) zero i = all_alike (size_in_words item) (start_of item) i
first_at (item ∷ items) (suc g) i = first_at items g i

pub held_first : (p : Program) → held (first_values p) (map first_words p.globals) ≡ first_values p
held_first p = fun_ext (λ g. fun_ext (λ i. first_at p.globals g i))
