-- What a line asks of its operands, from the checking rules: each has the type, the word or the cell that the line's law wants.
use Rattle.std.proofs.Common.{◌≡◌, ◌+◌, ◌-◌, ◌^◌, ◌<◌, ◌≤◌, ◌&&◌, ◌⊎◌, inl, inr, ℕ, zero, suc, Bool, true, false, cond, List, [], ◌∷◌, length, Option, option_map, Some, None, refl, sym, ap, subst}
use Rattle.std.proofs.Common.{◌∙◌, arith, ltb, eqb}
use Rattle.std.specs.{Prelude.slice_get, Prelude.take, Prelude.get_or, List.sum_by}
use Rattle.std.proofs.lemmas.{Bool.lt-ltb, Bool.le-ltb, Bool.ltb-true, Bool.eq-eqb, Option.cond_some, Option.slice_get_within, Option.get_or_from_slice_get, List.Sums.sum_by-cons}
use Rattle.std.proofs.lemmas.{List.Sums.sum_by_more_le, List.Sums.sum_by-le-sum_by}
use Rattle.oat_check.proofs.Checking.{OneTy, alike, each_at, has_ty, keeps_rules}
use Rattle.oat_globals.specs.{IsGlobal, Program, GlobalItem, Scalar, FnScalar, Array, CriticalArray, Func, Local, Ty, I64, Fn, RefTo, size_in_words, size_in_cells, of_global, cell_number, length_at}
use Rattle.oat_globals.specs.{item_ty, word_ty, is_referenced, instruction, IsChecked, are_alike, has_types, holds_number, is_array, is_as_scalar, local_ty, names_array, passes, refers_with}
use Rattle.oat_globals.specs.{scalar_ty, World, IsNumberLocal, Frame, Elements.IsArrayAt, Elements.IsCriticalElementLine, Scalars.IsCriticalScalar, Scalars.IsScalarPair, Scalars.MayRefer}
use Rattle.oat_match.specs.{Code.first_word_of, Compiled.HasDataOf}
use Rattle.oat_match.proofs.Finding.{found}

-- ---- what is there

typed_inside : (locals : List Local) (x : ℕ) (ty : Ty) (o : Option Local) → slice_get locals x ≡ o → option_map (λ local. local.ty) o ≡ Some ty → x < length locals
typed_inside locals x ty (Some local) is h = slice_get_within locals x local is
typed_inside locals x ty None is h = absurd (cc)

-- ---- globals

-- an element's word has the type of its global
behind : (x : GlobalItem) (xs : List GlobalItem) (g i : ℕ) → sum_by size_in_words (take (suc g) (x ∷ xs)) + i ≡ size_in_words x + (sum_by size_in_words (take g xs) + i)
behind x xs g i = let e : sum_by size_in_words (take (suc g) (x ∷ xs)) ≡ size_in_words x + sum_by size_in_words (take g xs) = sum_by-cons size_in_words x (take g xs) in omega arith

word_typed : (items : List GlobalItem) (g i : ℕ) (item : GlobalItem) → slice_get items g ≡ Some item → i < size_in_words item → word_ty items (sum_by size_in_words (take g items) + i) ≡ Some (item_ty item)
word_typed [] g i item is l = absurd (cc)
word_typed (x ∷ xs) zero i item is l = at (0 + i) (omega arith) where
  e : x ≡ item
  e = cc

  at : (c : ℕ) → c ≡ i → word_ty (x ∷ xs) c ≡ Some (item_ty item)
  at c same =
      let m : i < size_in_words x = subst (λ (y : GlobalItem). i < size_in_words y) (sym e) l in
      ap (λ (t : Bool). cond t (Some (item_ty x)) (word_ty xs (c - size_in_words x))) (lt-ltb c (size_in_words x) (omega arith)) ∙ ap (λ (y : GlobalItem). Some (item_ty y)) e
word_typed (x ∷ xs) (suc g) i item is l = at _ _ (behind x xs g i) (word_typed xs g i item is l) where
  at : (c d : ℕ) → c ≡ size_in_words x + d → word_ty xs d ≡ Some (item_ty item) → word_ty (x ∷ xs) c ≡ Some (item_ty item)
  at c d e h =
      ap (λ (t : Bool). cond t (Some (item_ty x)) (word_ty xs (c - size_in_words x))) (le-ltb c (size_in_words x) (omega arith))
      ∙ ap (word_ty xs) (omega arith) ∙ h

words_inside : (p : Program) (g : ℕ) (item : GlobalItem) → slice_get p.globals g ≡ Some item → first_word_of p g + size_in_words item ≤ sum_by size_in_words p.globals
words_inside p g item is =
    let s : sum_by size_in_words (take g p.globals) + size_in_words (get_or p.globals g item) ≤ sum_by size_in_words p.globals = sum_by_more_le size_in_words p.globals g item (slice_get_within p.globals g item is) in
    let x : size_in_words (get_or p.globals g item) ≡ size_in_words item = ap size_in_words (get_or_from_slice_get p.globals g item item is) in
    omega arith

one_word : (item : GlobalItem) (ty : Ty) → scalar_ty item ≡ Some ty → size_in_words item ≡ 1
one_word (Scalar name start critical) ty h = refl
one_word (FnScalar name params) ty h = refl
one_word (Array name len) ty h = absurd (cc)
one_word (CriticalArray name len) ty h = absurd (cc)

scalar_holds : (item : GlobalItem) (ty : Ty) → scalar_ty item ≡ Some ty → item_ty item ≡ ty
scalar_holds (Scalar name start critical) ty h = cc
scalar_holds (FnScalar name params) ty h = cc
scalar_holds (Array name len) ty h = absurd (cc)
scalar_holds (CriticalArray name len) ty h = absurd (cc)

array_holds : (item : GlobalItem) → is_array item ≡ true → item_ty item ≡ I64
array_holds (Array name len) h = refl
array_holds (CriticalArray name len) h = refl
array_holds (Scalar name start critical) h = absurd (cc)
array_holds (FnScalar name params) h = absurd (cc)

-- ---- cells

-- a scalar that has a cell is a number
cell_holds : (item : GlobalItem) (ty : Ty) → scalar_ty item ≡ Some ty → 0 < size_in_cells item → ty ≡ I64
cell_holds (Scalar name start critical) ty h l = cc
cell_holds (FnScalar name params) ty h l = absurd (omega arith)
cell_holds (Array name len) ty h l = absurd (cc)
cell_holds (CriticalArray name len) ty h l = absurd (cc)

fewer_cells : (item : GlobalItem) → size_in_cells item ≤ size_in_words item
fewer_cells (Scalar name start true) = omega arith
fewer_cells (Scalar name start false) = omega arith
fewer_cells (FnScalar name params) = omega arith
fewer_cells (Array name len) = omega arith
fewer_cells (CriticalArray name len) = omega arith

cells_inside : (p : Program) → IsChecked p → (g : ℕ) (item : GlobalItem) → slice_get p.globals g ≡ Some item → sum_by size_in_cells (take g p.globals) + size_in_cells item ≤ 65536
cells_inside p ok g item is =
    let s : sum_by size_in_cells (take g p.globals) + size_in_cells (get_or p.globals g item) ≤ sum_by size_in_cells p.globals = sum_by_more_le size_in_cells p.globals g item (slice_get_within p.globals g item is) in
    let x : size_in_cells (get_or p.globals g item) ≡ size_in_cells item = ap size_in_cells (get_or_from_slice_get p.globals g item item is) in
    let m : sum_by size_in_cells p.globals ≤ sum_by size_in_words p.globals = sum_by-le-sum_by size_in_cells size_in_words p.globals fewer_cells in
    let n : sum_by size_in_words p.globals ≤ 65536 = (keeps_rules p ok.accepted).words in
    omega arith

cell_few : (p : Program) → IsChecked p → (g cell : ℕ) (item : GlobalItem) → slice_get p.globals g ≡ Some item → sum_by size_in_cells (take g p.globals) + 0 ≡ cell → 0 < size_in_cells item → cell < 2 ^ 16
cell_few p ok g cell item is e l = let s : sum_by size_in_cells (take g p.globals) + size_in_cells item ≤ 65536 = cells_inside p ok g item is in omega arith

-- an array has no cell, or one for each word, and is then short
record HasCells (item : GlobalItem) : Type 0 where
  pub same : size_in_cells item ≡ size_in_words item
  pub few : size_in_words item ≤ 4096

all_cells : (item : GlobalItem) → IsGlobal item → is_array item ≡ true → (size_in_cells item ≡ 0) ⊎ HasCells item
all_cells (Array name len) ok h = inl refl
all_cells (CriticalArray name len) ok h = inr (record { same = refl; few = ok.1 })
all_cells (Scalar name start critical) ok h = absurd (cc)
all_cells (FnScalar name params) ok h = absurd (cc)

words_of_array : (item : GlobalItem) → IsGlobal item → is_array item ≡ true → 0 < size_in_words item
words_of_array (Array name len) ok h = let l : 1 ≤ len = ok.0 in omega arith
words_of_array (CriticalArray name len) ok h = let l : 1 ≤ len = ok.0 in omega arith
words_of_array (Scalar name start critical) ok h = absurd (cc)
words_of_array (FnScalar name params) ok h = absurd (cc)

never : {n : ℕ} → None ≡ Some n → ⊥
never e = absurd (cc)

-- ---- by the data of a world

module _ (p : Program) (ok : IsChecked p) (w : World) (has : HasDataOf p w) where
  pub local_inside : (f : ℕ) (func : Func) → slice_get p.funcs f ≡ Some func → (x : ℕ) (ty : Ty) → local_ty func x ≡ Some ty → x < w.locals f
  local_inside f func is x ty h = subst (λ (n : ℕ). x < n) (sym (has.locals f func is)) (typed_inside func.locals x ty (slice_get func.locals x) refl h)

  pub number_local : (f : Frame) (func : Func) → slice_get p.funcs f.func ≡ Some func → (x : ℕ) → holds_number func x ≡ true → IsNumberLocal w f x
  number_local f func is x h =
      let t : local_ty func x ≡ Some I64 = has_ty (local_ty func x) I64 h in
      record { local = local_inside f.func func is x I64 t; ty = has.types f.func func is x I64 t }

  word_of : (g i : ℕ) (item : GlobalItem) → slice_get p.globals g ≡ Some item → i < size_in_words item → w.global_ty (first_word_of p g + i) ≡ item_ty item
  word_of g i item is l = has.global_types (first_word_of p g + i) (item_ty item) (word_typed p.globals g i item is l)

  pub scalar_pair : (f : Frame) (func : Func) → slice_get p.funcs f.func ≡ Some func → (g x : ℕ) → is_as_scalar p func x g ≡ true
      → (0 < length_at p g) × IsScalarPair w f (first_word_of p g + 0) x
  scalar_pair f func is g x h =
      let c = found (λ item. are_alike (local_ty func x) (scalar_ty item)) (slice_get p.globals g) h in
      let t : OneTy (local_ty func x) (scalar_ty c.item) = alike (local_ty func x) (scalar_ty c.item) c.passed in
      let one : size_in_words c.item ≡ 1 = one_word c.item t.ty t.second in
      let inside : first_word_of p g + size_in_words c.item ≤ sum_by size_in_words p.globals = words_inside p g c.item c.is in
      let all : w.globals ≡ sum_by size_in_words p.globals = has.globals in (
        subst (λ (o : Option GlobalItem). 0 < of_global size_in_words o) (sym c.is) (omega arith),
        record {
          global = omega arith;
          local = local_inside f.func func is x t.ty t.first;
          types = has.types f.func func is x t.ty t.first ∙ sym (scalar_holds c.item t.ty t.second) ∙ sym (word_of g 0 c.item c.is (omega arith));
        },
      )

  pub critical_scalar : (f : Frame) (func : Func) → slice_get p.funcs f.func ≡ Some func → (g cell x : ℕ) → is_as_scalar p func x g ≡ true → cell_number p g 0 ≡ Some cell
      → IsCriticalScalar w f (first_word_of p g + 0) cell x
  critical_scalar f func is g cell x h at =
      let c = found (λ item. are_alike (local_ty func x) (scalar_ty item)) (slice_get p.globals g) h in
      let t : OneTy (local_ty func x) (scalar_ty c.item) = alike (local_ty func x) (scalar_ty c.item) c.passed in
      let s : IsScalarPair w f (first_word_of p g + 0) x = (scalar_pair f func is g x h).1 in
      let parts = cond_some (ltb 0 (of_global size_in_cells (slice_get p.globals g))) _ _ at in
      let some : 0 < size_in_cells c.item = subst (λ (o : Option GlobalItem). 0 < of_global size_in_cells o) c.is (ltb-true 0 (of_global size_in_cells (slice_get p.globals g)) parts.0) in
      let ty_is : w.ty f.func x ≡ I64 = has.types f.func func is x t.ty t.first ∙ cell_holds c.item t.ty t.second some in
      record {
        global = s.global;
        ty = sym s.types ∙ ty_is;
        few = cell_few p ok g cell c.item c.is parts.1 some;
        local = record { local = s.local; ty = ty_is };
      }

  pub array_at : (g : ℕ) → names_array p g ≡ true → IsArrayAt w (first_word_of p g) (length_at p g)
  array_at g h =
      let c = found is_array (slice_get p.globals g) h in
      let len_is : length_at p g ≡ size_in_words c.item = ap (of_global size_in_words) c.is in
      let inside : first_word_of p g + size_in_words c.item ≤ sum_by size_in_words p.globals = words_inside p g c.item c.is in
      let all : w.globals ≡ sum_by size_in_words p.globals = has.globals in
      record {
        inside = omega arith;
        numbers = λ j l. word_of g j c.item c.is (subst (λ (n : ℕ). j < n) len_is l) ∙ array_holds c.item c.passed;
      }

  -- an array without a first cell has none
  pub plain_array : (g : ℕ) → names_array p g ≡ true → cell_number p g 0 ≡ None → (j : ℕ) → cell_number p g j ≡ None
  plain_array g h none j =
      let c = found is_array (slice_get p.globals g) h in
      let formed : IsGlobal c.item = each_at IsGlobal p.globals g c.item ok.well_formed.globals c.is in
      let count_is : of_global size_in_cells (slice_get p.globals g) ≡ size_in_cells c.item = ap (of_global size_in_cells) c.is in
      let words : 0 < size_in_words c.item = words_of_array c.item formed c.passed in
      elim (all_cells c.item formed c.passed) [
        | inl z ↦ ap (λ (t : Bool). cond t (Some (sum_by size_in_cells (take g p.globals) + j)) None) (le-ltb j (of_global size_in_cells (slice_get p.globals g)) (omega arith))
        | inr cells ↦
            let same : size_in_cells c.item ≡ size_in_words c.item = cells.same in
            absurd (never (sym none ∙ ap (λ (t : Bool). cond t (Some (sum_by size_in_cells (take g p.globals) + 0)) None) (lt-ltb 0 (of_global size_in_cells (slice_get p.globals g)) (omega arith))))
      ]

  -- one with a first cell has one for each element
  pub critical_element : (f : Frame) (func : Func) → slice_get p.funcs f.func ≡ Some func → (g i x cell : ℕ)
      → names_array p g ≡ true → holds_number func i ≡ true → holds_number func x ≡ true → cell_number p g 0 ≡ Some cell
      → IsCriticalElementLine w f (first_word_of p g) cell (length_at p g) i x × ((j : ℕ) → j < length_at p g → cell_number p g j ≡ Some (cell + j))
  critical_element f func is g i x cell h hi hx first =
      let c = found is_array (slice_get p.globals g) h in
      let parts = cond_some (ltb 0 (of_global size_in_cells (slice_get p.globals g))) _ _ first in
      let cell_is : sum_by size_in_cells (take g p.globals) + 0 ≡ cell = parts.1 in
      let some : 0 < size_in_cells c.item = subst (λ (o : Option GlobalItem). 0 < of_global size_in_cells o) c.is (ltb-true 0 (of_global size_in_cells (slice_get p.globals g)) parts.0) in
      let cells : HasCells c.item = elim (all_cells c.item (each_at IsGlobal p.globals g c.item ok.well_formed.globals c.is) c.passed) [ inl z ↦ absurd (omega arith) | inr cells ↦ cells ] in
      let same : size_in_cells c.item ≡ size_in_words c.item = cells.same in
      let short : size_in_words c.item ≤ 4096 = cells.few in
      let len_is : length_at p g ≡ size_in_words c.item = ap (of_global size_in_words) c.is in
      let inside : sum_by size_in_cells (take g p.globals) + size_in_cells c.item ≤ 65536 = cells_inside p ok g c.item c.is in
      let count_is : of_global size_in_cells (slice_get p.globals g) ≡ size_in_words c.item = ap (of_global size_in_cells) c.is ∙ same in (
        record { line = record { array = array_at g h; index = number_local f func is i hi; local = number_local f func is x hx }; few = omega arith; cells = omega arith },
        λ j l. ap (λ (t : Bool). cond t (Some (sum_by size_in_cells (take g p.globals) + j)) None) (lt-ltb j (of_global size_in_cells (slice_get p.globals g)) (omega arith)) ∙ ap (λ (n : ℕ). Some n) (joined (sum_by size_in_cells (take g p.globals)) cell j cell_is),
      ) where
        joined : (a cell j : ℕ) → a + 0 ≡ cell → a + j ≡ cell + j
        joined a cell j e = omega arith

  pub may_refer : (f : Frame) (func : Func) → slice_get p.funcs f.func ≡ Some func → (x callee : ℕ) → has_types p func (instruction (RefTo x callee)) ≡ true → is_referenced p callee ≡ true
      → (params : ℕ) × MayRefer w f x callee params
  may_refer f func is x callee h named =
      let c = found (λ other. refers_with func x other.params) (slice_get p.funcs callee) h in
      let k : ℕ = c.item.params in
      let t : local_ty func x ≡ Some (Fn k) = has_ty (local_ty func x) (Fn k) c.passed in
      let same : passes (λ other. eqb other.params k) (slice_get p.funcs callee) ≡ true = ap (passes (λ other. eqb other.params k)) c.is ∙ eq-eqb k k refl in (
        k,
        record {
          local = local_inside f.func func is x (Fn k) t;
          ty = has.types f.func func is x (Fn k) t;
          known = has.references callee k ∙ ap (λ (b : Bool). b && is_referenced p callee) same ∙ named;
        },
      )
