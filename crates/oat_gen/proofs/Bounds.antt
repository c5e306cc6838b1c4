-- How many labels a checked program has, and what its functions keep.
use Rattle.std.proofs.Common.{◌≡◌, ℕ, ◌+◌, ◌<◌, ◌≤◌, List, [], ◌∷◌, ◌++◌, length, take, drop, get_or, Bool, true, false, cond, Some, None, refl, sym, ap, ◌∙◌, subst, arith, length-append, zero, suc}
use Rattle.std.specs.{List.sum_by, List.flat_map, List.AllByRecursion, List.position, Prelude.slice_get}
use Rattle.std.proofs.lemmas.{Bool.lt-ltb, Option.slice_get_read, Option.get_or_from_slice_get, List.length-map, List.at_drop_more, List.take-append-drop, List.Elements.All-contains}
use Rattle.std.proofs.lemmas.{List.Elements.All-from_recursion, List.Sums.sum_by-cons, List.Concat.flat_map-append}
use Rattle.oat_parts.proofs.Lists.{get_in}
use Rattle.oat_check.proofs.Checking.{keeps_rules, func_formed}
use Rattle.oat_globals.specs.{Program, Func, BlockIr, block_size, func_size, GlobalItem, Scalar, FnScalar, Array, CriticalArray, size_in_words, size_in_cells, KeepsRules, FuncKeepsRules, is_main}
use Rattle.oat_globals.specs.{IsChecked}
use Rattle.oat_symbols.specs.Programs.{block_names, label_of_block, main_at}
use Rattle.oat_symbols.proofs.Programs.{main_within}
use Rattle.oat_gen.specs.{declared.globals.GlobalPlace.GlobalPlace, GlobalPlaces.places_from, GlobalPlaces.global_places, GlobalPlaces.placed, Steps.HasLowWord, Steps.IsFuncAmong, Steps.block_total}

pub block_total_cons : (g : Func) (gs : List Func) → block_total (g ∷ gs) ≡ length g.blocks + block_total gs
block_total_cons g gs = length-append (block_names g) (flat_map block_names gs) ∙ ap (λ (n : ℕ). n + block_total gs) (length-map g.blocks (λ (b : BlockIr). b.label))

blocks_sized : (bs : List BlockIr) → length bs ≤ sum_by block_size bs
blocks_sized [] = omega arith
blocks_sized (b ∷ bs) = omega (arith, sum_by-cons block_size b bs, blocks_sized bs)

funcs_sized : (gs : List Func) → length gs + block_total gs ≤ sum_by func_size gs
funcs_sized [] = omega arith
funcs_sized (g ∷ gs) = omega (arith, sum_by-cons func_size g gs, block_total_cons g gs, blocks_sized g.blocks, funcs_sized gs)

-- all labels are far below 2^32
pub labels_are_few : (p : Program) → IsChecked p → length p.funcs + block_total p.funcs ≤ 67108864
labels_are_few p ok = omega (arith, funcs_sized p.funcs, ok.well_formed.size)

pub block_total_both : (xs ys : List Func) → block_total (xs ++ ys) ≡ block_total xs + block_total ys
block_total_both xs ys = ap length (flat_map-append block_names xs ys) ∙ length-append (flat_map block_names xs) (flat_map block_names ys)

pub blocks_before : (f : ℕ) (gs : List Func) → block_total (take f gs) ≤ block_total gs
blocks_before zero gs = omega arith
blocks_before (suc f) [] = omega arith
blocks_before (suc f) (g ∷ gs) = omega (arith, block_total_cons g (take f gs), block_total_cons g gs, blocks_before f gs)

-- a label, and those of the functions from the i-th on
pub labels_on : (funcs : List Func) (i : ℕ) (g : Func) (label all : ℕ) → i < length funcs → g ≡ get_or funcs i g → label + block_total (drop i funcs) ≡ all
    → label + length g.blocks + block_total (drop (i + 1) funcs) ≡ all
labels_on funcs i g label all low is before =
    let rest : block_total (drop i funcs) ≡ block_total (get_or funcs i g ∷ drop (i + 1) funcs) = at_drop_more block_total funcs i g low in
    let named : block_total (get_or funcs i g ∷ drop (i + 1) funcs) ≡ block_total (g ∷ drop (i + 1) funcs) = ap (λ (h : Func). block_total (h ∷ drop (i + 1) funcs)) (sym is) in
    omega (arith, rest, named, block_total_cons g (drop (i + 1) funcs), before)

-- main is found
pub main_found : (p : Program) → IsChecked p → (funcs : List Func) → funcs ≡ p.funcs → position is_main funcs ≡ Some (main_at p)
main_found p ok funcs same =
    ap (position is_main) same
    ∙ ap (λ (b : Bool). cond b (Some (main_at p)) None) (lt-ltb (main_at p) (length p.funcs) (main_within p ok))

-- ---- functions

place_low : (item : GlobalItem) (word cell : ℕ) → word ≤ 65536 → HasLowWord (placed item word cell)
place_low (Scalar name start true) word cell low = low
place_low (Scalar name start false) word cell low = low
place_low (FnScalar name params) word cell low = low
place_low (Array name len) word cell low = low
place_low (CriticalArray name len) word cell low = low

places_low : (word cell : ℕ) (items : List GlobalItem) → word + sum_by size_in_words items ≤ 65536 → AllByRecursion HasLowWord (places_from word cell items)
places_low word cell [] low = tt
places_low word cell (x ∷ xs) low =
    let sum = sum_by-cons size_in_words x xs in (
      place_low x word cell (omega arith),
      places_low (word + size_in_words x) (cell + size_in_cells x) xs (omega (arith, sum, low)),
    )

as_many : (word cell : ℕ) (items : List GlobalItem) → length items ≡ length (places_from word cell items)
as_many word cell [] = refl
as_many word cell (x ∷ xs) = ap suc (as_many (word + size_in_words x) (cell + size_in_cells x) xs)

pub few_locals : (p : Program) → IsChecked p → (f : ℕ) (g : Func) → slice_get p.funcs f ≡ Some g → length g.locals ≤ 255
few_locals p ok f g at =
    let rules : KeepsRules p = keeps_rules p ok.accepted in
    let own : FuncKeepsRules p g = All-contains (FuncKeepsRules p) p.funcs g rules.funcs (get_in p.funcs f g at) in
    own.locals

pub func_among : (p : Program) → IsChecked p → (places : List GlobalPlace) → places ≡ global_places p → (f : ℕ) (g : Func) → slice_get p.funcs f ≡ Some g → IsFuncAmong places g
func_among p ok places same f g at =
    let rules : KeepsRules p = keeps_rules p ok.accepted in
    subst (λ (ps : List GlobalPlace). IsFuncAmong ps g) (sym same) (record {
      program = p;
      is = func_formed p ok f g at;
      has = record {
        slots = few_locals p ok f g at;
        count = as_many 0 0 p.globals;
        low = All-from_recursion HasLowWord (global_places p) (places_low 0 0 p.globals (omega (arith, rules.words)));
      };
    })

-- ---- what the loops ask

pub got : {X : Type 0} (xs ys : List X) (i : ℕ) (x : X) → xs ≡ ys → i < length xs → x ≡ get_or xs i x → slice_get ys i ≡ Some x
got xs ys i x same low is = subst (λ zs. slice_get zs i ≡ Some x) same (slice_get_read xs (length xs) i x refl low is)

-- the labels of a function's blocks, where those before it have been counted
pub labels_within : (p : Program) → IsChecked p → (funcs : List Func) → funcs ≡ p.funcs → (i : ℕ) (g : Func) (label : ℕ) → i < length funcs → g ≡ get_or funcs i g
    → label + block_total (drop i p.funcs) ≡ length p.funcs + block_total p.funcs → label + length g.blocks ≤ 67108864
labels_within p ok funcs same i g label low is before =
    let inside : i < length p.funcs = subst (λ (gs : List Func). i < length gs) same low in
    omega (arith, labels_on p.funcs i g label _ inside (is ∙ ap (λ (gs : List Func). get_or gs i g) same) before, labels_are_few p ok)

pub own_labels : (p : Program) → IsChecked p → (f : ℕ) (g : Func) → f < length p.funcs → slice_get p.funcs f ≡ Some g → label_of_block p f 0 + length g.blocks ≤ 67108864
own_labels p ok f g low at =
    let parts : block_total (take f p.funcs) + block_total (drop f p.funcs) ≡ block_total p.funcs =
    sym (block_total_both (take f p.funcs) (drop f p.funcs)) ∙ ap block_total (take-append-drop f p.funcs) in
    omega (arith, labels_on p.funcs f g (block_total (take f p.funcs)) _ low (sym (get_or_from_slice_get p.funcs f g g at)) parts, labels_are_few p ok)
