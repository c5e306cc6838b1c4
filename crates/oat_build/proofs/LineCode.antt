-- The code of a line is that which the line's law asks for, and the code of a block is that of its lines.
use Rattle.std.proofs.Common.{◌≡◌, ◌+◌, ◌<◌, ◌≤◌, ℕ, zero, suc, Bool, true, false, cond, List, [], ◌∷◌, ◌++◌, length, map, Option, Some, None, refl, sym, ap, subst, ◌∙◌, arith}
use Rattle.std.specs.{Prelude.slice_get, Prelude.take, Prelude.All, Prelude.get_or, Prelude.nat_lt, List.sum_by}
use Rattle.std.proofs.lemmas.{Bool.lt-ltb, Option.slice_get-get_or}
use Rattle.oat_check.proofs.Checking.{each_at}
use Rattle.oat_match.specs.{Item, expansion, Program, GlobalItem, Scalar, FnScalar, Array, CriticalArray, Func, BlockIr, Instr, Const, Copy, Binary, Load, Store, LoadX, StoreX, RefTo, Call, ICall}
use Rattle.oat_match.specs.{Input, Output, Term, Jump, Branch, Ret, Halt, IsInstr, IsGlobal, IsProgram, of_global, size_in_words, size_in_cells, length_at, cell_number, CodeLine, instruction}
use Rattle.oat_match.specs.{terminator, operation_number, label_of_block, jump_code, branch_code, load_code, store_code, loadx_code, storex_code, use_code, define_code, use_at_code, define_at_code}
use Rattle.oat_match.specs.{Home, home_of, is_leaf, Code.first_word_of, Code.by_cell, Code.instruction_items, Code.terminator_items, Code.block_items}
use Rattle.oat_gen.specs.{declared.globals.GlobalPlace.GlobalPlace, declared.globals.GlobalPlace.TheVariants.Ordinary, declared.globals.GlobalPlace.TheVariants.Critical, GlobalPlaces.placed}
use Rattle.oat_gen.specs.{GlobalPlaces.global_places, GlobalPlaces.place_in, GlobalPlaces.GlobalsHaveTheirPlaces, Marked.scalar_load, Marked.scalar_store, Marked.element_load, Marked.element_store}
use Rattle.oat_gen.specs.{Code.instruction_code, Code.terminator_code, Code.line_code, Code.code_lines, Code.expanded_lines, Laws.MarkedCodeExpands, Laws.OtherCodeStays}

-- ---- globals: the two ways to say whether one is critical

-- A global lies at its words, and if it has cells at these.
abbrev place_by : Option ℕ → (word len : ℕ) → GlobalPlace → Type 0
place_by None word len place = place ≡ Ordinary word len
place_by (Some cell) word len place = place ≡ Critical word cell len

placed_by : (item : GlobalItem) (word cell : ℕ) → IsGlobal item → place_by (cond (nat_lt 0 (size_in_cells item)) (Some (cell + 0)) None) word (size_in_words item) (placed item word cell)
placed_by (Scalar name start true) word cell ok = ap (λ (c : ℕ). Critical word c 1) (omega arith)
placed_by (Scalar name start false) word cell ok = refl
placed_by (FnScalar name params) word cell ok = refl
placed_by (Array name len) word cell ok = refl
placed_by (CriticalArray name len) word cell ok =
    let least : 1 ≤ len = ok.0 in
    subst (λ (b : Bool). place_by (cond b (Some (cell + 0)) None) word len (Critical word cell len)) (sym (lt-ltb 0 len (omega arith))) (ap (λ (c : ℕ). Critical word c len) (omega arith))

module _ (p : Program) (formed : IsProgram p) (placing : GlobalsHaveTheirPlaces) where
  place_is : (g : ℕ) → g < length p.globals → place_by (cell_number p g 0) (first_word_of p g) (length_at p g) (place_in (global_places p) g)
  place_is g less =
      let item = get_or p.globals g (Array [] 0) in
      let is : slice_get p.globals g ≡ Some item = slice_get-get_or p.globals g (Array [] 0) less in
      let one = placed_by item (first_word_of p g) (sum_by size_in_cells (take g p.globals)) (each_at IsGlobal p.globals g item formed.globals is) in
      let by : (o : Option GlobalItem) → o ≡ Some item
      → place_by (cond (nat_lt 0 (of_global size_in_cells o)) (Some (sum_by size_in_cells (take g p.globals) + 0)) None) (first_word_of p g) (of_global size_in_words o) (placed item (first_word_of p g) (sum_by size_in_cells (take g p.globals))) =
      λ o e. subst (λ (q : Option GlobalItem). place_by (cond (nat_lt 0 (of_global size_in_cells q)) (Some (sum_by size_in_cells (take g p.globals) + 0)) None) (first_word_of p g) (of_global size_in_words q) (placed item (first_word_of p g) (sum_by size_in_cells (take g p.globals)))) (sym e) one in
      subst (place_by (cell_number p g 0) (first_word_of p g) (length_at p g)) (sym (placing p g item is)) (by (slice_get p.globals g) is)

-- ---- lines

module _ (expands : MarkedCodeExpands) (stays : OtherCodeStays) where
  loads : (o : Option ℕ) (word len : ℕ) (place : GlobalPlace) (x : Home) → place_by o word len place → expansion (scalar_load place x) ≡ by_cell o (load_code x word) (λ cell. use_code x word cell)
  loads None word len place x is = ap (λ (q : GlobalPlace). expansion (scalar_load q x)) is ∙ stays.load x word
  loads (Some cell) word len place x is = ap (λ (q : GlobalPlace). expansion (scalar_load q x)) is ∙ expands.load word cell len x

  stores : (o : Option ℕ) (word len : ℕ) (place : GlobalPlace) (x : Home) → place_by o word len place → expansion (scalar_store place x) ≡ by_cell o (store_code word x) (λ cell. define_code word cell x)
  stores None word len place x is = ap (λ (q : GlobalPlace). expansion (scalar_store q x)) is ∙ stays.store word x
  stores (Some cell) word len place x is = ap (λ (q : GlobalPlace). expansion (scalar_store q x)) is ∙ expands.store word cell len x

  element_loads : (o : Option ℕ) (word len : ℕ) (place : GlobalPlace) (x i : Home) → place_by o word len place
      → expansion (element_load place x i) ≡ by_cell o (loadx_code x word len i) (λ cell. use_at_code x word cell len i)
  element_loads None word len place x i is = ap (λ (q : GlobalPlace). expansion (element_load q x i)) is ∙ stays.loadx x word len i
  element_loads (Some cell) word len place x i is = ap (λ (q : GlobalPlace). expansion (element_load q x i)) is ∙ expands.loadx word cell len x i

  element_stores : (o : Option ℕ) (word len : ℕ) (place : GlobalPlace) (i x : Home) → place_by o word len place
      → expansion (element_store place i x) ≡ by_cell o (storex_code word len i x) (λ cell. define_at_code word cell len i x)
  element_stores None word len place i x is = ap (λ (q : GlobalPlace). expansion (element_store q i x)) is ∙ stays.storex word len i x
  element_stores (Some cell) word len place i x is = ap (λ (q : GlobalPlace). expansion (element_store q i x)) is ∙ expands.storex word cell len i x

  module _ (p : Program) (formed : IsProgram p) (placing : GlobalsHaveTheirPlaces) where
    instruction_same : (func : Func) (i : Instr) → IsInstr p func i → expansion (instruction_code (global_places p) (is_leaf func) i) ≡ instruction_items p (is_leaf func) i
    instruction_same func (Const x value) ok = stays.const (home_of (is_leaf func) x) value
    instruction_same func (Copy x y) ok = stays.copy (home_of (is_leaf func) x) (home_of (is_leaf func) y)
    instruction_same func (Binary op x y z) ok = stays.binary op (home_of (is_leaf func) x) (home_of (is_leaf func) y) (home_of (is_leaf func) z)
    instruction_same func (Load x g) ok = loads (cell_number p g 0) (first_word_of p g) (length_at p g) (place_in (global_places p) g) (home_of (is_leaf func) x) (place_is p formed placing g ok.1)
    instruction_same func (Store g x) ok = stores (cell_number p g 0) (first_word_of p g) (length_at p g) (place_in (global_places p) g) (home_of (is_leaf func) x) (place_is p formed placing g ok.0)
    instruction_same func (LoadX x g i) ok = element_loads (cell_number p g 0) (first_word_of p g) (length_at p g) (place_in (global_places p) g) (home_of (is_leaf func) x) (home_of (is_leaf func) i) (place_is p formed placing g ok.1)
    instruction_same func (StoreX g i x) ok = element_stores (cell_number p g 0) (first_word_of p g) (length_at p g) (place_in (global_places p) g) (home_of (is_leaf func) i) (home_of (is_leaf func) x) (place_is p formed placing g ok.0)
    instruction_same func (RefTo x callee) ok = stays.ref (home_of (is_leaf func) x) callee
    instruction_same func (Call x callee args) ok = expands.call args callee x
    instruction_same func (ICall x y args) ok = expands.icall args y x
    instruction_same func (Input x) ok = stays.input (home_of (is_leaf func) x)
    instruction_same func (Output x) ok = stays.output (home_of (is_leaf func) x)

    label_is : (f to : ℕ) → label_of_block p f 0 + to ≡ label_of_block p f to
    label_is f to = omega arith

    terminator_same : (f : ℕ) (func : Func) (t : Term) → expansion (terminator_code (label_of_block p f 0) func t) ≡ terminator_items p f func (is_leaf func) t
    terminator_same f func (Jump to) = expands.jump (label_of_block p f 0 + to) ∙ ap jump_code (label_is f to)
    terminator_same f func (Branch x first second) =
        expands.branch (home_of (is_leaf func) x) (label_of_block p f 0 + first) (label_of_block p f 0 + second)
        ∙ ap (λ (l : ℕ). branch_code (home_of (is_leaf func) x) l (label_of_block p f 0 + second)) (label_is f first)
        ∙ ap (λ (l : ℕ). branch_code (home_of (is_leaf func) x) (label_of_block p f first) l) (label_is f second)
    terminator_same f func (Ret x) = expands.leave (length func.locals) (home_of (is_leaf func) x) (operation_number func.role)
    terminator_same f func Halt = stays.halt

    lines_same : (f : ℕ) (func : Func) (instrs : List Instr) (t : Term) → All (IsInstr p func) instrs
        → map (λ (line : CodeLine). expansion (line_code (global_places p) (label_of_block p f 0) func line)) (map instruction instrs ++ terminator t ∷ []) ≡ map (instruction_items p (is_leaf func)) instrs ++ terminator_items p f func (is_leaf func) t ∷ []
    lines_same f func [] t each = ap (λ (is : List Item). is ∷ []) (terminator_same f func t)
    lines_same f func (i ∷ instrs) t each =
        ap (λ (is : List Item). is ∷ map (λ (line : CodeLine). expansion (line_code (global_places p) (label_of_block p f 0) func line)) (map instruction instrs ++ terminator t ∷ [])) (instruction_same func i (each_at (IsInstr p func) (i ∷ instrs) 0 i each refl))
        ∙ ap (λ (rest : List (List Item)). instruction_items p (is_leaf func) i ∷ rest) (lines_same f func instrs t (λ k d l. each (suc k) d (let e : k < length instrs = l in omega arith)))

    pub block_same : (f : ℕ) (func : Func) (block : BlockIr) → All (IsInstr p func) block.instrs → expanded_lines (global_places p) (label_of_block p f 0) func block ≡ block_items p f func block
    block_same f func block each = lines_same f func block.instrs block.term each
