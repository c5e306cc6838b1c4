-- The code of each function of a checked program is a prologue that begins its operation, and a stretch for each block.
use Rattle.std.proofs.Common.{◌≡◌, ℕ, ◌+◌, ◌<◌, ◌≤◌, Bool, true, false, ◌&&◌, List, [], ◌∷◌, length, map, take, refl, sym, ap, ◌∙◌, subst, All, Some, None, arith, lit<, inl, inr}
use Rattle.std.specs.{Prelude.slice_get, Prelude.Contains, List.sum_by, List.AllByRecursion}
use Rattle.std.proofs.lemmas.{Bool.and_parts, Bool.false≢true, Option.slice_get_cases, List.length-map, List.Elements.All-contains, List.Elements.Contains-append_cases}
use Rattle.oat_parts.proofs.Lists.{first_in, later_in, cons_cases, not_in_none, get_in, in_get, of_map}
use Rattle.oat_ir.specs.declared.instr.Term.TheVariants.{Jump, Branch, Ret}
use Rattle.oat_check.proofs.Checking.{func_formed, instr_allowed}
use Rattle.oat_frames.proofs.FrameLaws.{is-home}
use Rattle.oat_globals.specs.{Ldr, IsOperationNumber, Program, GlobalItem, Scalar, FnScalar, Array, CriticalArray, Func, Role, Plain, Operation, Main, BlockIr, Instr, Const, Copy, Binary, Load, Store}
use Rattle.oat_globals.specs.{LoadX, StoreX, RefTo, Call, ICall, Input, Output, Term, Halt, HasLocal, IsInstr, IsTerm, IsGlobal, IsBlockIr, IsFunc, IsProgram, IsRole, size_in_words, size_in_cells}
use Rattle.oat_globals.specs.{word_number, cell_number, CodeLine, instruction, terminator, IsChecked, holds_number, names_array, is_array, passes, IsAllowed, WordsAreFew, operation_number, IsHome}
use Rattle.oat_globals.specs.{home_store, home_of, is_leaf}
use Rattle.oat_locals.specs.Code.{halt_code}
use Rattle.oat_locals.proofs.LineLaws.{lines-are-in-range}
use Rattle.oat_symbols.specs.{SymbolTable, IsBlockLabel, IsStretch, is_set, Programs.symbols_of, Programs.label_of_block, Programs.HasItsLabels, Programs.HasItsCells, Programs.ProgramsHaveTheirLabels}
use Rattle.oat_symbols.specs.{Programs.ProgramsHaveTheirCells, Codes.IsCodeOf}
use Rattle.oat_symbols.proofs.Elements.{numbered}
use Rattle.oat_gen.specs.{declared.globals.GlobalPlace.GlobalPlace, GlobalPlaces.global_places, GlobalPlaces.place_in, GlobalPlaces.placed, Code.instruction_code, Code.terminator_code, Code.line_code}
use Rattle.oat_gen.specs.{Code.code_lines, Code.block_code, Code.function_code, Laws.FunctionsHaveTheirCode}
use Rattle.oat_gen.proofs.{Bounds.few_locals, Placing.globals_have_their_places, Stretches.Made, Stretches.nothing, Stretches.inst_then, Stretches.check_now, Stretches.plain_then}
use Rattle.oat_gen.proofs.{Stretches.reference_then, Stretches.mark_then, Stretches.lines_made, LineParts.load_then, LineParts.store_last, LineParts.const_made, LineParts.copy_made}
use Rattle.oat_gen.proofs.{LineParts.input_made, LineParts.output_made, LineParts.binary_made, LineParts.loads_slot, LineParts.tested_made, LineParts.followed, LineParts.return_made}
use Rattle.oat_gen.proofs.{LineParts.start_made, LineParts.IsScalarPlace, LineParts.IsArrayPlace, LineParts.load_made, LineParts.store_made, LineParts.element_made, LineParts.element_stored}
use Rattle.oat_gen.proofs.{Words.block_words, Words.some_words}
use Rattle.oat_asm.specs.declared.mark.Mark.TheVariants as mark

first_holds : (a b c : Bool) → (a && b && c) ≡ true → a ≡ true
first_holds a b c all = (and_parts a b (and_parts (a && b) c all).0).0

second_holds : (a b c : Bool) → (a && b && c) ≡ true → b ≡ true
second_holds a b c all = (and_parts a b (and_parts (a && b) c all).0).1

module _ (labelled : ProgramsHaveTheirLabels) (celled : ProgramsHaveTheirCells) (low : WordsAreFew) (p : Program) (ok : IsChecked p) where
  abbrev table : SymbolTable
  table = symbols_of p

  abbrev places : List GlobalPlace
  places = global_places p

  labels : HasItsLabels p
  labels = labelled p ok

  cells : HasItsCells p
  cells = celled p ok

  -- ---- globals

  -- the first word and cell of global g
  abbrev word_of : ℕ → ℕ
  word_of g = sum_by size_in_words (take g p.globals)

  abbrev cell_of : ℕ → ℕ
  cell_of g = sum_by size_in_cells (take g p.globals)

  no_more : (n : ℕ) → n + 0 ≡ n
  no_more n = omega arith

  item_at : (g : ℕ) → g < length p.globals → (item : GlobalItem) × (slice_get p.globals g ≡ Some item)
  item_at g low =
      elim (slice_get_cases p.globals g).1 [
        | inl found ↦ (found.0, found.2)
        | inr past ↦ absurd (omega (arith, low, past.0))
      ]

  sized : (g : ℕ) (item : GlobalItem) → slice_get p.globals g ≡ Some item → IsGlobal item
  sized g item at = let formed : IsProgram p = ok.well_formed in All-contains IsGlobal p.globals item formed.globals (get_in p.globals g item at)

  word_is : (g : ℕ) (item : GlobalItem) → slice_get p.globals g ≡ Some item → 1 ≤ size_in_words item → word_number p g 0 ≡ Some (word_of g)
  word_is g item at some = numbered size_in_words p.globals g 0 item at some ∙ ap Some (no_more (word_of g))

  cell_is : (g : ℕ) (item : GlobalItem) → slice_get p.globals g ≡ Some item → 1 ≤ size_in_cells item → cell_number p g 0 ≡ Some (cell_of g)
  cell_is g item at some = numbered size_in_cells p.globals g 0 item at some ∙ ap Some (no_more (cell_of g))

  word_low : (g : ℕ) (item : GlobalItem) → slice_get p.globals g ≡ Some item → 1 ≤ size_in_words item → word_of g < 65536
  word_low g item at some = low p ok g 0 (word_of g) (word_is g item at some)

  cell_has : (g : ℕ) (item : GlobalItem) → slice_get p.globals g ≡ Some item → 1 ≤ size_in_cells item → 1 ≤ size_in_words item → slice_get table.cells (cell_of g) ≡ Some (word_of g)
  cell_has g item at some more = cells.elements g 0 (cell_of g) (word_of g) (cell_is g item at some) (word_is g item at more)

  -- where it lies, by its kind
  scalar_by : (g : ℕ) (item : GlobalItem) → slice_get p.globals g ≡ Some item → IsGlobal item → IsScalarPlace p (placed item (word_of g) (cell_of g))
  scalar_by g (Scalar name start true) at long = cell_has g (Scalar name start true) at (omega arith) (omega arith)
  scalar_by g (Scalar name start false) at long = word_low g (Scalar name start false) at (omega arith)
  scalar_by g (FnScalar name params) at long = word_low g (FnScalar name params) at (omega arith)
  scalar_by g (Array name len) at long = word_low g (Array name len) at long.0
  scalar_by g (CriticalArray name len) at long = cell_has g (CriticalArray name len) at long.0 long.0

  array_by : (g : ℕ) (item : GlobalItem) → slice_get p.globals g ≡ Some item → IsGlobal item → is_array item ≡ true → IsArrayPlace p (placed item (word_of g) (cell_of g))
  array_by g (Scalar name start critical) at long typed = absurd (false≢true typed)
  array_by g (FnScalar name params) at long typed = absurd (false≢true typed)
  array_by g (Array name len) at long typed = (word_low g (Array name len) at long.0, long.1)
  array_by g (CriticalArray name len) at long typed =
      cells.arrays g (cell_of g) (word_of g) len name at (cell_is g (CriticalArray name len) at long.0) (word_is g (CriticalArray name len) at long.0)

  scalar_lies : (g : ℕ) → g < length p.globals → IsScalarPlace p (place_in places g)
  scalar_lies g within =
      let r = item_at g within in
      subst (IsScalarPlace p) (sym (globals_have_their_places p g r.0 r.1)) (scalar_by g r.0 r.1 (sized g r.0 r.1))

  array_lies : (g : ℕ) → g < length p.globals → names_array p g ≡ true → IsArrayPlace p (place_in places g)
  array_lies g within typed =
      let r = item_at g within in
      let array : is_array r.0 ≡ true = sym (ap (passes is_array) r.1) ∙ typed in
      subst (IsArrayPlace p) (sym (globals_have_their_places p g r.0 r.1)) (array_by g r.0 r.1 (sized g r.0 r.1) array)

  -- ---- the lines of function f

  module _ (f : ℕ) (func : Func) (at : slice_get p.funcs f ≡ Some func) where
    formed : IsFunc p func
    formed = func_formed p ok f func at

    slots : length func.locals ≤ 255
    slots = few_locals p ok f func at

    slotted : (x : ℕ) → HasLocal func x → x < 255
    slotted x within = omega (arith, within, slots)

    in_slots : (args : List ℕ) → All (HasLocal func) args → (k : ℕ) → Contains args k → k < 255
    in_slots args all k has = slotted k (All-contains (HasLocal func) args k all has)

    homed : (x : ℕ) → HasLocal func x → IsHome (home_of (is_leaf func) x)
    homed x within = is-home (is_leaf func) x (slotted x within)

    instruction_made : (i : Instr) → IsInstr p func i → IsAllowed p func (instruction i) → Made table [] (instruction_code places (is_leaf func) i)
    instruction_made (Const x value) h k = const_made table _ value (homed x h)
    instruction_made (Copy x y) h k = copy_made table _ _ (homed x h.0) (homed y h.1)
    instruction_made (Binary op x y z) h k = binary_made table op _ _ _ (homed x h.0) (homed y h.1) (homed z h.2)
    instruction_made (Load x g) h k = load_made p (place_in places g) _ (scalar_lies g h.1) (homed x h.0)
    instruction_made (Store g x) h k = store_made p (place_in places g) _ (scalar_lies g h.0) (homed x h.1)
    instruction_made (LoadX x g i) h k = element_made p (place_in places g) _ _ (array_lies g h.1 (second_holds (holds_number func x) (names_array p g) (holds_number func i) k.typed)) (homed x h.0) (homed i h.2)
    instruction_made (StoreX g i x) h k = element_stored p (place_in places g) _ _ (array_lies g h.0 (first_holds (names_array p g) (holds_number func i) (holds_number func x) k.typed)) (homed x h.2) (homed i h.1)
    instruction_made (RefTo x callee) h k =
        reference_then table [] 9 callee (home_store 9 (home_of (is_leaf func) x) ∷ []) (omega arith) (labels.functions callee h.1) (store_last table 9 (home_of (is_leaf func) x) (lit< tt) (homed x h.0))
    instruction_made (Call x callee args) h k =
        tested_made table args _ h.2.0 (in_slots args h.2.1) (followed table (mark.Call callee) x refl (labels.functions callee h.1) (slotted x h.0))
    instruction_made (ICall x y args) h k =
        let few = h.2.0 in
        let calls = tested_made table args _ few (in_slots args h.2.1) (followed table (mark.ICall (length args)) x refl few (slotted x h.0)) in
        inst_then table [] (Ldr 9 31 (y + 1)) _ (loads_slot 9 y (lit< tt) (slotted y h.1)) refl (check_now table [] (is_set 9) 3 _ (lit< tt, (lit< tt, tt)) (lit< tt) calls)
    instruction_made (Input x) h k = input_made table _ (homed x h)
    instruction_made (Output x) h k = output_made table _ (homed x h)

    abbrev first : ℕ
    first = label_of_block p f 0

    -- the label of a block
    block_labelled : (b : ℕ) → b < length func.blocks → IsBlockLabel table (first + b)
    block_labelled b within =
        let same : label_of_block p f b ≡ first + b = omega arith in
        subst (IsBlockLabel table) same (labels.blocks f b func at within)

    -- the number of the operation
    numbered_by : (role : Role) (n : ℕ) → IsRole role func → operation_number role ≡ Some n → IsOperationNumber n
    numbered_by Plain n h none = absurd (let e : None ≡ Some n = none in cc)
    numbered_by Main n h none = absurd (let e : None ≡ Some n = none in cc)
    numbered_by (Operation id) n h same = let e : id ≡ n = cc in subst IsOperationNumber e h

    operation_is : (n : ℕ) → operation_number func.role ≡ Some n → IsOperationNumber n
    operation_is n is = numbered_by func.role n formed.role is

    terminator_made : (t : Term) → IsTerm func t → Made table [] (terminator_code first func t)
    terminator_made (Jump to) h = mark_then table [] (mark.Jump (first + to)) [] refl (block_labelled to h) (nothing table)
    terminator_made (Branch x taken other) h =
        load_then table 9 (home_of (is_leaf func) x) _ (lit< tt) (homed x h.0)
        (mark_then table [] (mark.Branch (first + taken) (first + other)) [] refl (block_labelled taken h.1, block_labelled other h.2) (nothing table))
    terminator_made (Ret x) h = return_made table (length func.locals) (home_of (is_leaf func) x) (operation_number func.role) slots (homed x h) (λ n is. (operation_is n is, labels.operations f n func at is))
    terminator_made Halt h = plain_then table [] halt_code [] refl lines-are-in-range.halt (λ r. nothing table)

    -- ---- blocks

    stretch : (b : ℕ) (block : BlockIr) → slice_get func.blocks b ≡ Some block → IsStretch table [] (block_code places first func block)
    stretch b block there = record { made = lines_made table (line_code places first func) (code_lines block) line; word = (block_words places first p func block own).0 } where
      own : IsBlockIr p func block
      own = All-contains (IsBlockIr p func) func.blocks block formed.blocks (get_in func.blocks b block there)

      of_instr : (line : CodeLine) → Contains (map instruction block.instrs) line → Made table [] (line_code places first func line)
      of_instr line has =
          let r = of_map instruction block.instrs line has in
          let k = in_get block.instrs r.0 r.1 in
          subst (λ (l : CodeLine). Made table [] (line_code places first func l)) r.2
          (instruction_made r.0 (All-contains (IsInstr p func) block.instrs r.0 own.0 r.1) (instr_allowed p ok f func at b block there k.0 r.0 k.1))

      line : (line : CodeLine) → Contains (code_lines block) line → Made table [] (line_code places first func line)
      line l has =
          elim (Contains-append_cases (map instruction block.instrs) (terminator block.term ∷ []) l has) [
            | inl before ↦ of_instr l before
            | inr last ↦ elim (cons_cases (terminator block.term) [] l last) [
              | inl same ↦ subst (λ (m : CodeLine). Made table [] (line_code places first func m)) same (terminator_made block.term own.1)
              | inr none ↦ absurd (not_in_none l none)
            ]
          ]

    stretches : (bs : List BlockIr) → ((block : BlockIr) → Contains bs block → Contains func.blocks block) → AllByRecursion (IsStretch table []) (map (block_code places first func) bs)
    stretches [] own = tt
    stretches (b ∷ bs) own =
        let k = in_get func.blocks b (own b (first_in b bs)) in
        (stretch k.0 b k.1, stretches bs (λ c has. own c (later_in b bs c has)))

    pub code_is : IsCodeOf table func (function_code p f func)
    code_is = record {
      prologue = record {
        made = start_made table (is_leaf func) func.params (length func.locals) (operation_number func.role) formed.few_params slots operation_is;
        word = some_words (is_leaf func) func.params (length func.locals) (operation_number func.role);
      };
      blocks = stretches func.blocks (λ block has. has);
      count = length-map func.blocks (block_code places first func);
    }

pub functions_have_their_code : ProgramsHaveTheirLabels → ProgramsHaveTheirCells → WordsAreFew → FunctionsHaveTheirCode
functions_have_their_code labelled celled low p f func ok at = code_is labelled celled low p ok f func at
