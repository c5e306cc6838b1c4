-- The items of a leaf with at most eight locals spare the stack.
use Rattle.std.proofs.Common.{◌≡◌, ◌+◌, ◌<◌, ◌≤◌, ◌&&◌, ◌||◌, ℕ, zero, suc, pos, Bool, true, false, not, cond, ltb, leb, eqb, List, [], ◌∷◌, ◌++◌, length, map, Option, Some, None, option_map}
use Rattle.std.proofs.Common.{unwrap_or, refl, sym, ap, ◌∙◌, arith, append_assoc}
use Rattle.std.specs.{Prelude.slice_get, Prelude.Contains, List.list_all, List.list_any}
use Rattle.std.proofs.lemmas.{Bool.lt-ltb, Bool.le-leb, Bool.le-ltb, Bool.leb-true, Bool.and_parts, Bool.false≢true, Option.slice_get_within, List.Elements.All-contains, List.Folds.list_any_at}
use Rattle.oat_parts.proofs.Lists.{first_in, later_in}
use Rattle.oat_ir.specs.declared.instr.Term.TheVariants.{Jump, Branch, Ret}
use Rattle.oat_check.proofs.{Checking.func_formed, Frames.There, Frames.there}
use Rattle.oat_globals.specs.{AddImm, AddReg, Ldr, Str, Cbnz, Brk, Svc, Item, Program, Func, BlockIr, BinOp, Add, Sub, Mul, And, Or, Xor, Shl, Shr, Sar, Eq, Ne, Lt, Le, Ltu, Leu, Div, Rem, Divu, Remu}
use Rattle.oat_globals.specs.{Instr, Const, Copy, Binary, Load, Store, LoadX, StoreX, RefTo, Call, ICall, Input, Output, Term, Halt, HasLocal, IsInstr, IsTerm, IsBlockIr, IsFunc, instruction}
use Rattle.oat_globals.specs.{terminator, is_calling, operation_number, Home, slot, register, home_of, frame_size, home_load, home_store, argument_loads, local_stores, depth_tested, behind_call}
use Rattle.oat_globals.specs.{is_leaf, lines_code, Code.number_code, Code.address_code, Code.index_test}
use Rattle.oat_locals.specs.Code.{operand_in, operand_load, operand_store, operation_code}
use Rattle.oat_symbols.specs.{blocks_code, Programs.label_of_block, Programs.main_at}
use Rattle.oat_symbols.proofs.Programs.{main_within}
use Rattle.oat_gen.specs.{declared.globals.GlobalPlace.GlobalPlace, declared.globals.GlobalPlace.TheVariants.Ordinary, declared.globals.GlobalPlace.TheVariants.Critical, GlobalPlaces.global_places}
use Rattle.oat_gen.specs.{GlobalPlaces.place_in, Marked.begin_mark, Marked.marked_start, Marked.marked_return, Marked.scalar_load, Marked.scalar_store, Marked.element_load, Marked.element_store}
use Rattle.oat_gen.specs.{Code.instruction_code, Code.terminator_code, Code.line_code, Code.block_code, Code.program_items, Steps.function_items, Steps.others_items, Leaves.spares_stack}
use Rattle.oat_gen.specs.{Leaves.is_function_label, Leaves.LeavesSpareStack, Leaves.ProgramsSpareStack}
use Rattle.oat_gen.proofs.Laying.{laid_by}
use Rattle.oat_asm.specs.declared.item.Item.TheVariants as item
use Rattle.oat_asm.specs.declared.mark.Mark.TheVariants as mark
use Rattle.oat_asm.specs.declared.note.Note.TheVariants as note

-- ---- along the items: whether the function that they are of is such a leaf

either : (b : Bool) → (b || true) ≡ true
either true = refl
either false = refl

both_true : (a b : Bool) → a ≡ true → b ≡ true → (a && b) ≡ true
both_true a b p q = ap (λ (t : Bool). t && b) p ∙ q

not_true : (b : Bool) → not b ≡ true → b ≡ false
not_true true h = absurd (false≢true h)
not_true false h = refl

-- an item of a list that passes a test
found : {X : Type 0} (test : X → Bool) (xs : List X) (x : X) → Contains xs x → test x ≡ true → list_any test xs ≡ true
found test xs x has passes = list_any_at test xs has.0 x has.1 (ap test has.2 ∙ passes)

-- a leaf with at most eight locals
abbrev is_quiet : Func → Bool
is_quiet func = is_leaf func && leb (length func.locals) 8

module _ (p : Program) where
  abbrev quiet_at : ℕ → Bool
  quiet_at f = unwrap_or (option_map is_quiet (slice_get p.funcs f)) false

  abbrev quiet_behind : Bool → Item → Bool
  quiet_behind q (item.Label l) = cond (ltb l (length p.funcs)) (quiet_at l) q
  quiet_behind q _ = q

  abbrev scan : Bool → List Item → Bool
  scan q [] = true
  scan q (i ∷ is) = (spares_stack i || not q) && scan (quiet_behind q i) is

  -- ---- what a scan says of the items of a function

  behind : (before is : List Item) (q : Bool) → scan q (before ++ is) ≡ true → (r : Bool) × (scan r is ≡ true)
  behind [] is q h = (q, h)
  behind (i ∷ before) is q h = behind before is (quiet_behind q i) (and_parts (spares_stack i || not q) (scan (quiet_behind q i) (before ++ is)) h).1

  stays : (q : Bool) (i : Item) → is_function_label p i ≡ false → quiet_behind q i ≡ q
  stays q (item.Label l) none = ap (λ (t : Bool). cond t (quiet_at l) q) none
  stays q (item.Inst i) none = refl
  stays q (item.BranchTo form l) none = refl
  stays q (item.AddressOf r l) none = refl
  stays q (item.Mark m) none = refl
  stays q (item.Note n) none = refl

  neither : (a b : Bool) → (a || b) ≡ false → (a ≡ false) × (b ≡ false)
  neither true b h = absurd (false≢true (sym h))
  neither false b h = (refl, h)

  or_false : (a : Bool) → (a || false) ≡ true → a ≡ true
  or_false true h = refl
  or_false false h = absurd (false≢true h)

  spared : (code after : List Item) → scan true (code ++ after) ≡ true → list_any (is_function_label p) code ≡ false → list_all spares_stack code ≡ true
  spared [] after h own = refl
  spared (i ∷ code) after h own =
      let parts = and_parts (spares_stack i || false) (scan (quiet_behind true i) (code ++ after)) h in
      let none = neither (is_function_label p i) (list_any (is_function_label p) code) own in
      both_true (spares_stack i) (list_all spares_stack code) (or_false (spares_stack i) parts.0)
      (spared code after (ap (λ (q : Bool). scan q (code ++ after)) (sym (stays true i none.0)) ∙ parts.1) none.1)

  leaves_spare : (items : List Item) → scan false items ≡ true → LeavesSpareStack p items
  leaves_spare items h f func code at leaf few of =
      let low : f < length p.funcs = slice_get_within p.funcs f func at in
      let quiet : quiet_at f ≡ true = ap (λ (o : Option Func). unwrap_or (option_map is_quiet o) false) at ∙ both_true (is_leaf func) (leb (length func.locals) 8) leaf (le-leb (length func.locals) 8 few) in
      let there = behind of.before (item.Label f ∷ (code ++ of.after)) false (ap (scan false) (sym of.are) ∙ h) in
      let state : cond (ltb f (length p.funcs)) (quiet_at f) there.0 ≡ true = ap (λ (t : Bool). cond t (quiet_at f) there.0) (lt-ltb f (length p.funcs) low) ∙ quiet in
      spared code of.after (ap (λ (q : Bool). scan q (code ++ of.after)) (sym state) ∙ there.1) of.own

  -- ---- items without labels, which spare the stack where they have to

  abbrev is_label : Item → Bool
  is_label (item.Label l) = true
  is_label _ = false

  abbrev fits : Bool → Item → Bool
  fits q i = not (is_label i) && (spares_stack i || not q)

  fitted : (q : Bool) (i : Item) → fits q i ≡ true → ((spares_stack i || not q) ≡ true) × (quiet_behind q i ≡ q)
  fitted q (item.Label l) h = absurd (false≢true h)
  fitted q (item.Inst i) h = (h, refl)
  fitted q (item.BranchTo form l) h = (h, refl)
  fitted q (item.AddressOf r l) h = (h, refl)
  fitted q (item.Mark m) h = (h, refl)
  fitted q (item.Note n) h = (h, refl)

  fits_then : (q : Bool) (is rest : List Item) → list_all (fits q) is ≡ true → scan q rest ≡ true → scan q (is ++ rest) ≡ true
  fits_then q [] rest h k = k
  fits_then q (i ∷ is) rest h k =
      let parts = and_parts (fits q i) (list_all (fits q) is) h in
      let own = fitted q i parts.0 in
      both_true (spares_stack i || not q) (scan (quiet_behind q i) (is ++ rest)) own.0 (ap (λ (r : Bool). scan r (is ++ rest)) own.1 ∙ fits_then q is rest parts.1 k)

  all_both : (q : Bool) (is js : List Item) → list_all (fits q) is ≡ true → list_all (fits q) js ≡ true → list_all (fits q) (is ++ js) ≡ true
  all_both q [] js h k = k
  all_both q (i ∷ is) js h k = let parts = and_parts (fits q i) (list_all (fits q) is) h in both_true (fits q i) (list_all (fits q) (is ++ js)) parts.0 (all_both q is js parts.1 k)

  -- ---- lines

  abbrev is_register : Home → Bool
  is_register (register r) = true
  is_register (slot k) = false

  module _ (q : Bool) where
    abbrev Fits : List Item → Type 0
    Fits is = list_all (fits q) is ≡ true

    -- where the function is such a leaf, the home is a register
    abbrev Holds : Home → Type 0
    Holds home = q ≡ true → is_register home ≡ true

    free : (b t : Bool) → (q ≡ true → false ≡ true) → q ≡ t → (b || not q) ≡ true
    free b true none is = absurd (false≢true (none is))
    free b false none is = ap (λ (r : Bool). b || not r) is ∙ either b

    load_fits : (r : ℕ) (home : Home) → Holds home → fits q (home_load r home) ≡ true
    load_fits r (register n) h = refl
    load_fits r (slot k) h = free (eqb r 30) q h refl

    store_fits : (r : ℕ) (home : Home) → Holds home → fits q (home_store r home) ≡ true
    store_fits r (register n) h = refl
    store_fits r (slot k) h = free (eqb r 30) q h refl

    first_load : (r : ℕ) (home : Home) (is : List Item) → Holds home → Fits is → Fits (home_load r home ∷ is)
    first_load r home is h rest = both_true (fits q (home_load r home)) (list_all (fits q) is) (load_fits r home h) rest

    last_store : (r : ℕ) (home : Home) → Holds home → Fits (home_store r home ∷ [])
    last_store r home h = both_true (fits q (home_store r home)) true (store_fits r home h) refl

    operand_fits : (r : ℕ) (home : Home) (is : List Item) → Holds home → Fits is → Fits (operand_load r home ++ is)
    operand_fits r (slot k) is h rest = first_load r (slot k) is h rest
    operand_fits r (register n) is h rest = rest

    result_fits : (r : ℕ) (home : Home) → Holds home → Fits (operand_store r home)
    result_fits r (slot k) h = last_store r (slot k) h
    result_fits r (register n) h = refl

    operation_fits : (op : BinOp) (d a b : ℕ) → Fits (operation_code op d a b)
    operation_fits Add d a b = refl
    operation_fits Sub d a b = refl
    operation_fits Mul d a b = refl
    operation_fits And d a b = refl
    operation_fits Or d a b = refl
    operation_fits Xor d a b = refl
    operation_fits Shl d a b = refl
    operation_fits Shr d a b = refl
    operation_fits Sar d a b = refl
    operation_fits Eq d a b = refl
    operation_fits Ne d a b = refl
    operation_fits Lt d a b = refl
    operation_fits Le d a b = refl
    operation_fits Ltu d a b = refl
    operation_fits Leu d a b = refl
    operation_fits Div d a b = refl
    operation_fits Rem d a b = refl
    operation_fits Divu d a b = refl
    operation_fits Remu d a b = refl

    place_fits : (at : GlobalPlace) (x : Home) → Holds x → Fits (scalar_load at x) × Fits (scalar_store at x)
    place_fits (Ordinary word len) x h = (last_store 9 x h, first_load 9 x (item.Inst (Str 9 11 0) ∷ []) h refl)
    place_fits (Critical word cell len) x h = (last_store 10 x h, first_load 10 x (item.Mark (mark.DefCell cell word) ∷ []) h refl)

    element_fits : (at : GlobalPlace) (x i : Home) → Holds x → Holds i → Fits (element_load at x i) × Fits (element_store at i x)
    element_fits (Ordinary word len) x i h k =
        let address : List Item = number_code len ++ index_test ++ address_code word ++ item.Inst (AddReg 11 11 12 3) ∷ [] in (
          first_load 12 i (address ++ item.Inst (Ldr 9 11 0) ∷ home_store 9 x ∷ []) k (last_store 9 x h),
          first_load 12 i (address ++ home_load 9 x ∷ item.Inst (Str 9 11 0) ∷ []) k (first_load 9 x (item.Inst (Str 9 11 0) ∷ []) h refl),
        )
    element_fits (Critical word cell len) x i h k = (
      first_load 12 i (item.Mark (mark.UseAt cell len word) ∷ home_store 10 x ∷ []) k (last_store 10 x h),
      first_load 12 i (home_load 10 x ∷ item.Mark (mark.DefAt cell len word) ∷ []) k (first_load 10 x (item.Mark (mark.DefAt cell len word) ∷ []) h refl),
    )

    -- a function that calls is none
    arguments_fit : (r : ℕ) (args : List ℕ) (is : List Item) → (q ≡ true → false ≡ true) → Fits is → Fits (argument_loads r args ++ is)
    arguments_fit r [] is none rest = rest
    arguments_fit r (k ∷ ks) is none rest = first_load r (slot (k + 1)) (argument_loads (r + 1) ks ++ is) none (arguments_fit (r + 1) ks is none rest)

    instruction_fits : (places : List GlobalPlace) (func : Func) (leaf : Bool) (i : Instr) → IsInstr p func i → ((x : ℕ) → HasLocal func x → Holds (home_of leaf x)) → (q ≡ true → is_calling i ≡ false)
        → Fits (instruction_code places leaf i)
    instruction_fits places func leaf (Const x value) h homes calm = last_store 9 (home_of leaf x) (homes x h)
    instruction_fits places func leaf (Copy x y) h homes calm =
        first_load 9 (home_of leaf y) (home_store 9 (home_of leaf x) ∷ []) (homes y h.1) (last_store 9 (home_of leaf x) (homes x h.0))
    instruction_fits places func leaf (Binary op x y z) h homes calm =
        let code : List Item = operation_code op (operand_in 9 (home_of leaf x)) (operand_in 9 (home_of leaf y)) (operand_in 10 (home_of leaf z)) in
        let last : List Item = operand_store 9 (home_of leaf x) in
        operand_fits 9 (home_of leaf y) (operand_load 10 (home_of leaf z) ++ (code ++ last)) (homes y h.1)
        (operand_fits 10 (home_of leaf z) (code ++ last) (homes z h.2)
        (all_both q code last (operation_fits op (operand_in 9 (home_of leaf x)) (operand_in 9 (home_of leaf y)) (operand_in 10 (home_of leaf z))) (result_fits 9 (home_of leaf x) (homes x h.0))))
    instruction_fits places func leaf (Load x g) h homes calm = (place_fits (place_in places g) (home_of leaf x) (homes x h.0)).0
    instruction_fits places func leaf (Store g x) h homes calm = (place_fits (place_in places g) (home_of leaf x) (homes x h.1)).1
    instruction_fits places func leaf (LoadX x g i) h homes calm = (element_fits (place_in places g) (home_of leaf x) (home_of leaf i) (homes x h.0) (homes i h.2)).0
    instruction_fits places func leaf (StoreX g i x) h homes calm = (element_fits (place_in places g) (home_of leaf x) (home_of leaf i) (homes x h.2) (homes i h.1)).1
    instruction_fits places func leaf (RefTo x callee) h homes calm = last_store 9 (home_of leaf x) (homes x h.0)
    instruction_fits places func leaf (Call x callee args) h homes calm =
        arguments_fit 0 args (item.Mark (mark.Call callee) ∷ behind_call x) (λ is. sym (calm is)) (last_store 0 (slot (x + 1)) (λ is. sym (calm is)))
    instruction_fits places func leaf (ICall x y args) h homes calm =
        let calls : List Item = item.Mark (mark.ICall (length args)) ∷ behind_call x in
        first_load 9 (slot (y + 1)) (item.Note note.Check ∷ item.Inst (Cbnz 9 (pos 2)) ∷ item.Inst (Brk 3) ∷ depth_tested args calls) (λ is. sym (calm is))
        (arguments_fit 0 args calls (λ is. sym (calm is)) (last_store 0 (slot (x + 1)) (λ is. sym (calm is))))
    instruction_fits places func leaf (Input x) h homes calm = last_store 0 (home_of leaf x) (homes x h)
    instruction_fits places func leaf (Output x) h homes calm = first_load 0 (home_of leaf x) (item.Inst (Svc 9) ∷ []) (homes x h) refl

    return_fits : (locals : ℕ) (from : Home) (op : Option ℕ) → Holds from → Fits (marked_return locals from op)
    return_fits locals from None h = first_load 0 from (item.Inst (Ldr 30 31 0) ∷ item.Inst (AddImm 31 31 (frame_size locals)) ∷ item.Mark mark.Ret ∷ []) h refl
    return_fits locals from (Some op) h = first_load 0 from (item.Inst (Ldr 30 31 0) ∷ item.Inst (AddImm 31 31 (frame_size locals)) ∷ item.Mark mark.Ret ∷ []) h refl

    terminator_fits : (first : ℕ) (func : Func) (t : Term) → IsTerm func t → ((x : ℕ) → HasLocal func x → Holds (home_of (is_leaf func) x)) → Fits (terminator_code first func t)
    terminator_fits first func (Jump to) h homes = refl
    terminator_fits first func (Branch x taken other) h homes =
        first_load 9 (home_of (is_leaf func) x) (item.Mark (mark.Branch (first + taken) (first + other)) ∷ []) (homes x h.0) refl
    terminator_fits first func (Ret x) h homes = return_fits (length func.locals) (home_of (is_leaf func) x) (operation_number func.role) (homes x h)
    terminator_fits first func Halt h homes = refl

    stores_fit : (leaf : Bool) (params from n : ℕ) (is : List Item) → ((x : ℕ) → x < from + n → Holds (home_of leaf x)) → Fits is → Fits (local_stores leaf params from n ++ is)
    stores_fit leaf params from zero is homes rest = rest
    stores_fit leaf params from (suc n) is homes rest =
        both_true (fits q (home_store (cond (ltb from params) from 31) (home_of leaf from))) (list_all (fits q) (local_stores leaf params (from + 1) n ++ is))
        (store_fits (cond (ltb from params) from 31) (home_of leaf from) (homes from (omega arith))) (stores_fit leaf params (from + 1) n is (λ x l. homes x (omega arith)) rest)

    begin_fits : (op : Option ℕ) → Fits (begin_mark op)
    begin_fits None = refl
    begin_fits (Some op) = refl

    start_fits : (leaf : Bool) (params locals : ℕ) (op : Option ℕ) → ((x : ℕ) → x < locals → Holds (home_of leaf x)) → Fits (marked_start leaf params locals op)
    start_fits leaf params locals op homes = stores_fit leaf params 0 locals (begin_mark op) (λ x l. homes x (omega arith)) (begin_fits op)

    lines_fit : (places : List GlobalPlace) (first : ℕ) (func : Func) (is : List Instr) (t : Term) → ((x : ℕ) → HasLocal func x → Holds (home_of (is_leaf func) x))
        → ((i : Instr) → Contains is i → IsInstr p func i) → ((i : Instr) → Contains is i → q ≡ true → is_calling i ≡ false) → IsTerm func t
        → Fits (lines_code (map (line_code places first func) (map instruction is ++ terminator t ∷ [])))
    lines_fit places first func [] t homes formed calm end = all_both q (terminator_code first func t) [] (terminator_fits first func t end homes) refl
    lines_fit places first func (i ∷ is) t homes formed calm end =
        all_both q (instruction_code places (is_leaf func) i) (lines_code (map (line_code places first func) (map instruction is ++ terminator t ∷ [])))
        (instruction_fits places func (is_leaf func) i (formed i (first_in i is)) homes (calm i (first_in i is)))
        (lines_fit places first func is t homes (λ j has. formed j (later_in i is j has)) (λ j has. calm j (later_in i is j has)) end)

  -- ---- functions

  -- a block that calls nothing has no call
  calm_in : {X : Type 0} (test : X → Bool) (xs : List X) → list_any test xs ≡ false → (x : X) → Contains xs x → test x ≡ false
  calm_in test xs none x has = by (test x) refl where
    by : (t : Bool) → test x ≡ t → test x ≡ false
    by true is = absurd (false≢true (sym none ∙ found test xs x has is))
    by false is = is

  home_is : (func : Func) (x : ℕ) → HasLocal func x → is_quiet func ≡ true → is_register (home_of (is_leaf func) x) ≡ true
  home_is func x low quiet =
      let parts = and_parts (is_leaf func) (leb (length func.locals) 8) quiet in
      let few : length func.locals ≤ 8 = leb-true (length func.locals) 8 parts.1 in
      ap (λ (leaf : Bool). is_register (home_of leaf x)) parts.0 ∙ ap (λ (t : Bool). is_register (cond t (register (19 + x)) (slot (x + 1)))) (lt-ltb x 8 (omega arith))

  no_leaf : (a b : Bool) → a ≡ false → (a && b) ≡ true → false ≡ true
  no_leaf a b none h = sym (ap (λ (t : Bool). t && b) none) ∙ h

  block_fits : (places : List GlobalPlace) (first : ℕ) (func : Func) (block : BlockIr) → Contains func.blocks block → IsBlockIr p func block → list_all (fits (is_quiet func)) (block_code places first func block) ≡ true
  block_fits places first func block has formed =
      lines_fit (is_quiet func) places first func block.instrs block.term (λ x low. home_is func x low) (λ i inside. All-contains (IsInstr p func) block.instrs i formed.0 inside)
      (λ i inside quiet. calm_in is_calling block.instrs (calm_in (λ b. list_any is_calling b.instrs) func.blocks (quiet_none func quiet) block has) i inside) formed.1 where
        quiet_none : (func : Func) → is_quiet func ≡ true → list_any (λ b. list_any is_calling b.instrs) func.blocks ≡ false
        quiet_none func quiet = not_true (list_any (λ b. list_any is_calling b.instrs) func.blocks) (and_parts (is_leaf func) (leb (length func.locals) 8) quiet).0

  module _ (rest : List Item) (later : (q : Bool) → scan q rest ≡ true) where
    blocks_scan : (places : List GlobalPlace) (first : ℕ) (func : Func) (n : ℕ) (bs : List BlockIr) → length p.funcs ≤ n → ((b : BlockIr) → Contains bs b → Contains func.blocks b)
        → ((b : BlockIr) → Contains bs b → IsBlockIr p func b) → scan (is_quiet func) (blocks_code n (map (block_code places first func) bs) ++ rest) ≡ true
    blocks_scan places first func n [] high own formed = later (is_quiet func)
    blocks_scan places first func n (b ∷ bs) high own formed =
        let more = blocks_scan places first func (n + 1) bs (omega arith) (λ c has. own c (later_in b bs c has)) (λ c has. formed c (later_in b bs c has)) in
        let code : List Item = block_code places first func b in
        let others : List Item = blocks_code (n + 1) (map (block_code places first func) bs) in
        ap (λ (t : Bool). scan (cond t (quiet_at n) (is_quiet func)) ((code ++ others) ++ rest)) (le-ltb n (length p.funcs) high)
        ∙ ap (scan (is_quiet func)) (append_assoc code others rest)
        ∙ fits_then (is_quiet func) code (others ++ rest) (block_fits places first func b (own b (first_in b bs)) (formed b (first_in b bs))) more

    function_scan : (places : List GlobalPlace) (f first : ℕ) (func : Func) (q : Bool) → slice_get p.funcs f ≡ Some func → IsFunc p func → length p.funcs ≤ first → scan q (function_items places f first func ++ rest) ≡ true
    function_scan places f first func q at formed high =
        let low : f < length p.funcs = slice_get_within p.funcs f func at in
        let start : List Item = marked_start (is_leaf func) func.params (length func.locals) (operation_number func.role) in
        let blocks : List Item = blocks_code first (map (block_code places first func) func.blocks) in
        let quiet : quiet_at f ≡ is_quiet func = ap (λ (o : Option Func). unwrap_or (option_map is_quiet o) false) at in
        ap (λ (t : Bool). scan (cond t (quiet_at f) q) ((start ++ blocks) ++ rest)) (lt-ltb f (length p.funcs) low)
        ∙ ap (λ (r : Bool). scan r ((start ++ blocks) ++ rest)) quiet
        ∙ ap (scan (is_quiet func)) (append_assoc start blocks rest)
        ∙ fits_then (is_quiet func) start (blocks ++ rest) (start_fits (is_quiet func) (is_leaf func) func.params (length func.locals) (operation_number func.role) (λ x low. home_is func x low))
        (blocks_scan places first func first func.blocks high (λ b has. has) (λ b has. All-contains (IsBlockIr p func) func.blocks b formed.blocks has))

  one : (places : List GlobalPlace) (main f first : ℕ) (g : Func) (gs : List Func) → slice_get p.funcs f ≡ Some g → IsFunc p g → length p.funcs ≤ first
      → ((q : Bool) → scan q (others_items places main (f + 1) (first + length g.blocks) gs) ≡ true) → (q t : Bool)
      → scan q (cond t [] (function_items places f first g) ++ others_items places main (f + 1) (first + length g.blocks) gs) ≡ true
  one places main f first g gs at formed high more q true = more q
  one places main f first g gs at formed high more q false = function_scan (others_items places main (f + 1) (first + length g.blocks) gs) more places f first g q at formed high

  others_scan : (places : List GlobalPlace) (main f first : ℕ) (funcs : List Func) → ((k : ℕ) (func : Func) → slice_get funcs k ≡ Some func → (slice_get p.funcs (f + k) ≡ Some func) × IsFunc p func)
      → length p.funcs ≤ first → (q : Bool) → scan q (others_items places main f first funcs) ≡ true
  others_scan places main f first [] are high q = refl
  others_scan places main f first (g ∷ gs) are high q =
      let own = are 0 g refl in
      one places main f first g gs (ap (slice_get p.funcs) (here f) ∙ own.0) own.1 high
      (others_scan places main (f + 1) (first + length g.blocks) gs (λ k func at. let h = are (suc k) func at in (ap (slice_get p.funcs) (next f k) ∙ h.0, h.1)) (omega arith)) q (eqb f main) where
        here : (f : ℕ) → f ≡ f + 0
        here f = omega arith

        next : (f k : ℕ) → f + 1 + k ≡ f + suc k
        next f k = omega arith

pub programs_spare_stack : ProgramsSpareStack
programs_spare_stack p ok =
    let main : There p.funcs (main_at p) = there p.funcs (main_at p) (main_within p ok) in
    let places : List GlobalPlace = global_places p in
    let first : ℕ = label_of_block p (main_at p) 0 in
    let others : List Item = others_items places (main_at p) 0 (length p.funcs) p.funcs in
    let later : (q : Bool) → scan p q others ≡ true =
    others_scan p places (main_at p) 0 (length p.funcs) p.funcs (λ k func at. (ap (slice_get p.funcs) (zero_plus k) ∙ at, func_formed p ok k func at)) (omega arith) in
    leaves_spare p (program_items p)
    (ap (scan p false) (sym (laid_by p places (main_at p) first main.item refl refl refl (main_within p ok) main.is))
    ∙ function_scan p others later places (main_at p) first main.item false main.is (func_formed p ok (main_at p) main.item main.is) (omega arith)) where
      zero_plus : (k : ℕ) → 0 + k ≡ k
      zero_plus k = omega arith
