-- What the lines of a checked program let the interpreter rely on, in a consistent state.
use Rattle.std.proofs.Common.{◌≡◌, ◌+◌, ◌-◌, ◌<◌, ◌≤◌, ◌^◌, ◌&&◌, ℕ, true, false, List, [], ◌∷◌, length, get_or, map, take, Some, refl, sym, ap, subst, ◌∙◌, inl, inr, arith}
use Rattle.std.specs.{Prelude.count_by, Prelude.slice_get, Option.option_and_then, Option.option_map, Option.unwrap_or, List.AllByRecursion}
use Rattle.std.proofs.lemmas.{Bool.and_parts, List.length-take-le, List.Sums.count_by-le-length, List.Sums.count_by_more_no, List.Sums.count_by_more_yes, Option.get_or_from_slice_get}
use Rattle.std.proofs.lemmas.{Option.slice_get_read, Option.slice_get_within}
use Rattle.oat_check.specs.{Program, GlobalItem, Scalar, FnScalar, Array, CriticalArray, BlockIr, Func, Fn, Instr, Const, Copy, Binary, Load, Store, LoadX, StoreX, RefTo, Call, ICall, Input, Output}
use Rattle.oat_check.specs.{IsInstr, IsBlockIr, IsGlobal, Globals.length_at, Globals.of_global, Globals.size_in_words, Keeping.AreCallers, Keeping.IsCaller, Keeping.IsFrame, Keeping.IsValue}
use Rattle.oat_check.specs.{Lines.instruction, Lines.is_calling, Lines.line_in, Lines.terminator, Naming.instrs_of, Naming.source_site, Places.HasBlocks, Places.HasLines, RuleLaws.FuncKeepsRules}
use Rattle.oat_check.specs.{Rules.IsChecked, Rules.hold_numbers, Rules.holds_number, Rules.local_ty, Rules.refers_with, Steps.current_line, Steps.result_at}
use Rattle.oat_check.proofs.{Checking.each_at, Checking.func_formed, Checking.has_ty, Checking.instr_allowed, Checking.keeps_rules, Frames.instr_is, Frames.line_is, Frames.term_is, Frames.there}
use Rattle.oat_check.proofs.{Numbers.has_funcs}
use Rattle.oat_meaning.specs.{declared.activation.Activation.Activation, Activations.CountsCalls, Activations.current_block, Activations.frame_of, Activations.locals_of, Standing.Allows}
use Rattle.oat_meaning.specs.{Standing.CanResume, Standing.CanSet, Standing.GoesPast, Standing.HasElement}

-- ---- globals

some_words : (item : GlobalItem) → IsGlobal item → 0 < size_in_words item
some_words (Scalar name start critical) is = omega arith
some_words (FnScalar name params) is = omega arith
some_words (Array name len) is = let some = is.0 in omega arith
some_words (CriticalArray name len) is = let some = is.0 in omega arith

has_element : (p : Program) → IsChecked p → (g : ℕ) → g < length p.globals → HasElement p g
has_element p ok g low =
    let item = there p.globals g low in
    let some = some_words item.item (each_at IsGlobal p.globals g item.item ok.well_formed.globals item.is) in
    let size : length_at p g ≡ size_in_words item.item = ap (of_global size_in_words) item.is in
    omega (arith, some, size)

-- ---- a line

module _ (p : Program) (ok : IsChecked p) (a : Activation) (st : IsFrame p (frame_of a)) where
  pub block_found : current_block p a ≡ Some st.block
  block_found = ap (option_and_then (λ func. slice_get func.blocks a.block)) st.func_is ∙ st.block_is

  instrs_are : instrs_of p a.func a.block ≡ st.block.instrs
  instrs_are =
      ap (λ o. unwrap_or (option_and_then (λ func. option_map (λ block. block.instrs) (slice_get func.blocks a.block)) o) []) st.func_is
      ∙ ap (λ o. unwrap_or (option_map (λ (block : BlockIr). block.instrs) o) []) st.block_is

  few_lines : length st.block.instrs < 2 ^ 32
  few_lines = each_at HasLines st.func.blocks a.block st.block (each_at HasBlocks p.funcs a.func st.func (has_funcs p ok.well_formed).blocks st.func_is).lines st.block_is

  few_locals : length st.func.locals ≤ 255
  few_locals = (each_at (FuncKeepsRules p) p.funcs a.func st.func (keeps_rules p ok.accepted).funcs st.func_is).locals

  instr_formed : (i : Instr) → slice_get st.block.instrs a.line ≡ Some i → IsInstr p st.func i
  instr_formed i is = each_at (IsInstr p st.func) st.block.instrs a.line i (each_at (IsBlockIr p st.func) st.func.blocks a.block st.block (func_formed p ok a.func st.func st.func_is).blocks st.block_is).0 is

  -- where the code finds an instruction
  pub instr_found : (block : BlockIr) (xs : List Instr) (instr : Instr) → Some block ≡ current_block p a → xs ≡ block.instrs → a.line < length xs → instr ≡ get_or xs a.line instr
      → slice_get st.block.instrs a.line ≡ Some instr
  instr_found block xs instr found is low at =
      let same : block ≡ st.block = let both : Some block ≡ Some st.block = found ∙ block_found in cc in
      ap (λ (ys : List Instr). slice_get ys a.line) (sym (is ∙ ap (λ (b : BlockIr). b.instrs) same)) ∙ slice_get_read xs (length xs) a.line instr refl low at

  -- and where it finds none
  pub no_instr_found : (block : BlockIr) (xs : List Instr) → Some block ≡ current_block p a → xs ≡ block.instrs → length xs ≤ a.line → line_in st.block a.line ≡ Some (terminator block.term)
  no_instr_found block xs found is past =
      let same : block ≡ st.block = let both : Some block ≡ Some st.block = found ∙ block_found in cc in
      let count : length xs ≡ length st.block.instrs = ap length (is ∙ ap (λ (b : BlockIr). b.instrs) same) in
      let inside : a.line ≤ length st.block.instrs = st.inside in
      term_is st.block a.line (omega (arith, count, inside, past)) ∙ ap (λ (b : BlockIr). Some (terminator b.term)) (sym same)

  -- ---- the next line

  -- the calls before the next line
  abbrev next_number : ℕ
  next_number = count_by is_calling (take (a.line + 1) st.block.instrs)

  module _ (numbered : CountsCalls p a) (i : Instr) (is : slice_get st.block.instrs a.line ≡ Some i) where
    counted : a.number ≡ count_by is_calling (take a.line st.block.instrs)
    counted = ap (λ s. s.number) numbered ∙ ap (λ xs. count_by is_calling (take a.line xs)) instrs_are

    goes_on : (calls : ℕ) → calls ≤ 1 → a.number + calls ≡ next_number → GoesPast p a calls
    goes_on calls one next =
        let low : a.line < length st.block.instrs = slice_get_within st.block.instrs a.line i is in
        let few = few_lines in
        let number = counted in
        let at_most : count_by is_calling (take a.line st.block.instrs) ≤ length (take a.line st.block.instrs) = count_by-le-length is_calling (take a.line st.block.instrs) in
        let front : length (take a.line st.block.instrs) ≡ a.line = length-take-le a.line st.block.instrs (omega arith) in
        record {
          short = omega (arith, low, few);
          few = omega (arith, low, few, number, at_most, front, one);
          numbered = ap (source_site a.func a.block) (next ∙ ap (λ xs. count_by is_calling (take (a.line + 1) xs)) (sym instrs_are));
        }

    pub passes_by : is_calling i ≡ false → GoesPast p a 0
    passes_by plain =
        let low : a.line < length st.block.instrs = slice_get_within st.block.instrs a.line i is in
        let here : is_calling (get_or st.block.instrs a.line i) ≡ false = ap is_calling (get_or_from_slice_get st.block.instrs a.line i i is) ∙ plain in
        let number = counted in
        let same : next_number ≡ count_by is_calling (take a.line st.block.instrs) = count_by_more_no is_calling st.block.instrs a.line i low here in
        goes_on 0 (omega arith) (omega (arith, number, same))

    pub comes_back : is_calling i ≡ true → GoesPast p a 1
    comes_back calling =
        let low : a.line < length st.block.instrs = slice_get_within st.block.instrs a.line i is in
        let here : is_calling (get_or st.block.instrs a.line i) ≡ true = ap is_calling (get_or_from_slice_get st.block.instrs a.line i i is) ∙ calling in
        let number = counted in
        let more : next_number ≡ count_by is_calling (take a.line st.block.instrs) + 1 = count_by_more_yes is_calling st.block.instrs a.line i low here in
        goes_on 1 (omega arith) (omega (arith, number, more))

    -- ---- its instruction

    low_local : (x : ℕ) → x < length st.func.locals → x < 255
    low_local x within = let few = few_locals in omega (arith, within, few)

    sets_local : (x : ℕ) → is_calling i ≡ false → x < length st.func.locals → CanSet p a x
    sets_local x plain within = (passes_by plain, low_local x within)

  low_reference : (x y : ℕ) (args : List ℕ) → slice_get st.block.instrs a.line ≡ Some (ICall x y args) → locals_of a y < 2 ^ 32
  low_reference x y args is =
      let typed = (instr_allowed p ok a.func st.func st.func_is a.block st.block st.block_is a.line (ICall x y args) is).typed in
      let both = and_parts (holds_number st.func x && refers_with st.func y (length args)) (hold_numbers st.func args) typed in
      let refers = and_parts (holds_number st.func x) (refers_with st.func y (length args)) both.0 in
      by (st.locals y (Fn (length args)) (has_ty (local_ty st.func y) (Fn (length args)) refers.1)) where
        by : IsValue p (Fn (length args)) (locals_of a y) → locals_of a y < 2 ^ 32
        by (inl null) = omega (arith, null)
        by (inr target) =
            let low : locals_of a y - 1 < length p.funcs = slice_get_within p.funcs (locals_of a y - 1) target.callee target.is in
            let few : length p.funcs < 2 ^ 32 = (has_funcs p ok.well_formed).few in
            omega (arith, low, few)

  pub allows : CountsCalls p a → (i : Instr) → slice_get st.block.instrs a.line ≡ Some i → Allows p a i
  allows numbered i is = by i is (instr_formed i is) where
    by : (i : Instr) → slice_get st.block.instrs a.line ≡ Some i → IsInstr p st.func i → Allows p a i
    by (Const x value) is h = sets_local numbered (Const x value) is x refl h
    by (Copy x y) is h = sets_local numbered (Copy x y) is x refl h.0
    by (Binary op x y z) is h = sets_local numbered (Binary op x y z) is x refl h.0
    by (Load x g) is h = (sets_local numbered (Load x g) is x refl h.0, has_element p ok g h.1)
    by (Store g x) is h = (passes_by numbered (Store g x) is refl, has_element p ok g h.0)
    by (LoadX x g i) is h = sets_local numbered (LoadX x g i) is x refl h.0
    by (StoreX g i x) is h = passes_by numbered (StoreX g i x) is refl
    by (RefTo x g) is h = sets_local numbered (RefTo x g) is x refl h.0
    by (Call x g args) is h = tt
    by (ICall x y args) is h = low_reference x y args is
    by (Input x) is h = sets_local numbered (Input x) is x refl h
    by (Output x) is h = passes_by numbered (Output x) is refl

-- ---- callers

-- the local of a call's result is low
result_low : (p : Program) (f : Func) (i : Instr) → length f.locals ≤ 255 → IsInstr p f i → result_at (Some (instruction i)) < 255
result_low p f (Call x g args) few is = let low = is.0 in omega (arith, few, low)
result_low p f (ICall x y args) few is = let low = is.0 in omega (arith, few, low)
result_low p f _ few is = omega arith

low_result : (p : Program) → IsChecked p → (a : Activation) → IsCaller p (frame_of a) → result_at (current_line p (frame_of a)) < 255
low_result p ok a waits =
    subst (λ line. result_at line < 255) (sym (line_is p (frame_of a) waits.stands ∙ instr_is waits.stands.block a.line waits.instr waits.is))
    (result_low p waits.stands.func waits.instr (few_locals p ok a waits.stands) (instr_formed p ok a waits.stands waits.instr waits.is))

pub can_resume : (p : Program) → IsChecked p → (func : ℕ) (callers : List Activation) → AreCallers p func (map frame_of callers) → AllByRecursion (CountsCalls p) callers → CanResume p callers
can_resume p ok func [] are numbered = tt
can_resume p ok func (caller ∷ callers) are numbered =
    (comes_back p ok caller are.1.stands numbered.0 are.1.instr are.1.is are.1.calling, low_result p ok caller are.1)
