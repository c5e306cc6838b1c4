-- How many words the code of a program needs: at most 15 for a line and 259 for a function's start.
use Rattle.std.proofs.Common.{◌≡◌, ℕ, Bool, suc, ◌+◌, ◌*◌, ◌<◌, ◌≤◌, List, [], ◌∷◌, ◌++◌, length, map, take, drop, refl, ap, ◌∙◌, Option, Some, None, arith}
use Rattle.std.specs.{Prelude.Contains, List.sum_by}
use Rattle.std.proofs.lemmas.{List.Elements.All-contains, List.Sums.sum_by-cons}
use Rattle.oat_asm.proofs.StandingItems.{words_of_two}
use Rattle.oat_parts.proofs.{Lists.first_in, Lists.later_in, Lists.in_get, Making.words_add, Making.codes_have}
use Rattle.oat_ir.specs.declared.instr.Term.TheVariants.{Jump, Branch, Ret}
use Rattle.oat_check.proofs.Checking.{func_formed}
use Rattle.oat_globals.specs.{Svc, Blr, Bl, Item, words_needed, expansion, Program, Func, BlockIr, Instr, Const, Copy, Binary, Load, Store, LoadX, StoreX, RefTo, Call, ICall, Input, Output, Term}
use Rattle.oat_globals.specs.{Halt, IsInstr, IsBlockIr, IsFunc, CodeLine, instruction, terminator, operation_number, argument_loads, depth_tested, behind_call, Home, slot, home_of, is_leaf}
use Rattle.oat_globals.specs.{lines_code, Operations.role_words}
use Rattle.oat_globals.proofs.GlobalLaws.{words_of_global_lines}
use Rattle.oat_locals.specs.Code.{binary_code}
use Rattle.oat_locals.proofs.LineLaws.{words-of-lines}
use Rattle.oat_symbols.specs.{FunctionCode, words_become, blocks_words, codes_words, Programs.symbols_of, Programs.with_first, Programs.main_at, Programs.label_of_block, Codes.codes_from}
use Rattle.oat_symbols.specs.{Codes.codes_of, Codes.CodesAreOfTheProgram}
use Rattle.oat_symbols.proofs.Programs.{split_at, main_within}
use Rattle.oat_gen.specs.{declared.globals.GlobalPlace.GlobalPlace, declared.globals.GlobalPlace.TheVariants.Ordinary, declared.globals.GlobalPlace.TheVariants.Critical, GlobalPlaces.global_places}
use Rattle.oat_gen.specs.{GlobalPlaces.place_in, Marked.marked_start, Marked.marked_return, Marked.marked_call, Marked.marked_icall, Marked.scalar_load, Marked.scalar_store, Marked.element_load}
use Rattle.oat_gen.specs.{Marked.element_store, Code.instruction_code, Code.terminator_code, Code.line_code, Code.block_code, Code.function_code, Laws.FunctionsHaveTheirCode}
use Rattle.oat_gen.specs.{Laws.ProgramsHaveFewWords}
use Rattle.oat_gen.proofs.{Bounds.few_locals, Building.are_codes, Expanding.marked_code_expands, Expanding.other_code_stays}
use Rattle.oat_asm.specs.declared.note.Note.TheVariants as note
use Rattle.oat_asm.specs.declared.item.Item.TheVariants as item

-- the words of code whose expansion is known
sized : (is js : List Item) (n : ℕ) → expansion is ≡ js → words_needed js ≡ n → words_become is ≡ n
sized is js n become have = ap words_needed become ∙ have

-- ---- lines

load_words : (r : ℕ) (args : List ℕ) → words_needed (argument_loads r args) ≡ length args
load_words r [] = refl
load_words r (k ∷ ks) = ap (λ (n : ℕ). 1 + n) (load_words (r + 1) ks) ∙ one_more (length ks) where
  one_more : (n : ℕ) → 1 + n ≡ suc n
  one_more n = omega arith

-- loads, and the depth test, before others
loaded : (args : List ℕ) (is : List Item) → words_needed (argument_loads 0 args ++ is) ≡ length args + words_needed is
loaded args is = words_of_two (argument_loads 0 args) is ∙ ap (λ (n : ℕ). n + words_needed is) (load_words 0 args)

tested : (args : List ℕ) (is : List Item) → words_needed (depth_tested args is) ≡ 4 + (length args + words_needed is)
tested args is = ap (λ (n : ℕ). 1 + (0 + (1 + (1 + (1 + n))))) (loaded args is) ∙ four (length args + words_needed is) where
  four : (n : ℕ) → 1 + (0 + (1 + (1 + (1 + n)))) ≡ 4 + n
  four n = omega arith

few_role : (op : Option ℕ) → role_words op ≤ 2
few_role None = omega arith
few_role (Some op) = omega arith

place_words : (at : GlobalPlace) (x i : Home)
    → (words_become (scalar_load at x) ≤ 6) × (words_become (scalar_store at x) ≤ 6) × (words_become (element_load at x i) ≤ 12) × (words_become (element_store at i x) ≤ 12)
place_words (Ordinary word len) x i = (omega arith, omega arith, omega arith, omega arith)
place_words (Critical word cell len) x i = (omega arith, omega arith, omega arith, omega arith)

instruction_words : (places : List GlobalPlace) (p : Program) (func : Func) (i : Instr) → IsInstr p func i → words_become (instruction_code places (is_leaf func) i) ≤ 15
instruction_words places p func (Const x value) h = omega arith
instruction_words places p func (Copy x y) h = omega arith
instruction_words places p func (Binary op x y z) h =
    let to : Home = home_of (is_leaf func) x in
    let left : Home = home_of (is_leaf func) y in
    let right : Home = home_of (is_leaf func) z in
    let same : words_become (binary_code op to left right) ≡ words_needed (binary_code op to left right) = ap words_needed (other_code_stays.binary op to left right) in
    let own = words-of-lines.binary op to left right in
    let few = words-of-lines.few op in
    omega (arith, same, own, few)
instruction_words places p func (Load x g) h = let few = (place_words (place_in places g) (home_of (is_leaf func) x) (slot 0)).0 in omega arith
instruction_words places p func (Store g x) h = let few = (place_words (place_in places g) (home_of (is_leaf func) x) (slot 0)).1 in omega arith
instruction_words places p func (LoadX x g i) h = let few = (place_words (place_in places g) (home_of (is_leaf func) x) (home_of (is_leaf func) i)).2 in omega arith
instruction_words places p func (StoreX g i x) h = let few = (place_words (place_in places g) (home_of (is_leaf func) x) (home_of (is_leaf func) i)).3 in omega arith
instruction_words places p func (RefTo x callee) h = omega arith
instruction_words places p func (Call x callee args) h =
    let few = h.2.0 in
    let e = sized (marked_call args callee x) _ _ (marked_code_expands.call args callee x) (tested args (item.Note (note.Call callee) ∷ item.BranchTo Bl callee ∷ behind_call x)) in
    omega arith
instruction_words places p func (ICall x y args) h =
    let few = h.2.0 in
    let n = tested args (item.Note (note.ICall (length args)) ∷ item.Inst (Svc 4) ∷ item.Inst (Blr 9) ∷ behind_call x) in
    let e = sized (marked_icall args y x) _ _ (marked_code_expands.icall args y x) (ap (λ (m : ℕ). 1 + (0 + (1 + (1 + m)))) n) in
    omega arith
instruction_words places p func (Input x) h = omega arith
instruction_words places p func (Output x) h = omega arith

pub terminator_words : (first : ℕ) (func : Func) (t : Term) → (1 ≤ words_become (terminator_code first func t)) × (words_become (terminator_code first func t) ≤ 7)
terminator_words first func (Jump to) = (omega arith, omega arith)
terminator_words first func (Branch x taken other) = (omega arith, omega arith)
terminator_words first func (Ret x) =
    let op = operation_number func.role in
    let few = few_role op in
    let from = home_of (is_leaf func) x in
    let e = sized (marked_return (length func.locals) from op) _ _ (marked_code_expands.leave (length func.locals) from op) (words_of_global_lines.leave (length func.locals) from op) in (omega arith, omega arith)
terminator_words first func Halt = (omega arith, omega arith)

-- ---- blocks

-- lines of at most 15 words before one of 1 to 7
lines_words : (code : CodeLine → List Item) (is : List Instr) (t : Term) → ((i : Instr) → Contains is i → words_become (code (instruction i)) ≤ 15) → 1 ≤ words_become (code (terminator t)) → words_become (code (terminator t)) ≤ 7
    → (1 ≤ words_become (lines_code (map code (map instruction is ++ terminator t ∷ [])))) × (words_become (lines_code (map code (map instruction is ++ terminator t ∷ []))) ≤ 32 * (length is + 1))
lines_words code [] t each some few = let sum : words_become (code (terminator t) ++ []) ≡ words_become (code (terminator t)) + 0 = words_add (code (terminator t)) [] in (omega arith, omega arith)
lines_words code (i ∷ is) t each some few =
    let rest = lines_words code is t (λ j has. each j (later_in i is j has)) some few in
    let low = rest.0 in
    let high = rest.1 in
    let own = each i (first_in i is) in
    let sum = words_add (code (instruction i)) (lines_code (map code (map instruction is ++ terminator t ∷ []))) in
    (omega arith, omega arith)

pub block_words : (places : List GlobalPlace) (first : ℕ) (p : Program) (func : Func) (block : BlockIr) → IsBlockIr p func block
    → (1 ≤ words_become (block_code places first func block)) × (words_become (block_code places first func block) ≤ 32 * (length block.instrs + 1))
block_words places first p func block h =
    let ends = terminator_words first func block.term in
    lines_words (line_code places first func) block.instrs block.term (λ i has. instruction_words places p func i (All-contains (IsInstr p func) block.instrs i h.0 has)) ends.0 ends.1

-- ---- functions

start_words : (leaf : Bool) (params locals : ℕ) (op : Option ℕ) → words_become (marked_start leaf params locals op) ≡ 2 + locals + role_words op
start_words leaf params locals op = sized (marked_start leaf params locals op) _ _ (marked_code_expands.start leaf params locals op) (words_of_global_lines.start leaf params locals op)

pub some_words : (leaf : Bool) (params locals : ℕ) (op : Option ℕ) → 1 ≤ words_become (marked_start leaf params locals op)
some_words leaf params locals op = let e = start_words leaf params locals op in omega arith

blocks_few : (places : List GlobalPlace) (first : ℕ) (p : Program) (func : Func) (bs : List BlockIr) → ((b : BlockIr) → Contains bs b → IsBlockIr p func b)
    → blocks_words (map (block_code places first func) bs) ≤ 32 * sum_by (λ b. length b.instrs + 1) bs
blocks_few places first p func [] each = omega arith
blocks_few places first p func (b ∷ bs) each =
    let own = (block_words places first p func b (each b (first_in b bs))).1 in
    let rest = blocks_few places first p func bs (λ c has. each c (later_in b bs c has)) in
    let sum = sum_by-cons (λ (c : BlockIr). length c.instrs + 1) b bs in
    omega arith

-- the lines of functions
abbrev lines_in : List Func → ℕ
lines_in funcs = sum_by (λ func. sum_by (λ block. length block.instrs + 1) func.blocks) funcs

module _ (p : Program) where
  function_words : (f : ℕ) (func : Func) → IsFunc p func → length func.locals ≤ 255
      → words_become (function_code p f func).prologue + blocks_words (function_code p f func).blocks ≤ 32 * sum_by (λ block. length block.instrs + 1) func.blocks + 300
  function_words f func formed slots =
      let op = operation_number func.role in
      let start = start_words (is_leaf func) func.params (length func.locals) op in
      let few = few_role op in
      let blocks = blocks_few (global_places p) (label_of_block p f 0) p func func.blocks (λ b has. All-contains (IsBlockIr p func) func.blocks b formed.blocks has) in
      omega arith

  all_words : (f : ℕ) (funcs : List Func) → ((func : Func) → Contains funcs func → IsFunc p func × (length func.locals ≤ 255))
      → codes_words (codes_from (function_code p) f funcs) ≤ 32 * lines_in funcs + 300 * length funcs
  all_words f [] each = omega arith
  all_words f (g ∷ gs) each =
      let h = each g (first_in g gs) in
      let own = function_words f g h.0 h.1 in
      let rest = all_words (f + 1) gs (λ k has. each k (later_in g gs k has)) in
      let sum = sum_by-cons (λ (func : Func). sum_by (λ block. length block.instrs + 1) func.blocks) g gs in
      omega arith

-- ---- the order of functions doesn't matter

words_both : (xs ys : List FunctionCode) → codes_words (xs ++ ys) ≡ codes_words xs + codes_words ys
words_both [] ys = let e : codes_words ys ≡ 0 + codes_words ys = omega arith in e
words_both (x ∷ xs) ys = let rest = words_both xs ys in omega arith

same_words : (m : ℕ) (cs : List FunctionCode) → m < length cs → codes_words (with_first m cs) ≡ codes_words cs
same_words m cs low =
    let s = split_at m cs low in
    let front = take m cs in
    let back = drop (m + 1) cs in
    let all = ap codes_words s.1 ∙ words_both front (s.0 ∷ back) in
    let first = ap (λ (xs : List FunctionCode). codes_words (xs ++ (front ++ back))) s.2 in
    let others = words_both front back in
    omega arith

many_codes : (code : ℕ → Func → FunctionCode) (f : ℕ) (funcs : List Func) → length (codes_from code f funcs) ≡ length funcs
many_codes code f [] = refl
many_codes code f (g ∷ gs) = ap suc (many_codes code (f + 1) gs)

pub programs_have_few_words : CodesAreOfTheProgram → FunctionsHaveTheirCode → ProgramsHaveFewWords
programs_have_few_words codes functions p ok =
    let cs = codes_from (function_code p) 0 p.funcs in
    let are = are_codes codes functions p ok in
    let total = codes_have (symbols_of p) (symbols_of p).functions (codes_of (function_code p) p) are in
    let low : main_at p < length cs = omega (arith, main_within p ok, many_codes (function_code p) 0 p.funcs) in
    let same = same_words (main_at p) cs low in
    let few = all_words p 0 p.funcs (λ func has.
    let r = in_get p.funcs func has in
    (func_formed p ok r.0 func r.1, few_locals p ok r.0 func r.1)) in
    omega arith
