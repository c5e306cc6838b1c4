-- The sites in the code of a program's lines, and where the mark of a line's transfer stands.
use Rattle.std.proofs.Common.{◌≡◌, ◌+◌, ◌*◌, ◌<◌, ◌≤◌, ℕ, zero, suc, Bool, true, false, cond, List, [], ◌∷◌, ◌++◌, length, map, take, drop, Option, Some, None, refl, sym, ap, subst, ◌∙◌, arith}
use Rattle.std.proofs.Common.{append_assoc}
use Rattle.std.specs.{Prelude.slice_get, Prelude.nat_lt, Prelude.nat_eq, Option.option_map, List.count_by}
use Rattle.std.proofs.lemmas.{Bool.ltb-true, Bool.ltb-false, Bool.eqb-true, Grind.flat_map-append, List.Sums.sum_by-cons, List.Sums.sum_by-append, Option.slice_get-map, Option.slice_get_within}
use Rattle.oat_asm.proofs.Giving.{get_right}
use Rattle.oat_parts.proofs.Lists.{get_before, map_length}
use Rattle.oat_match.specs.{Item, words_needed, expanded, expansion, Func, BlockIr, Instr, Const, Copy, Binary, Load, Store, LoadX, StoreX, RefTo, Call, ICall, Input, Output, BinOp, Add, Sub, Mul}
use Rattle.oat_match.specs.{And, Or, Xor, Shl, Shr, Sar, Eq, Ne, Lt, Le, Ltu, Leu, Div, Rem, Divu, Remu, Term, CodeLine, instruction, terminator, line_in, is_calling, words_become, is_site_item}
use Rattle.oat_match.specs.{argument_loads, depth_tested, lines_code, words_before_line, operand_in, operand_load, operand_store, operation_code, binary_code, Home, slot, register, home_of, is_leaf}
use Rattle.oat_gen.specs.{declared.globals.GlobalPlace.GlobalPlace, declared.globals.GlobalPlace.TheVariants.Ordinary, declared.globals.GlobalPlace.TheVariants.Critical, GlobalPlaces.place_in}
use Rattle.oat_gen.specs.{Marked.marked_call, Marked.marked_icall, Marked.scalar_load, Marked.scalar_store, Marked.element_load, Marked.element_store, Code.instruction_code, Code.line_code}
use Rattle.oat_gen.specs.{Code.code_lines, Code.expanded_lines}
use Rattle.oat_asm.specs.declared.item.Item.TheVariants as item

-- ---- how many sites an instruction has

abbrev pub sites : List Item → ℕ
sites items = count_by is_site_item items

pub sites_join : (xs ys : List Item) → sites (xs ++ ys) ≡ sites xs + sites ys
sites_join xs ys = sum_by-append (λ x. cond (is_site_item x) 1 0) xs ys

sites_first : (x : Item) (xs : List Item) → sites (x ∷ xs) ≡ cond (is_site_item x) 1 0 + sites xs
sites_first x xs = sum_by-cons (λ x. cond (is_site_item x) 1 0) x xs

pub loads_have_none : (r : ℕ) (ks : List ℕ) → sites (argument_loads r ks) ≡ 0
loads_have_none r [] = refl
loads_have_none r (k ∷ ks) = loads_have_none (r + 1) ks

-- what is tested and loaded before a call
abbrev pub before_call : List ℕ → List Item
before_call args = depth_tested args []

pub front_is : (args : List ℕ) (is : List Item) → depth_tested args is ≡ before_call args ++ is
front_is args is = ap (λ (xs : List Item). depth_tested [] xs) (joined (argument_loads 0 args)) where
  joined : (xs : List Item) → xs ++ is ≡ (xs ++ []) ++ is
  joined [] = refl
  joined (x ∷ xs) = ap (λ (ys : List Item). x ∷ ys) (joined xs)

call_sites : (args : List ℕ) (is : List Item) → sites (depth_tested args is) ≡ sites is
call_sites args is = sites_join (argument_loads 0 args) is ∙ ap (λ (n : ℕ). n + sites is) (loads_have_none 0 args) ∙ none (sites is) where
  none : (n : ℕ) → 0 + n ≡ n
  none n = omega arith

pub before_call_sites : (args : List ℕ) → sites (before_call args) ≡ 0
before_call_sites args = call_sites args []

operand_sites : (r : ℕ) (home : Home) → sites (operand_load r home) ≡ 0
operand_sites r (slot k) = refl
operand_sites r (register q) = refl

result_sites : (r : ℕ) (home : Home) → sites (operand_store r home) ≡ 0
result_sites r (slot k) = refl
result_sites r (register q) = refl

operation_sites : (op : BinOp) (d a b : ℕ) → sites (operation_code op d a b) ≡ 0
operation_sites Add d a b = refl
operation_sites Sub d a b = refl
operation_sites Mul d a b = refl
operation_sites And d a b = refl
operation_sites Or d a b = refl
operation_sites Xor d a b = refl
operation_sites Shl d a b = refl
operation_sites Shr d a b = refl
operation_sites Sar d a b = refl
operation_sites Eq d a b = refl
operation_sites Ne d a b = refl
operation_sites Lt d a b = refl
operation_sites Le d a b = refl
operation_sites Ltu d a b = refl
operation_sites Leu d a b = refl
operation_sites Div d a b = refl
operation_sites Rem d a b = refl
operation_sites Divu d a b = refl
operation_sites Remu d a b = refl

binary_sites : (op : BinOp) (x y z : Home) → sites (binary_code op x y z) ≡ 0
binary_sites op x y z =
    let code : List Item = operation_code op (operand_in 9 x) (operand_in 9 y) (operand_in 10 z) in
    let one = sites_join (operand_load 9 y) (operand_load 10 z ++ (code ++ operand_store 9 x)) in
    let two = sites_join (operand_load 10 z) (code ++ operand_store 9 x) in
    let three = sites_join code (operand_store 9 x) in
    let own = operation_sites op (operand_in 9 x) (operand_in 9 y) (operand_in 10 z) in
    omega (arith, one, two, three, operand_sites 9 y, operand_sites 10 z, own, result_sites 9 x)

load_sites : (place : GlobalPlace) (x : Home) → sites (scalar_load place x) ≡ 0
load_sites (Ordinary word len) x = refl
load_sites (Critical word cell len) x = refl

store_sites : (place : GlobalPlace) (x : Home) → sites (scalar_store place x) ≡ 0
store_sites (Ordinary word len) x = refl
store_sites (Critical word cell len) x = refl

element_load_sites : (place : GlobalPlace) (x i : Home) → sites (element_load place x i) ≡ 0
element_load_sites (Ordinary word len) x i = refl
element_load_sites (Critical word cell len) x i = refl

element_store_sites : (place : GlobalPlace) (i x : Home) → sites (element_store place i x) ≡ 0
element_store_sites (Ordinary word len) i x = refl
element_store_sites (Critical word cell len) i x = refl

instruction_sites : (places : List GlobalPlace) (leaf : Bool) (i : Instr) → sites (instruction_code places leaf i) ≡ cond (is_calling i) 1 0
instruction_sites places leaf (Const x value) = refl
instruction_sites places leaf (Copy x y) = refl
instruction_sites places leaf (Binary op x y z) = binary_sites op (home_of leaf x) (home_of leaf y) (home_of leaf z)
instruction_sites places leaf (Load x g) = load_sites (place_in places g) (home_of leaf x)
instruction_sites places leaf (Store g x) = store_sites (place_in places g) (home_of leaf x)
instruction_sites places leaf (LoadX x g i) = element_load_sites (place_in places g) (home_of leaf x) (home_of leaf i)
instruction_sites places leaf (StoreX g i x) = element_store_sites (place_in places g) (home_of leaf i) (home_of leaf x)
instruction_sites places leaf (RefTo x g) = refl
instruction_sites places leaf (Call x g args) = call_sites args _
instruction_sites places leaf (ICall x y args) = call_sites args _
instruction_sites places leaf (Input x) = refl
instruction_sites places leaf (Output x) = refl

-- ---- the sites and the words before a line

module _ (places : List GlobalPlace) (first : ℕ) (func : Func) where
  pub sites_before : (instrs : List Instr) (t : Term) (l : ℕ) → l ≤ length instrs
      → sites (lines_code (take l (map (line_code places first func) (map instruction instrs ++ terminator t ∷ [])))) ≡ count_by is_calling (take l instrs)
  sites_before instrs t zero less = refl
  sites_before [] t (suc l) less = absurd (omega arith)
  sites_before (i ∷ instrs) t (suc l) less =
      sites_join (instruction_code places (is_leaf func) i) (lines_code (take l (map (line_code places first func) (map instruction instrs ++ terminator t ∷ []))))
      ∙ ap (λ (n : ℕ). n + sites (lines_code (take l (map (line_code places first func) (map instruction instrs ++ terminator t ∷ []))))) (instruction_sites places (is_leaf func) i)
      ∙ ap (λ (n : ℕ). cond (is_calling i) 1 0 + n) (sites_before instrs t l (omega arith))
      ∙ sym (sum_by-cons (λ j. cond (is_calling j) 1 0) i (take l instrs))

  pub words_before : (lines : List CodeLine) (l : ℕ) → words_become (lines_code (take l (map (line_code places first func) lines))) ≡ words_before_line (map (λ line. expansion (line_code places first func line)) lines) l
  words_before lines l = ap words_needed (by (take l (map (line_code places first func) lines)) ∙ ap lines_code (fronts lines l)) where
    by : (codes : List (List Item)) → expansion (lines_code codes) ≡ lines_code (map expansion codes)
    by [] = refl
    by (c ∷ cs) = flat_map-append expanded c (lines_code cs) ∙ ap (λ (is : List Item). expansion c ++ is) (by cs)

    fronts : (lines : List CodeLine) (l : ℕ) → map expansion (take l (map (line_code places first func) lines)) ≡ take l (map (λ line. expansion (line_code places first func line)) lines)
    fronts lines zero = refl
    fronts [] (suc l) = refl
    fronts (x ∷ xs) (suc l) = ap (λ (cs : List (List Item)). expansion (line_code places first func x) ∷ cs) (fronts xs l)

-- ---- a line among the lines of its block

pub split_lines : (codes : List (List Item)) (l : ℕ) (c : List Item) → slice_get codes l ≡ Some c → lines_code codes ≡ lines_code (take l codes) ++ (c ++ lines_code (drop (suc l) codes))
split_lines [] l c is = absurd (cc)
split_lines (d ∷ codes) zero c is = let same : d ≡ c = cc in ap (λ (xs : List Item). xs ++ lines_code codes) same
split_lines (d ∷ codes) (suc l) c is =
    ap (λ (xs : List Item). d ++ xs) (split_lines codes l c is) ∙ sym (append_assoc d (lines_code (take l codes)) (c ++ lines_code (drop (suc l) codes)))

line_there : (instrs : List Instr) (t : Term) (n : ℕ) (line : CodeLine) (b : Bool) → nat_lt n (length instrs) ≡ b
    → cond b (option_map instruction (slice_get instrs n)) (cond (nat_eq n (length instrs)) (Some (terminator t)) None) ≡ Some line → slice_get (map instruction instrs ++ terminator t ∷ []) n ≡ Some line
line_there instrs t n line true e is =
    let many = map_length instruction instrs in
    let less = ltb-true n (length instrs) e in
    get_before (map instruction instrs) (terminator t ∷ []) n (omega arith) ∙ slice_get-map instruction instrs n ∙ is
line_there instrs t n line false e is = last (nat_eq n (length instrs)) refl is where
  last : (c : Bool) → nat_eq n (length instrs) ≡ c → cond c (Some (terminator t)) None ≡ Some line → slice_get (map instruction instrs ++ terminator t ∷ []) n ≡ Some line
  last true q h =
      let many = map_length instruction instrs in
      let same = eqb-true n (length instrs) q in
      get_right (map instruction instrs) (terminator t ∷ []) 0 n (omega arith) ∙ h
  last false q h = absurd (cc)

pub line_is_there : (block : BlockIr) (n : ℕ) (line : CodeLine) → line_in block n ≡ Some line → slice_get (code_lines block) n ≡ Some line
line_is_there block n line is = line_there block.instrs block.term n line (nat_lt n (length block.instrs)) refl is

pub line_inside : (block : BlockIr) (n : ℕ) (line : CodeLine) → line_in block n ≡ Some line → n ≤ length block.instrs
line_inside block n line is = by (nat_lt n (length block.instrs)) refl is where
  by : (b : Bool) → nat_lt n (length block.instrs) ≡ b → cond b (option_map instruction (slice_get block.instrs n)) (cond (nat_eq n (length block.instrs)) (Some (terminator block.term)) None) ≡ Some line → n ≤ length block.instrs
  by true e h = let less = ltb-true n (length block.instrs) e in omega arith
  by false e h = last (nat_eq n (length block.instrs)) refl h where
    last : (c : Bool) → nat_eq n (length block.instrs) ≡ c → cond c (Some (terminator block.term)) None ≡ Some line → n ≤ length block.instrs
    last true q h = let same = eqb-true n (length block.instrs) q in omega arith
    last false q h = absurd (cc)
