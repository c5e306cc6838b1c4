-- The expansion of each line, and of a block line by line.
use Rattle.std.proofs.Common.{◌≡◌, ℕ, zero, suc, pos, nat_lt, if◌then◌else◌, ◌+◌, ◌<◌, Bool, true, false, cond, eqb, ltb, List, [], ◌∷◌, ◌++◌, length, map, refl, sym, ap, ◌∙◌, Option, Some, None}
use Rattle.std.proofs.Common.{arith, length-append}
use Rattle.std.specs.{Prelude.slice_get, Option.option_map}
use Rattle.std.proofs.lemmas.{Bool.eqb-true, Bool.ltb-true, List.length-map, List.Concat.flat_map-append}
use Rattle.oat_parts.proofs.Lists.{get_before, map_get}
use Rattle.oat_globals.specs.{AddImm, SubImm, SubsImm, Ldr, Str, BCond, Cbnz, Brk, Item, expanded, expansion, BlockIr, Instr, BinOp, Add, Sub, Mul, And, Or, Xor, Shl, Shr, Sar, Eq, Ne, Lt, Le, Ltu}
use Rattle.oat_globals.specs.{Leu, Div, Rem, Divu, Remu, CodeLine, instruction, terminator, line_in, home_load, home_store, argument_loads, local_stores, depth_tested, behind_call, prologue, Home}
use Rattle.oat_globals.specs.{slot, register, home_of, frame_size, lines_code, Operations.begin_code, Operations.start_code, Operations.leave_code}
use Rattle.oat_locals.specs.Code.{operand_in, operand_load, operand_store, operation_code, binary_code}
use Rattle.oat_gen.specs.{Marked.begin_mark, Marked.marked_start, Marked.marked_return, Code.line_code, Code.code_lines, Laws.MarkedCodeExpands, Laws.OtherCodeStays, Laws.BlocksExpandByLine}
use Rattle.oat_gen.specs.{Laws.BlocksHaveTheirLines}
use Rattle.oat_asm.specs.declared.item.Item.TheVariants as item
use Rattle.oat_asm.specs.declared.mark.Mark.TheVariants as mark
use Rattle.oat_asm.specs.declared.note.Note.TheVariants as note

-- ---- lines

stores_stay : (leaf : Bool) (params from n : ℕ) (is : List Item) → expansion (local_stores leaf params from n ++ is) ≡ local_stores leaf params from n ++ expansion is
stores_stay leaf params from zero is = refl
stores_stay leaf params from (suc n) is = ap (λ (js : List Item). home_store (if nat_lt from params then from else 31) (home_of leaf from) ∷ js) (stores_stay leaf params (from + 1) n is)

loads_stay : (r : ℕ) (args : List ℕ) (is : List Item) → expansion (argument_loads r args ++ is) ≡ argument_loads r args ++ expansion is
loads_stay r [] is = refl
loads_stay r (k ∷ ks) is = ap (λ (js : List Item). item.Inst (Ldr r 31 (k + 1)) ∷ js) (loads_stay (r + 1) ks is)

begins : (op : Option ℕ) → expansion (begin_mark op) ≡ begin_code op
begins None = refl
begins (Some op) = refl

starts : (leaf : Bool) (params locals : ℕ) (op : Option ℕ) → expansion (marked_start leaf params locals op) ≡ start_code leaf params locals op
starts leaf params locals op =
    ap (λ (js : List Item). item.Inst (SubImm 31 31 (frame_size locals)) ∷ item.Inst (Str 30 31 0) ∷ js) (stores_stay leaf params 0 locals (begin_mark op))
    ∙ ap (λ (js : List Item). prologue leaf params locals ++ js) (begins op)

leaves : (locals : ℕ) (from : Home) (op : Option ℕ) → expansion (marked_return locals from op) ≡ leave_code locals from op
leaves locals from None = refl
leaves locals from (Some op) = refl

depth : (args : List ℕ) (is : List Item) → expansion (depth_tested args is) ≡ depth_tested args (expansion is)
depth args is =
    ap (λ (js : List Item). item.Inst (SubsImm 31 28 256) ∷ item.Note note.Check ∷ item.Inst (BCond 3 (pos 2)) ∷ item.Inst (Brk 4) ∷ item.Inst (AddImm 28 28 1) ∷ js) (loads_stay 0 args is)

pub marked_code_expands : MarkedCodeExpands
marked_code_expands = record {
  start = starts;
  leave = leaves;
  call = λ args callee result. depth args (item.Mark (mark.Call callee) ∷ behind_call result);
  icall = λ args from result.
      ap (λ (js : List Item). home_load 9 (slot (from + 1)) ∷ item.Note note.Check ∷ item.Inst (Cbnz 9 (pos 2)) ∷ item.Inst (Brk 3) ∷ js)
      (depth args (item.Mark (mark.ICall (length args)) ∷ behind_call result));
  jump = λ to. refl;
  branch = λ x first second. refl;
  load = λ word cell len x. refl;
  store = λ word cell len x. refl;
  loadx = λ word cell len x i. refl;
  storex = λ word cell len i x. refl;
}

operands_stay : (r : ℕ) (home : Home) (is : List Item) → expansion (operand_load r home ++ is) ≡ operand_load r home ++ expansion is
operands_stay r (slot k) is = refl
operands_stay r (register q) is = refl

results_stay : (r : ℕ) (home : Home) → expansion (operand_store r home) ≡ operand_store r home
results_stay r (slot k) = refl
results_stay r (register q) = refl

operations_stay : (op : BinOp) (d a b : ℕ) (is : List Item) → expansion (operation_code op d a b ++ is) ≡ operation_code op d a b ++ expansion is
operations_stay Add d a b is = refl
operations_stay Sub d a b is = refl
operations_stay Mul d a b is = refl
operations_stay And d a b is = refl
operations_stay Or d a b is = refl
operations_stay Xor d a b is = refl
operations_stay Shl d a b is = refl
operations_stay Shr d a b is = refl
operations_stay Sar d a b is = refl
operations_stay Eq d a b is = refl
operations_stay Ne d a b is = refl
operations_stay Lt d a b is = refl
operations_stay Le d a b is = refl
operations_stay Ltu d a b is = refl
operations_stay Leu d a b is = refl
operations_stay Div d a b is = refl
operations_stay Rem d a b is = refl
operations_stay Divu d a b is = refl
operations_stay Remu d a b is = refl

binaries : (op : BinOp) (x y z : Home) → expansion (binary_code op x y z) ≡ binary_code op x y z
binaries op x y z =
    let code : List Item = operation_code op (operand_in 9 x) (operand_in 9 y) (operand_in 10 z) in
    operands_stay 9 y (operand_load 10 z ++ (code ++ operand_store 9 x))
    ∙ ap (λ (js : List Item). operand_load 9 y ++ js) (operands_stay 10 z (code ++ operand_store 9 x))
    ∙ ap (λ (js : List Item). operand_load 9 y ++ (operand_load 10 z ++ js)) (operations_stay op (operand_in 9 x) (operand_in 9 y) (operand_in 10 z) (operand_store 9 x))
    ∙ ap (λ (js : List Item). operand_load 9 y ++ (operand_load 10 z ++ (code ++ js))) (results_stay 9 x)

pub other_code_stays : OtherCodeStays
other_code_stays = record {
  binary = binaries;
  const = λ x value. refl;
  copy = λ x y. refl;
  input = λ x. refl;
  output = λ x. refl;
  halt = refl;
  load = λ x word. refl;
  store = λ word x. refl;
  ref = λ x callee. refl;
  loadx = λ x word len i. refl;
  storex = λ word len i x. refl;
}

-- ---- blocks

joined : {X : Type 0} (code : X → List Item) (xs : List X) → expansion (lines_code (map code xs)) ≡ lines_code (map (λ x. expansion (code x)) xs)
joined code [] = refl
joined code (x ∷ xs) = flat_map-append expanded (code x) (lines_code (map code xs)) ∙ ap (λ (js : List Item). expansion (code x) ++ js) (joined code xs)

pub blocks_expand_by_line : BlocksExpandByLine
blocks_expand_by_line places first func block = joined (line_code places first func) (code_lines block)

-- what stands behind all others
last_is : {X : Type 0} (xs : List X) (x : X) → slice_get (xs ++ x ∷ []) (length xs) ≡ Some x
last_is [] x = refl
last_is (y ∷ ys) x = last_is ys x

line_is : (block : BlockIr) (n : ℕ) (line : CodeLine) → line_in block n ≡ Some line → slice_get (code_lines block) n ≡ Some line
line_is block n line at = by (ltb n (length block.instrs)) refl at where
  listed : List CodeLine
  listed = map instruction block.instrs

  of : (o : Option Instr) → slice_get block.instrs n ≡ o → option_map instruction o ≡ Some line → slice_get listed n ≡ Some line
  of None found h = absurd (let e : None ≡ Some line = h in cc)
  of (Some i) found h = map_get instruction block.instrs n i found ∙ h

  behind : (b : Bool) → eqb n (length block.instrs) ≡ b → cond b (Some (terminator block.term)) None ≡ Some line → slice_get (code_lines block) n ≡ Some line
  behind true is h =
      let here : n ≡ length listed = eqb-true n (length block.instrs) is ∙ sym (length-map block.instrs instruction) in
      ap (slice_get (code_lines block)) here ∙ last_is listed (terminator block.term) ∙ h
  behind false is h = absurd (let e : None ≡ Some line = h in cc)

  by : (b : Bool) → ltb n (length block.instrs) ≡ b
      → cond b (option_map instruction (slice_get block.instrs n)) (cond (eqb n (length block.instrs)) (Some (terminator block.term)) None) ≡ Some line → slice_get (code_lines block) n ≡ Some line
  by true is h =
      let low : n < length listed = omega (arith, ltb-true n (length block.instrs) is, length-map block.instrs instruction) in
      get_before listed (terminator block.term ∷ []) n low ∙ of (slice_get block.instrs n) refl h
  by false is h = behind (eqb n (length block.instrs)) refl h

pub blocks_have_their_lines : BlocksHaveTheirLines
blocks_have_their_lines places first func block =
    let code = λ (line : CodeLine). expansion (line_code places first func line) in
    record {
      count = length-map (code_lines block) code ∙ length-append (map instruction block.instrs) (terminator block.term ∷ []) ∙ ap (λ (n : ℕ). n + 1) (length-map block.instrs instruction);
      each = λ n line at. map_get code (code_lines block) n line (line_is block n line at);
    }
