-- Each line of a checked program is made of parts.
use Rattle.std.proofs.Common.{◌≡◌, ℕ, ℤ, zero, suc, ◌+◌, ◌<◌, ◌≤◌, Bool, true, cond, ltb, ◌&&◌, ap, ◌∙◌, List, [], ◌∷◌, ◌++◌, length, refl, Option, Some, None, arith, lit<}
use Rattle.std.specs.{Prelude.slice_get, Prelude.Contains, Option.option_to_list}
use Rattle.oat_parts.proofs.Lists.{first_in, later_in}
use Rattle.oat_frames.proofs.FrameLaws.{load-range, store-range}
use Rattle.oat_globals.specs.{AddImm, SubImm, SubsImm, Ldr, Str, Svc, IsInRange, Item, AreItemsInRange, IsLength, IsOperationNumber, AreElements, Program, BinOp, Add, Sub, Mul, And, Or, Xor, Shl, Shr}
use Rattle.oat_globals.specs.{Sar, Eq, Ne, Lt, Le, Ltu, Leu, Div, Rem, Divu, Remu, IsHome, load_inst, store_inst, home_load, home_store, argument_loads, local_stores, depth_tested, behind_call}
use Rattle.oat_globals.specs.{prologue, Home, slot, register, home_of, frame_size}
use Rattle.oat_globals.proofs.GlobalLaws.{global_lines_are_in_range}
use Rattle.oat_locals.specs.{Mark, Code.operand_in, Code.operand_load, Code.operand_store, Code.operation_code, Code.binary_code, Code.const_code, Code.copy_code, Code.input_code, Code.output_code}
use Rattle.oat_locals.proofs.LineLaws.{lines-are-in-range}
use Rattle.oat_symbols.specs.{SymbolTable, is_set, is_met, begun_by, IsMarkOf, IsLoose, Programs.symbols_of}
use Rattle.oat_gen.specs.{declared.globals.GlobalPlace.GlobalPlace, declared.globals.GlobalPlace.TheVariants.Ordinary, declared.globals.GlobalPlace.TheVariants.Critical, GlobalPlaces.global_places}
use Rattle.oat_gen.specs.{Marked.begin_mark, Marked.marked_start, Marked.marked_return, Marked.scalar_load, Marked.scalar_store, Marked.element_load, Marked.element_store}
use Rattle.oat_gen.proofs.Stretches.{Made, in_two, is_plain, are_plain, nothing, inst_then, plain_now, check_now, plain_then, check_then, mark_then, call_then}
use Rattle.oat_asm.specs.declared.mark.Mark.TheVariants as mark
use Rattle.oat_asm.specs.declared.item.Item.TheVariants as item
use Rattle.oat_parts.specs.Parts as part

-- ---- loads and stores of homes

load_loose : (r : ℕ) (home : Home) → IsLoose (load_inst r home)
load_loose r (slot k) = refl
load_loose r (register q) = refl

store_loose : (r : ℕ) (home : Home) → IsLoose (store_inst r home)
store_loose r (slot k) = refl
store_loose r (register q) = refl

store_plain : (r : ℕ) (home : Home) → is_plain (home_store r home) ≡ true
store_plain r (slot k) = refl
store_plain r (register q) = refl

module _ (t : SymbolTable) where
  pub load_then : (r : ℕ) (home : Home) (is : List Item) → r < 32 → IsHome home → Made t [] is → Made t [] (home_load r home ∷ is)
  load_then r home is low fits rest = inst_then t [] (load_inst r home) is (load-range r home low fits) (load_loose r home) rest

  pub store_last : (r : ℕ) (home : Home) → r < 32 → IsHome home → Made t [] (home_store r home ∷ [])
  store_last r home low fits = inst_then t [] (store_inst r home) [] (store-range r home low fits) (store_loose r home) (nothing t)

-- ---- lines on locals

module _ (t : SymbolTable) where
  pub const_made : (x : Home) (value : ℤ) → IsHome x → Made t [] (const_code x value)
  const_made x value hx =
      plain_then t [] (item.Inst _ ∷ item.Inst _ ∷ item.Inst _ ∷ item.Inst _ ∷ []) (home_store 9 x ∷ []) refl (lines-are-in-range.const x value hx) (λ r. store_last t 9 x (lit< tt) hx)

  pub copy_made : (x y : Home) → IsHome x → IsHome y → Made t [] (copy_code x y)
  copy_made x y hx hy = load_then t 9 y (home_store 9 x ∷ []) (lit< tt) hy (store_last t 9 x (lit< tt) hx)

  pub input_made : (x : Home) → IsHome x → Made t [] (input_code x)
  input_made x hx = plain_then t [] (item.Inst (Svc 8) ∷ []) (home_store 0 x ∷ []) refl (lines-are-in-range.input x hx) (λ r. store_last t 0 x (lit< tt) hx)

  pub output_made : (x : Home) → IsHome x → Made t [] (output_code x)
  output_made x hx = load_then t 0 x (item.Inst (Svc 9) ∷ []) (lit< tt) hx (plain_then t [] (item.Inst (Svc 9) ∷ []) [] refl (lines-are-in-range.output x hx).1 (λ r. nothing t))

  operand_then : (r : ℕ) (home : Home) (is : List Item) → r < 32 → IsHome home → Made t [] is → Made t [] (operand_load r home ++ is)
  operand_then r (slot k) is low fits rest = load_then t r (slot k) is low fits rest
  operand_then r (register q) is low fits rest = rest

  result_last : (r : ℕ) (home : Home) → r < 32 → IsHome home → Made t [] (operand_store r home)
  result_last r (slot k) low fits = store_last t r (slot k) low fits
  result_last r (register q) low fits = nothing t

  operation_then : (op : BinOp) (d a b : ℕ) (is : List Item) → AreItemsInRange (operation_code op d a b ++ is) → Made t [] is → Made t [] (operation_code op d a b ++ is)
  operation_then Add d a b is r rest = plain_then t [] (operation_code Add d a b) is refl r (λ s. rest)
  operation_then Sub d a b is r rest = plain_then t [] (operation_code Sub d a b) is refl r (λ s. rest)
  operation_then Mul d a b is r rest = plain_then t [] (operation_code Mul d a b) is refl r (λ s. rest)
  operation_then And d a b is r rest = plain_then t [] (operation_code And d a b) is refl r (λ s. rest)
  operation_then Or d a b is r rest = plain_then t [] (operation_code Or d a b) is refl r (λ s. rest)
  operation_then Xor d a b is r rest = plain_then t [] (operation_code Xor d a b) is refl r (λ s. rest)
  operation_then Shl d a b is r rest = plain_then t [] (operation_code Shl d a b) is refl r (λ s. rest)
  operation_then Shr d a b is r rest = plain_then t [] (operation_code Shr d a b) is refl r (λ s. rest)
  operation_then Sar d a b is r rest = plain_then t [] (operation_code Sar d a b) is refl r (λ s. rest)
  operation_then Eq d a b is r rest = plain_then t [] (operation_code Eq d a b) is refl r (λ s. rest)
  operation_then Ne d a b is r rest = plain_then t [] (operation_code Ne d a b) is refl r (λ s. rest)
  operation_then Lt d a b is r rest = plain_then t [] (operation_code Lt d a b) is refl r (λ s. rest)
  operation_then Le d a b is r rest = plain_then t [] (operation_code Le d a b) is refl r (λ s. rest)
  operation_then Ltu d a b is r rest = plain_then t [] (operation_code Ltu d a b) is refl r (λ s. rest)
  operation_then Leu d a b is r rest = plain_then t [] (operation_code Leu d a b) is refl r (λ s. rest)
  operation_then Div d a b is r rest = check_then t [] (is_set b) 1 _ r (λ u. plain_then t [] (item.Inst _ ∷ []) is refl u (λ v. rest))
  operation_then Rem d a b is r rest = check_then t [] (is_set b) 1 _ r (λ u. plain_then t [] (item.Inst _ ∷ item.Inst _ ∷ []) is refl u (λ v. rest))
  operation_then Divu d a b is r rest = check_then t [] (is_set b) 1 _ r (λ u. plain_then t [] (item.Inst _ ∷ []) is refl u (λ v. rest))
  operation_then Remu d a b is r rest = check_then t [] (is_set b) 1 _ r (λ u. plain_then t [] (item.Inst _ ∷ item.Inst _ ∷ []) is refl u (λ v. rest))

  pub binary_made : (op : BinOp) (x y z : Home) → IsHome x → IsHome y → IsHome z → Made t [] (binary_code op x y z)
  binary_made op x y z hx hy hz =
      let last : List Item = operation_code op (operand_in 9 x) (operand_in 9 y) (operand_in 10 z) ++ operand_store 9 x in
      let behind = (in_two (operand_load 9 y) (operand_load 10 z ++ last) (lines-are-in-range.binary op x y z hx hy hz)).1 in
      let ranges = (in_two (operand_load 10 z) last behind).1 in
      operand_then 9 y (operand_load 10 z ++ last) (lit< tt) hy
      (operand_then 10 z last (lit< tt) hz
      (operation_then op (operand_in 9 x) (operand_in 9 y) (operand_in 10 z) (operand_store 9 x) ranges (result_last 9 x (lit< tt) hx)))

-- ---- slots, where a function calls

pub loads_slot : (r x : ℕ) → r < 32 → x < 255 → IsInRange (Ldr r 31 (x + 1))
loads_slot r x a b = (a, (lit< tt, (omega arith, tt)))

pub stores_slot : (r x : ℕ) → r < 32 → x < 255 → IsInRange (Str r 31 (x + 1))
stores_slot r x a b = (a, (lit< tt, (omega arith, tt)))

-- ---- calls, starts, returns

module _ (t : SymbolTable) where
  loads_made : (r : ℕ) (args : List ℕ) (is : List Item) → r + length args ≤ 32 → ((k : ℕ) → Contains args k → k < 255) → Made t [] is → Made t [] (argument_loads r args ++ is)
  loads_made r [] is low slots rest = rest
  loads_made r (k ∷ ks) is low slots rest =
      inst_then t [] (Ldr r 31 (k + 1)) (argument_loads (r + 1) ks ++ is) (loads_slot r k (omega arith) (slots k (first_in k ks))) refl
      (loads_made (r + 1) ks is (omega (arith, low)) (λ j has. slots j (later_in k ks j has)) rest)

  pub tested_made : (args : List ℕ) (is : List Item) → length args ≤ 4 → ((k : ℕ) → Contains args k → k < 255) → Made t [] is → Made t [] (depth_tested args is)
  tested_made args is few slots rest =
      let loads = loads_made 0 args is (omega (arith, few)) slots rest in
      let count = inst_then t [] (AddImm 28 28 1) (argument_loads 0 args ++ is) (lit< tt, (lit< tt, (lit< tt, tt))) refl loads in
      let trap = check_now t [] (is_met 3) 4 (item.Inst (AddImm 28 28 1) ∷ (argument_loads 0 args ++ is)) (refl, (lit< tt, tt)) (lit< tt) count in
      inst_then t [] (SubsImm 31 28 256) _ (lit< tt, (lit< tt, (lit< tt, tt))) refl trap

  -- the mark of a call, and what follows
  pub followed : (m : Mark) (x : ℕ) → begun_by (part.mark m) ≡ [] → IsMarkOf t m → x < 255 → Made t [] (item.Mark m ∷ behind_call x)
  followed m x none known low =
      call_then t m (SubImm 28 28 1) (home_store 0 (slot (x + 1)) ∷ []) none known (lit< tt, (lit< tt, (lit< tt, tt))) refl (inst_then t [] (Str 0 31 (x + 1)) [] (stores_slot 0 x (lit< tt) low) refl (nothing t))

  back_made : (locals : ℕ) (from : Home) → locals ≤ 255 → IsHome from → Made t [] (marked_return locals from None)
  back_made locals from few low =
      load_then t 0 from _ (lit< tt) low
      (inst_then t [] (Ldr 30 31 0) _ (lit< tt, (lit< tt, (lit< tt, tt))) refl
      (inst_then t [] (AddImm 31 31 (frame_size locals)) _ (lit< tt, (lit< tt, (omega arith, tt))) refl (mark_then t [] mark.Ret [] refl tt (nothing t))))

  pub return_made : (locals : ℕ) (from : Home) (op : Option ℕ) → locals ≤ 255 → IsHome from → ((n : ℕ) → op ≡ Some n → IsMarkOf t (mark.End n)) → Made t [] (marked_return locals from op)
  return_made locals from None few low known = back_made locals from few low
  return_made locals from (Some op) few low known = mark_then t [] (mark.End op) _ refl (known op refl) (back_made locals from few low)

  stores_plain : (leaf : Bool) (params from n : ℕ) → are_plain (local_stores leaf params from n) ≡ true
  stores_plain leaf params from zero = refl
  stores_plain leaf params from (suc n) =
      ap (λ (b : Bool). b && are_plain (local_stores leaf params (from + 1) n)) (store_plain (cond (ltb from params) from 31) (home_of leaf from)) ∙ stores_plain leaf params (from + 1) n

  begin_made : (op : Option ℕ) → ((n : ℕ) → op ≡ Some n → IsOperationNumber n) → Made t (option_to_list op) (begin_mark op)
  begin_made None known = nothing t
  begin_made (Some op) known = mark_then t [] (mark.Begin op) [] refl (known op refl) (nothing t)

  pub start_made : (leaf : Bool) (params locals : ℕ) (op : Option ℕ) → params ≤ 4 → locals ≤ 255 → ((n : ℕ) → op ≡ Some n → IsOperationNumber n) → Made t (option_to_list op) (marked_start leaf params locals op)
  start_made leaf params locals op few slots known =
      let ranges = (in_two (prologue leaf params locals) [] (global_lines_are_in_range.start leaf params locals None few slots (λ n none. absurd (let e : None ≡ Some n = none in cc)))).0 in
      plain_now t (option_to_list op) (prologue leaf params locals) (begin_mark op) (stores_plain leaf params 0 locals) ranges (begin_made op known)

-- ---- lines on globals

module _ (p : Program) where
  abbrev places : List GlobalPlace
  places = global_places p

  abbrev table : SymbolTable
  table = symbols_of p

  -- a place whose first element may be loaded and stored, and one each of whose elements may
  abbrev pub IsScalarPlace : GlobalPlace → Type 0
  IsScalarPlace (Ordinary word len) = word < 65536
  IsScalarPlace (Critical word cell len) = slice_get table.cells cell ≡ Some word

  abbrev pub IsArrayPlace : GlobalPlace → Type 0
  IsArrayPlace (Ordinary word len) = (word < 65536) × (len ≤ 65536)
  IsArrayPlace (Critical word cell len) = AreElements table.cells cell len word × IsLength len

  -- a local's word goes into the word that X11 names
  write_last : (x : Home) → IsHome x → AreItemsInRange (home_load 9 x ∷ item.Inst (Str 9 11 0) ∷ []) → Made table [] (home_load 9 x ∷ item.Inst (Str 9 11 0) ∷ [])
  write_last x hx r = load_then table 9 x (item.Inst (Str 9 11 0) ∷ []) (lit< tt) hx (plain_then table [] (item.Inst (Str 9 11 0) ∷ []) [] refl r.1 (λ u. nothing table))

  pub load_made : (at : GlobalPlace) (x : Home) → IsScalarPlace at → IsHome x → Made table [] (scalar_load at x)
  load_made (Ordinary word len) x h hx =
      plain_then table [] (item.Inst _ ∷ item.Inst _ ∷ item.Inst _ ∷ []) (home_store 9 x ∷ []) refl (global_lines_are_in_range.load x word hx h) (λ r. store_last table 9 x (lit< tt) hx)
  load_made (Critical word cell len) x h hx = mark_then table [] (mark.UseCell cell word) (home_store 10 x ∷ []) refl h (store_last table 10 x (lit< tt) hx)

  pub store_made : (at : GlobalPlace) (x : Home) → IsScalarPlace at → IsHome x → Made table [] (scalar_store at x)
  store_made (Ordinary word len) x h hx =
      plain_then table [] (item.Inst _ ∷ item.Inst _ ∷ []) (home_load 9 x ∷ item.Inst (Str 9 11 0) ∷ []) refl (global_lines_are_in_range.store word x h hx) (λ r. write_last x hx r)
  store_made (Critical word cell len) x h hx = load_then table 10 x (item.Mark (mark.DefCell cell word) ∷ []) (lit< tt) hx (mark_then table [] (mark.DefCell cell word) [] refl h (nothing table))

  -- the load of the number, the length's two moves and the test; then the rest
  pub element_made : (at : GlobalPlace) (x i : Home) → IsArrayPlace at → IsHome x → IsHome i → Made table [] (element_load at x i)
  element_made (Ordinary word len) x i h hx hi =
      load_then table 12 i _ (lit< tt) hi
      (plain_then table [] (item.Inst _ ∷ item.Inst _ ∷ item.Inst _ ∷ []) _ refl (global_lines_are_in_range.loadx x word len i hx h.0 h.1 hi).1
      (λ r. check_then table [] (is_met 3) 2 _ r (λ s. plain_then table [] (item.Inst _ ∷ item.Inst _ ∷ item.Inst _ ∷ item.Inst _ ∷ []) (home_store 9 x ∷ []) refl s (λ u. store_last table 9 x (lit< tt) hx))))
  element_made (Critical word cell len) x i h hx hi =
      load_then table 12 i _ (lit< tt) hi (mark_then table [] (mark.UseAt cell len word) (home_store 10 x ∷ []) refl h (store_last table 10 x (lit< tt) hx))

  pub element_stored : (at : GlobalPlace) (i x : Home) → IsArrayPlace at → IsHome x → IsHome i → Made table [] (element_store at i x)
  element_stored (Ordinary word len) i x h hx hi =
      load_then table 12 i _ (lit< tt) hi
      (plain_then table [] (item.Inst _ ∷ item.Inst _ ∷ item.Inst _ ∷ []) _ refl (global_lines_are_in_range.storex word len i x h.0 h.1 hi hx).1
      (λ r. check_then table [] (is_met 3) 2 _ r
      (λ s. plain_then table [] (item.Inst _ ∷ item.Inst _ ∷ item.Inst _ ∷ []) (home_load 9 x ∷ item.Inst (Str 9 11 0) ∷ []) refl s (λ u. write_last x hx u))))
  element_stored (Critical word cell len) i x h hx hi =
      load_then table 12 i _ (lit< tt) hi (load_then table 10 x _ (lit< tt) hx (mark_then table [] (mark.DefAt cell len word) [] refl h (nothing table)))
