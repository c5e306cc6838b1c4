-- What a checked program is known by, at each of its lines.
use Rattle.std.proofs.Common.{◌≡◌, ◌<◌, ℕ, zero, suc, Bool, true, false, not, cond, ◌||◌, List, [], ◌∷◌, length, Option, option_map, Some, None, refl, sym, ap, subst, ◌∙◌, arith, ltb}
use Rattle.std.specs.{Prelude.slice_get, Prelude.All, Option.option_or, List.list_any, List.sum_by}
use Rattle.std.proofs.lemmas.{List.Elements.All-cons, List.Elements.All-nil, Bool.not-false, Bool.not_from_true, Bool.eqb-true, Bool.ltb-false, Bool.le-ltb, Option.slice_get_within}
use Rattle.std.proofs.lemmas.{Option.get_or_from_slice_get}
use Rattle.oat_ir.specs.{declared.program.Program.Program, declared.func.Func.Func, declared.func.BlockIr.BlockIr, declared.func.Ty.Ty, declared.func.Ty.TheVariants.I64}
use Rattle.oat_ir.specs.{declared.func.Ty.TheVariants.Fn, declared.instr.Instr.Instr, WellFormed.IsFunc, WellFormed.IsBlockIr, Indices.IsTerm}
use Rattle.oat_check.specs.{declared.fault.CheckKind.TheVariants.CallsMain, declared.fault.CheckKind.TheVariants.OperationCall, declared.fault.CheckKind.TheVariants.RefKind}
use Rattle.oat_check.specs.{declared.fault.CheckKind.TheVariants.Arity, declared.fault.CheckKind.TheVariants.Kind, declared.fault.CheckKind.TheVariants.MainRet, Globals.size_in_words, Lines.CodeLine}
use Rattle.oat_check.specs.{Lines.instruction, Lines.terminator, RuleLaws.AcceptedExactly, RuleLaws.BlockKeepsRules, RuleLaws.FuncKeepsRules, RuleLaws.IsAllowed, RuleLaws.KeepsRules, Rules.IsChecked}
use Rattle.oat_check.specs.{Rules.are_alike, Rules.broken_by, Rules.calls_main, Rules.calls_operation, Rules.counts_amiss, Rules.fault_at, Rules.fault_in_block, Rules.fault_in_func}
use Rattle.oat_check.specs.{Rules.fault_in_line, Rules.first_in, Rules.first_fault, Rules.has_types, Rules.is_main, Rules.never_ends, Rules.one_ty, Rules.refers_amiss, Rules.returns_from_main}

pub each_at : {X : Type 0} (P : X → Type 0) (xs : List X) (i : ℕ) (x : X) → All P xs → slice_get xs i ≡ Some x → P x
each_at P xs i x each is = subst P (get_or_from_slice_get xs i x x is) (each i x (slice_get_within xs i x is))

-- ---- chains of tests

or_none : {X : Type 0} (o q : Option X) → option_or o q ≡ None → (o ≡ None) × (q ≡ None)
or_none None q h = (refl, h)
or_none (Some x) q h = absurd (cc)

none_or : {X : Type 0} (o q : Option X) → o ≡ None → q ≡ None → option_or o q ≡ None
none_or o q h k = ap (λ x. option_or x q) h ∙ k

map_none : {X Y : Type 0} (f : X → Y) (o : Option X) → option_map f o ≡ None → o ≡ None
map_none f None h = refl
map_none f (Some x) h = absurd (cc)

skipped : {X : Type 0} (t : Bool) (x : X) (o : Option X) → cond t (Some x) o ≡ None → (t ≡ false) × (o ≡ None)
skipped false x o h = (refl, h)
skipped true x o h = absurd (cc)

passed : {X : Type 0} (t : Bool) (x : X) (o : Option X) → t ≡ false → o ≡ None → cond t (Some x) o ≡ None
passed t x o h k = ap (λ b. cond b (Some x) o) h ∙ k

-- ---- one line

allowed : (p : Program) (f : Func) (line : CodeLine) → broken_by p f line ≡ None → IsAllowed p f line
allowed p f line h =
    let a = skipped (calls_main p line) _ _ h in
    let b = skipped (calls_operation p f line) _ _ a.1 in
    let c = skipped (refers_amiss p line) _ _ b.1 in
    let d = skipped (counts_amiss p f line) _ _ c.1 in
    let e = skipped (not (has_types p f line)) _ _ d.1 in
    let g = skipped (returns_from_main f line) _ _ e.1 in
    record { calls_no_main = a.0; calls_no_operation = b.0; refers = c.0; counts = d.0; typed = not-false (has_types p f line) e.0; stays = g.0 }

unbroken : (p : Program) (f : Func) (line : CodeLine) → IsAllowed p f line → broken_by p f line ≡ None
unbroken p f line a =
    passed (calls_main p line) CallsMain _ a.calls_no_main (passed (calls_operation p f line) OperationCall _ a.calls_no_operation (passed (refers_amiss p line) RefKind _ a.refers
    (passed (counts_amiss p f line) Arity _ a.counts (passed (not (has_types p f line)) Kind _ (not_from_true (has_types p f line) a.typed) (passed (returns_from_main f line) MainRet None a.stays refl)))))

-- ---- all lines

-- where none is found, each item has none
none_in : {X A : Type 0} (find : ℕ → X → Option A) (P : X → Type 0) → ((n : ℕ) (x : X) → find n x ≡ None → P x) → (n : ℕ) (xs : List X) → first_in find n xs ≡ None → All P xs
none_in find P keeps n [] h = All-nil P
none_in find P keeps n (x ∷ xs) h = let a = or_none _ _ h in All-cons P x xs (keeps n x a.0) (none_in find P keeps (suc n) xs a.1)

first_one : {X : Type 0} (P : X → Type 0) (x : X) (xs : List X) → All P (x ∷ xs) → P x
first_one P x xs h = each_at P (x ∷ xs) 0 x h refl

other_ones : {X : Type 0} (P : X → Type 0) (x : X) (xs : List X) → All P (x ∷ xs) → All P xs
other_ones P x xs h k d l = h (suc k) d (let e : k < length xs = l in omega arith)

in_none : {X A : Type 0} (find : ℕ → X → Option A) (P : X → Type 0) → ((n : ℕ) (x : X) → P x → find n x ≡ None) → (n : ℕ) (xs : List X) → All P xs → first_in find n xs ≡ None
in_none find P lacks n [] h = refl
in_none find P lacks n (x ∷ xs) h = none_or _ _ (lacks n x (first_one P x xs h)) (in_none find P lacks (suc n) xs (other_ones P x xs h))

line_keeps : (p : Program) (f : Func) (func block place : ℕ) (line : CodeLine) → fault_in_line p f func block place line ≡ None → IsAllowed p f line
line_keeps p f func block place line h = allowed p f line (map_none (fault_at func block place) _ h)

keep_line : (p : Program) (f : Func) (func block place : ℕ) (line : CodeLine) → IsAllowed p f line → fault_in_line p f func block place line ≡ None
keep_line p f func block place line k = ap (option_map (fault_at func block place)) (unbroken p f line k)

block_keeps : (p : Program) (f : Func) (func block : ℕ) (b : BlockIr) → fault_in_block p f func block b ≡ None → BlockKeepsRules p f b
block_keeps p f func block b h =
    let a = or_none (first_in (λ place i. fault_in_line p f func block place (instruction i)) 0 b.instrs) _ h in
    record {
      instrs = none_in (λ place i. fault_in_line p f func block place (instruction i)) (λ i. IsAllowed p f (instruction i)) (λ n i k. line_keeps p f func block n (instruction i) k) 0 b.instrs a.0;
      term = line_keeps p f func block (length b.instrs) (terminator b.term) a.1;
    }

keep_block : (p : Program) (f : Func) (func block : ℕ) (b : BlockIr) → BlockKeepsRules p f b → fault_in_block p f func block b ≡ None
keep_block p f func block b k =
    none_or (first_in (λ place i. fault_in_line p f func block place (instruction i)) 0 b.instrs) _
    (in_none (λ place i. fault_in_line p f func block place (instruction i)) (λ i. IsAllowed p f (instruction i)) (λ n i l. keep_line p f func block n (instruction i) l) 0 b.instrs k.instrs)
    (keep_line p f func block (length b.instrs) (terminator b.term) k.term)

func_keeps : (p : Program) (func : ℕ) (f : Func) → fault_in_func p func f ≡ None → FuncKeepsRules p f
func_keeps p func f h =
    let a = skipped (ltb 255 (length f.locals)) _ _ h in
    let b = or_none (first_in (fault_in_block p f func) 0 f.blocks) _ a.1 in
    record {
      locals = ltb-false 255 (length f.locals) a.0;
      blocks = none_in (fault_in_block p f func) (BlockKeepsRules p f) (block_keeps p f func) 0 f.blocks b.0;
      ends = (skipped (never_ends f) _ None b.1).0;
    }

keep_func : (p : Program) (func : ℕ) (f : Func) → FuncKeepsRules p f → fault_in_func p func f ≡ None
keep_func p func f k =
    passed (ltb 255 (length f.locals)) _ _ (le-ltb 255 (length f.locals) k.locals)
    (none_or (first_in (fault_in_block p f func) 0 f.blocks) _ (in_none (fault_in_block p f func) (BlockKeepsRules p f) (keep_block p f func) 0 f.blocks k.blocks) (passed (never_ends f) _ None k.ends refl))

pub keeps_rules : (p : Program) → first_fault p ≡ None → KeepsRules p
keeps_rules p h =
    let a = skipped (not (list_any is_main p.funcs)) _ _ h in
    let b = skipped (ltb 65536 (sum_by size_in_words p.globals)) _ _ a.1 in
    record { main = not-false _ a.0; words = ltb-false 65536 (sum_by size_in_words p.globals) b.0; funcs = none_in (fault_in_func p) (FuncKeepsRules p) (func_keeps p) 0 p.funcs b.1 }

pub accepted_exactly : AcceptedExactly
accepted_exactly p = (
  keeps_rules p,
  λ k. passed (not (list_any is_main p.funcs)) _ _ (not_from_true _ k.main)
      (passed (ltb 65536 (sum_by size_in_words p.globals)) _ _ (le-ltb 65536 (sum_by size_in_words p.globals) k.words) (in_none (fault_in_func p) (FuncKeepsRules p) (keep_func p) 0 p.funcs k.funcs)),
)

-- ---- by place

pub has_main : (p : Program) → IsChecked p → list_any is_main p.funcs ≡ true
has_main p ok = (keeps_rules p ok.accepted).main

block_rules : (p : Program) → IsChecked p → (g : ℕ) (f : Func) → slice_get p.funcs g ≡ Some f → (b : ℕ) (block : BlockIr) → slice_get f.blocks b ≡ Some block → BlockKeepsRules p f block
block_rules p ok g f is b block there =
    each_at (BlockKeepsRules p f) f.blocks b block (each_at (FuncKeepsRules p) p.funcs g f (keeps_rules p ok.accepted).funcs is).blocks there

pub instr_allowed : (p : Program) → IsChecked p → (g : ℕ) (f : Func) → slice_get p.funcs g ≡ Some f → (b : ℕ) (block : BlockIr) → slice_get f.blocks b ≡ Some block
    → (n : ℕ) (i : Instr) → slice_get block.instrs n ≡ Some i → IsAllowed p f (instruction i)
instr_allowed p ok g f is b block there n i at_ = each_at (λ i. IsAllowed p f (instruction i)) block.instrs n i (block_rules p ok g f is b block there).instrs at_

pub term_allowed : (p : Program) → IsChecked p → (g : ℕ) (f : Func) → slice_get p.funcs g ≡ Some f → (b : ℕ) (block : BlockIr) → slice_get f.blocks b ≡ Some block
    → IsAllowed p f (terminator block.term)
term_allowed p ok g f is b block there = (block_rules p ok g f is b block there).term

pub func_formed : (p : Program) → IsChecked p → (g : ℕ) (f : Func) → slice_get p.funcs g ≡ Some f → IsFunc p f
func_formed p ok g f is = each_at (IsFunc p) p.funcs g f ok.well_formed.funcs is

pub term_formed : (p : Program) → IsChecked p → (g : ℕ) (f : Func) → slice_get p.funcs g ≡ Some f → (b : ℕ) (block : BlockIr) → slice_get f.blocks b ≡ Some block → IsTerm f block.term
term_formed p ok g f is b block at = (each_at (IsBlockIr p f) f.blocks b block (func_formed p ok g f is).blocks at).1

-- ---- types

pub same_ty : (t u : Ty) → one_ty t u ≡ true → t ≡ u
same_ty I64 I64 h = refl
same_ty (Fn k) (Fn l) h = ap Fn (eqb-true k l h)
same_ty I64 (Fn l) h = absurd (cc)
same_ty (Fn k) I64 h = absurd (cc)

pub record OneTy (a b : Option Ty) : Type 0 where
  pub ty : Ty
  pub first : a ≡ Some ty
  pub second : b ≡ Some ty

pub alike : (a b : Option Ty) → are_alike a b ≡ true → OneTy a b
alike (Some t) (Some u) h = record { ty = t; first = refl; second = ap Some (sym (same_ty t u h)) }
alike None b h = absurd (cc)
alike (Some t) None h = absurd (cc)

-- the local has this type
pub has_ty : (a : Option Ty) (t : Ty) → are_alike a (Some t) ≡ true → a ≡ Some t
has_ty (Some u) t h = ap Some (same_ty u t h)
has_ty None t h = absurd (cc)

pub list_any_at : {X : Type 0} (t : X → Bool) (xs : List X) (i : ℕ) (x : X) → slice_get xs i ≡ Some x → t x ≡ true → list_any t xs ≡ true
list_any_at t [] i x is h = absurd (cc)
list_any_at {X} t (y ∷ xs) zero x is h = let e : y ≡ x = cc in subst (λ (b : Bool). (b || list_any t xs) ≡ true) (sym (ap t e ∙ h)) refl
list_any_at t (y ∷ xs) (suc i) x is h = by (t y) (list_any_at t xs i x is h) where
  by : (b : Bool) → list_any t xs ≡ true → (b || list_any t xs) ≡ true
  by true rest = refl
  by false rest = rest
