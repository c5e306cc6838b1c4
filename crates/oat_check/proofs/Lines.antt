-- One law for each line: its step from a good state leads to one, and its events keep the rules.
use Rattle.std.proofs.Common.{◌≡◌, ◌+◌, ◌-◌, ◌^◌, ◌<◌, ◌≤◌, ℕ, suc, Bool, true, false, not, cond, ◌&&◌, ◌||◌, List, [], ◌∷◌, length, inl, inr, Option, option_map, Some, None, refl, sym, ap, subst}
use Rattle.std.proofs.Common.{◌∙◌, arith, eqb, ℤ}
use Rattle.std.specs.{Prelude.slice_get, Prelude.is_some, List.list_any}
use Rattle.std.proofs.lemmas.{Bool.and_parts, Bool.or_parts, Bool.not-false, Bool.eqb-true, Bool.eqb-false, Bool.eq-eqb, Bool.cases_lt, Bool.both_ways, Option.slice_get_within}
use Rattle.oat_events.specs.{DivZero, NullCall, InputEnd, Events.Passes, Events.Stacks, Source.halted, Source.trapped}
use Rattle.oat_ir.specs.{declared.program.Program.Program, declared.program.GlobalItem.GlobalItem, declared.program.GlobalItem.TheVariants.Scalar, declared.program.GlobalItem.TheVariants.FnScalar}
use Rattle.oat_ir.specs.{declared.program.GlobalItem.TheVariants.Array, declared.program.GlobalItem.TheVariants.CriticalArray, declared.func.Func.Func, declared.func.Role.Role}
use Rattle.oat_ir.specs.{declared.func.Role.TheVariants.Plain, declared.func.Role.TheVariants.Operation, declared.func.Role.TheVariants.Main, declared.func.Ty.Ty, declared.func.Ty.TheVariants.I64}
use Rattle.oat_ir.specs.{declared.func.Ty.TheVariants.Fn, declared.instr.Instr.Instr, declared.instr.Instr.TheVariants.Const, declared.instr.Instr.TheVariants.Copy}
use Rattle.oat_ir.specs.{declared.instr.Instr.TheVariants.Binary, declared.instr.Instr.TheVariants.Load, declared.instr.Instr.TheVariants.Store, declared.instr.Instr.TheVariants.LoadX}
use Rattle.oat_ir.specs.{declared.instr.Instr.TheVariants.StoreX, declared.instr.Instr.TheVariants.RefTo, declared.instr.Instr.TheVariants.Call, declared.instr.Instr.TheVariants.ICall}
use Rattle.oat_ir.specs.{declared.instr.Instr.TheVariants.Input, declared.instr.Instr.TheVariants.Output, declared.instr.Term.Term, declared.instr.Term.TheVariants.Jump}
use Rattle.oat_ir.specs.{declared.instr.Term.TheVariants.Branch, declared.instr.Term.TheVariants.Ret, declared.instr.Term.TheVariants.Halt, Indices.IsTerm}
use Rattle.oat_check.specs.{Active.active_in, Active.cells_at, Active.line_turn, Keeping.AreCallers, Keeping.ConsistentStatesGoOn, Keeping.GoesOn, Keeping.IsCaller, Keeping.IsConsistent}
use Rattle.oat_check.specs.{Keeping.IsFrame, Keeping.IsLawful, Keeping.IsTarget, Keeping.IsValue, Keeping.MayCall, Keeping.item_ty, Keeping.refers_to, Keeping.role_at, Lines.CodeLine}
use Rattle.oat_check.specs.{Lines.instruction, Lines.is_calling, Lines.terminator, Operators.number, Operators.result_of, RuleLaws.IsAllowed, Rules.IsChecked, Rules.are_alike, Rules.are_as}
use Rattle.oat_check.specs.{Rules.hold_numbers, Rules.holds_number, Rules.is_array, Rules.is_main, Rules.is_main_role, Rules.is_operation, Rules.is_operation_role, Rules.local_ty, Rules.parameters}
use Rattle.oat_check.specs.{Rules.passes, Rules.refers_with, Rules.returns_from_main, Rules.scalar_ty, Rules.takes_numbers, Steps.Frame, Steps.SourceState, Steps.assigned, Steps.at_line}
use Rattle.oat_check.specs.{Steps.branches, Steps.calls, Steps.closes, Steps.computes, Steps.current_line, Steps.does, Steps.gives, Steps.goes_to, Steps.icalls, Steps.jumps, Steps.line_place}
use Rattle.oat_check.specs.{Steps.result_at, Steps.runs, Steps.silent, Steps.source_step, Steps.takes_in, Steps.traps_by}
use Rattle.oat_check.proofs.{Checking.instr_allowed, Checking.term_allowed, Checking.term_formed, Checking.alike, Checking.has_ty, Checking.list_any_at, Bounds.number_small, Bounds.result_small}
use Rattle.oat_check.proofs.{Locals.scalar_item, Locals.numbers_as, Locals.locals_assigned, Turning.return_turns, Turning.op_of, Frames.there, Frames.line_is, Frames.instr_is, Frames.term_is}
use Rattle.oat_check.proofs.{Frames.to_line, Frames.same_lawful, Frames.ends_lawful, Frames.onward_good, Frames.sets_lawful, Frames.reads_lawful, Frames.writes_lawful, Frames.in_array_lawful}
use Rattle.oat_check.proofs.{Frames.runs_lawful, Frames.goes_lawful}

-- ---- what is found

pub record Found {X : Type 0} (test : X → Bool) (o : Option X) : Type 0 where
  pub item : X
  pub is : o ≡ Some item
  pub passed : test item ≡ true

found : {X : Type 0} (test : X → Bool) (o : Option X) → passes test o ≡ true → Found test o
found test None h = absurd (cc)
found test (Some x) h = record { item = x; is = refl; passed = h }

-- and what fails at what is there
failed : {X : Type 0} (test : X → Bool) (o : Option X) (x : X) → o ≡ Some x → passes test o ≡ false → test x ≡ false
failed test o x is h = sym (ap (passes test) is) ∙ h

number_value : (p : Program) (f : Func) (locals : ℕ → ℕ) → ((x : ℕ) (ty : Ty) → local_ty f x ≡ Some ty → IsValue p ty (locals x)) → (x : ℕ) → holds_number f x ≡ true → locals x < 2 ^ 64
number_value p f locals held x h = held x I64 (has_ty (local_ty f x) I64 h)

-- ---- computing

computes_lawful : (p : Program) (s : SourceState) (g : IsConsistent p s) → suc s.frame.line ≤ length g.stands.block.instrs → (x : ℕ) → local_ty g.stands.func x ≡ Some I64 → (o : Option ℕ) → ((v : ℕ) → o ≡ Some v → v < 2 ^ 64)
    → IsLawful p s (computes s x o)
computes_lawful p s g low x ty None small = ends_lawful p s (trapped DivZero) g
computes_lawful p s g low x ty (Some v) small = sets_lawful p s g low x v I64 ty (small v refl)

input_lawful : (p : Program) (s : SourceState) (g : IsConsistent p s) → suc s.frame.line ≤ length g.stands.block.instrs → (x : ℕ) → local_ty g.stands.func x ≡ Some I64 → (inputs : List ℤ) → IsLawful p s (takes_in s x inputs)
input_lawful p s g low x ty [] = ends_lawful p s (trapped InputEnd) g
input_lawful p s g low x ty (value ∷ rest) = record {
  good = record {
    stands = to_line p s.frame g.stands (s.frame.line + 1) (assigned s.frame.locals x (number value)) (omega arith) (locals_assigned p g.stands.func s.frame.locals x (number value) I64 g.stands.locals ty (number_small value));
    callers = g.callers;
    few = g.few;
    globals = g.globals;
  };
  passes = (refl, refl);
  stacks = refl;
}

-- ---- globals

array_item : (item : GlobalItem) → is_array item ≡ true → item_ty item ≡ I64
array_item (Array name len) h = refl
array_item (CriticalArray name len) h = refl
array_item (Scalar name start critical) h = absurd (cc)
array_item (FnScalar name params) h = absurd (cc)

-- ---- roles

pub role_is : (p : Program) (g : ℕ) (f : Func) (role : Role) → slice_get p.funcs g ≡ Some f → f.role ≡ role → role_at p g ≡ Some role
role_is p g f role is same = ap (option_map (λ f. f.role)) is ∙ ap Some same

pub main_role : (r : Role) → is_main_role r ≡ true → r ≡ Main
main_role Main h = refl
main_role Plain h = absurd (cc)
main_role (Operation op) h = absurd (cc)

plain_role : (r : Role) → is_main_role r ≡ false → is_operation_role r ≡ false → r ≡ Plain
plain_role Plain h k = refl
plain_role Main h k = absurd (cc)
plain_role (Operation op) h k = absurd (cc)

pub record AnOperation (r : Role) : Type 0 where
  pub op : ℕ
  pub is : r ≡ Operation op

an_operation : (r : Role) → is_operation_role r ≡ true → AnOperation r
an_operation (Operation op) h = record { op = op; is = refl }
an_operation Main h = absurd (cc)
an_operation Plain h = absurd (cc)

-- who is called is plain, or an operation that main calls
may_call : (p : Program) (caller to : ℕ) (f callee : Func) → slice_get p.funcs caller ≡ Some f → slice_get p.funcs to ≡ Some callee
    → is_main_role callee.role ≡ false → (is_operation_role callee.role && not (is_main_role f.role)) ≡ false → MayCall p caller to
may_call p caller to f callee is there no_main h = by (is_operation_role callee.role) refl h where
  by : (t : Bool) → is_operation_role callee.role ≡ t → (t && not (is_main_role f.role)) ≡ false → MayCall p caller to
  by false e k = inl (role_is p to callee Plain there (plain_role callee.role no_main e))
  by true e k =
      let o = an_operation callee.role e in
      inr (role_is p caller f Main is (main_role f.role (not-false (is_main_role f.role) k)), o.op, role_is p to callee (Operation o.op) there o.is)

-- ---- instructions

-- the instruction is not the last line
low : (p : Program) (s : SourceState) (g : IsConsistent p s) (i : Instr) → slice_get g.stands.block.instrs s.frame.line ≡ Some i → suc s.frame.line ≤ length g.stands.block.instrs
low p s g i is = slice_get_within g.stands.block.instrs s.frame.line i is

value_of : (p : Program) (s : SourceState) (g : IsConsistent p s) (x : ℕ) → holds_number g.stands.func x ≡ true → s.frame.locals x < 2 ^ 64
value_of p s g x h = g.stands.locals x I64 (has_ty (local_ty g.stands.func x) I64 h)

ty_of : (f : Func) (x : ℕ) → holds_number f x ≡ true → local_ty f x ≡ Some I64
ty_of f x h = has_ty (local_ty f x) I64 h

-- ---- a reference

reference : (p : Program) (ok : IsChecked p) (s : SourceState) (g : IsConsistent p s) (x to : ℕ) → slice_get g.stands.block.instrs s.frame.line ≡ Some (RefTo x to) → IsAllowed p g.stands.func (instruction (RefTo x to))
    → IsLawful p s (does p s s.frame.locals (RefTo x to))
reference p ok s g x to is al =
    let c = found (λ callee. refers_with g.stands.func x callee.params) (slice_get p.funcs to) al.typed in
    let amiss = failed (λ callee. is_main callee || is_operation callee || not (takes_numbers (parameters callee))) (slice_get p.funcs to) c.item c.is al.refers in
    sets_lawful p s g (low p s g (RefTo x to) is) x (to + 1) (Fn c.item.params) (has_ty (local_ty g.stands.func x) (Fn c.item.params) c.passed)
    (inr (subst (IsTarget p c.item.params) (omega arith) (target c.item c.is amiss))) where
      target : (callee : Func) → slice_get p.funcs to ≡ Some callee → (is_main callee || is_operation callee || not (takes_numbers (parameters callee))) ≡ false → IsTarget p callee.params to
      target callee there amiss =
          let a = or_parts (is_main callee || is_operation callee) _ amiss in
          let b = or_parts (is_main callee) _ a.0 in
          record {
            callee = callee;
            is = there;
            plain = plain_role callee.role b.0 b.1;
            params = refl;
            numbers = not-false (takes_numbers (parameters callee)) a.1;
            referenced = list_any_at (λ f. list_any (λ b. list_any (refers_to to) b.instrs) f.blocks) p.funcs s.frame.func g.stands.func g.stands.func_is
                (list_any_at (λ b. list_any (refers_to to) b.instrs) g.stands.func.blocks s.frame.block g.stands.block g.stands.block_is
                (list_any_at (refers_to to) g.stands.block.instrs s.frame.line (RefTo x to) is (eq-eqb to to refl)));
          }

-- ---- calls

waits : (p : Program) (s : SourceState) (g : IsConsistent p s) (i : Instr) → slice_get g.stands.block.instrs s.frame.line ≡ Some i → is_calling i ≡ true → IsCaller p s.frame
waits p s g i is calling = record { stands = g.stands; instr = i; is = is; calling = calling }

call : (p : Program) (ok : IsChecked p) (s : SourceState) (g : IsConsistent p s) (x to : ℕ) (args : List ℕ) → slice_get g.stands.block.instrs s.frame.line ≡ Some (Call x to args) → IsAllowed p g.stands.func (instruction (Call x to args))
    → IsLawful p s (does p s s.frame.locals (Call x to args))
call p ok s g x to args is al =
    let typed = and_parts (holds_number g.stands.func x) _ al.typed in
    let c = found (λ callee. are_as g.stands.func args (parameters callee)) (slice_get p.funcs to) typed.1 in
    let no_main = failed is_main (slice_get p.funcs to) c.item c.is al.calls_no_main in
    let count = failed (λ callee. not (eqb (length args) callee.params)) (slice_get p.funcs to) c.item c.is al.counts in
    let operation : (is_operation_role c.item.role && not (is_main g.stands.func)) ≡ false = ap (λ (t : Bool). t && not (is_main g.stands.func)) (sym (ap (passes is_operation) c.is)) ∙ al.calls_no_operation in
    runs_lawful p ok s g (calls (line_place s.frame) to) to args c.item refl (waits p s g (Call x to args) is refl) (may_call p s.frame.func to g.stands.func c.item g.stands.func_is c.is no_main operation)
    c.is c.passed (eqb-true (length args) c.item.params (not-false _ count))

call_through : (p : Program) (ok : IsChecked p) (s : SourceState) (g : IsConsistent p s) (x y : ℕ) (args : List ℕ) → slice_get g.stands.block.instrs s.frame.line ≡ Some (ICall x y args) → IsAllowed p g.stands.func (instruction (ICall x y args))
    → IsLawful p s (does p s s.frame.locals (ICall x y args))
call_through p ok s g x y args is al =
    let typed = and_parts (holds_number g.stands.func x && refers_with g.stands.func y (length args)) _ al.typed in
    let refers = and_parts (holds_number g.stands.func x) _ typed.0 in
    by (eqb (s.frame.locals y) 0) refl (g.stands.locals y (Fn (length args)) (has_ty (local_ty g.stands.func y) (Fn (length args)) refers.1)) typed.1 where
      by : (t : Bool) → eqb (s.frame.locals y) 0 ≡ t → IsValue p (Fn (length args)) (s.frame.locals y) → hold_numbers g.stands.func args ≡ true
          → IsLawful p s (cond t (traps_by s NullCall) (runs p s (icalls (line_place s.frame) (s.frame.locals y - 1)) (s.frame.locals y - 1) args))
      by true null value numbers = ends_lawful p s (trapped NullCall) g
      by false some value numbers = elim value as (λ _. IsLawful p s (runs p s (icalls (line_place s.frame) (s.frame.locals y - 1)) (s.frame.locals y - 1) args)) [
        | inl null ↦ absurd (eqb-false (s.frame.locals y) 0 some null)
        | inr target ↦
            runs_lawful p ok s g (icalls (line_place s.frame) (s.frame.locals y - 1)) (s.frame.locals y - 1) args target.callee refl (waits p s g (ICall x y args) is refl)
            (inl (role_is p (s.frame.locals y - 1) target.callee Plain target.is target.plain)) target.is (numbers_as g.stands.func args (parameters target.callee) numbers target.numbers) (sym target.params)
      ]

-- ---- all instructions

instr_lawful : (p : Program) (ok : IsChecked p) (s : SourceState) (g : IsConsistent p s) (i : Instr) → slice_get g.stands.block.instrs s.frame.line ≡ Some i → IsAllowed p g.stands.func (instruction i) → IsLawful p s (does p s s.frame.locals i)
instr_lawful p ok s g (Const x value) is al = sets_lawful p s g (low p s g (Const x value) is) x (number value) I64 (ty_of g.stands.func x al.typed) (number_small value)
instr_lawful p ok s g (Copy x y) is al =
    let t = alike (local_ty g.stands.func x) (local_ty g.stands.func y) al.typed in
    sets_lawful p s g (low p s g (Copy x y) is) x (s.frame.locals y) t.ty t.first (g.stands.locals y t.ty t.second)
instr_lawful p ok s g (Binary op x y z) is al =
    let a = and_parts (holds_number g.stands.func x && holds_number g.stands.func y) _ al.typed in
    let b = and_parts (holds_number g.stands.func x) _ a.0 in
    computes_lawful p s g (low p s g (Binary op x y z) is) x (ty_of g.stands.func x b.0) (result_of op (s.frame.locals y) (s.frame.locals z))
    (λ v h. result_small op (s.frame.locals y) (s.frame.locals z) v (value_of p s g y b.1) (value_of p s g z a.1) h)
instr_lawful p ok s g (Load x h) is al =
    let c = found (λ item. are_alike (local_ty g.stands.func x) (scalar_ty item)) (slice_get p.globals h) al.typed in
    let t = alike (local_ty g.stands.func x) (scalar_ty c.item) c.passed in
    reads_lawful p s g (low p s g (Load x h) is) x h 0 c.item c.is (t.first ∙ ap Some (sym (scalar_item c.item t.ty t.second)))
instr_lawful p ok s g (Store h x) is al =
    let c = found (λ item. are_alike (local_ty g.stands.func x) (scalar_ty item)) (slice_get p.globals h) al.typed in
    let t = alike (local_ty g.stands.func x) (scalar_ty c.item) c.passed in
    writes_lawful p s g (low p s g (Store h x) is) h 0 (s.frame.locals x) c.item c.is (subst (λ (u : Ty). IsValue p u (s.frame.locals x)) (sym (scalar_item c.item t.ty t.second)) (g.stands.locals x t.ty t.first))
instr_lawful p ok s g (LoadX x h i) is al =
    let a = and_parts (holds_number g.stands.func x && passes is_array (slice_get p.globals h)) _ al.typed in
    let b = and_parts (holds_number g.stands.func x) _ a.0 in
    let c = found is_array (slice_get p.globals h) b.1 in
    in_array_lawful p s h (s.frame.locals i) _ g (reads_lawful p s g (low p s g (LoadX x h i) is) x h (s.frame.locals i) c.item c.is (ty_of g.stands.func x b.0 ∙ ap Some (sym (array_item c.item c.passed))))
instr_lawful p ok s g (StoreX h i x) is al =
    let a = and_parts (passes is_array (slice_get p.globals h) && holds_number g.stands.func i) _ al.typed in
    let b = and_parts (passes is_array (slice_get p.globals h)) _ a.0 in
    let c = found is_array (slice_get p.globals h) b.0 in
    in_array_lawful p s h (s.frame.locals i) _ g (writes_lawful p s g (low p s g (StoreX h i x) is) h (s.frame.locals i) (s.frame.locals x) c.item c.is
    (subst (λ (u : Ty). IsValue p u (s.frame.locals x)) (sym (array_item c.item c.passed)) (value_of p s g x a.1)))
instr_lawful p ok s g (RefTo x to) is al = reference p ok s g x to is al
instr_lawful p ok s g (Call x to args) is al = call p ok s g x to args is al
instr_lawful p ok s g (ICall x y args) is al = call_through p ok s g x y args is al
instr_lawful p ok s g (Input x) is al = input_lawful p s g (low p s g (Input x) is) x (ty_of g.stands.func x al.typed) s.inputs
instr_lawful p ok s g (Output x) is al = record { good = onward_good p s g (low p s g (Output x) is); passes = (refl, refl); stacks = refl }

-- ---- terminators

-- a call's result is a number
result_number : (p : Program) (f : Func) (i : Instr) → is_calling i ≡ true → IsAllowed p f (instruction i) → local_ty f (result_at (Some (instruction i))) ≡ Some I64
result_number p f (Call x to args) h al = ty_of f x (and_parts (holds_number f x) _ al.typed).0
result_number p f (ICall x y args) h al = ty_of f x (and_parts (holds_number f x) _ (and_parts (holds_number f x && refers_with f y (length args)) _ al.typed).0).0
result_number p f (Const x value) h al = absurd (cc)
result_number p f (Copy x y) h al = absurd (cc)
result_number p f (Binary op x y z) h al = absurd (cc)
result_number p f (Load x g) h al = absurd (cc)
result_number p f (Store g x) h al = absurd (cc)
result_number p f (LoadX x g i) h al = absurd (cc)
result_number p f (StoreX g i x) h al = absurd (cc)
result_number p f (RefTo x g) h al = absurd (cc)
result_number p f (Input x) h al = absurd (cc)
result_number p f (Output x) h al = absurd (cc)

returned : (p : Program) (ok : IsChecked p) (c : Frame) (w : IsCaller p c) (value : ℕ) → value < 2 ^ 64
    → IsFrame p (record { func = c.func; block = c.block; line = c.line + 1; locals = assigned c.locals (result_at (current_line p c)) value })
returned p ok c w value small =
    let line : current_line p c ≡ Some (instruction w.instr) = line_is p c w.stands ∙ instr_is w.stands.block c.line w.instr w.is in
    let al = instr_allowed p ok c.func w.stands.func w.stands.func_is c.block w.stands.block w.stands.block_is c.line w.instr w.is in
    let l : c.line < length w.stands.block.instrs = slice_get_within w.stands.block.instrs c.line w.instr w.is in
    to_line p c w.stands (c.line + 1) (assigned c.locals (result_at (current_line p c)) value) (omega arith)
    (locals_assigned p w.stands.func c.locals (result_at (current_line p c)) value I64 w.stands.locals (ap (λ o. local_ty w.stands.func (result_at o)) line ∙ result_number p w.stands.func w.instr w.calling al) small)

gives_lawful : (p : Program) (ok : IsChecked p) (s : SourceState) (g : IsConsistent p s) (value : ℕ) → value < 2 ^ 64 → (callers : List Frame) → callers ≡ s.callers → IsLawful p s (gives p s value callers)
gives_lawful p ok s g value small [] is = same_lawful p s g
gives_lawful p ok s g value small (c ∷ cs) is =
    let h : AreCallers p s.frame.func (c ∷ cs) = subst (AreCallers p s.frame.func) (sym is) g.callers in
    let few : length (c ∷ cs) ≤ 256 = subst (λ (x : List Frame). length x ≤ 256) (sym is) g.few in
    let t = return_turns p s.frame c cs (cells_at p s) h in
    record {
      good = record { stands = returned p ok c h.1 value small; callers = h.2; few = omega arith; globals = g.globals };
      passes = subst (λ (x : List Frame). Passes (op_of (active_in p s.frame.func x)) (cells_at p s) (gives p s value (c ∷ cs)).shown (op_of (active_in p c.func cs)) (cells_at p s)) is t.passes;
      stacks = subst (λ (x : List Frame). Stacks line_turn (active_in p s.frame.func x) (gives p s value (c ∷ cs)).shown (active_in p c.func cs)) is t.stacks;
    }

term_lawful : (p : Program) (ok : IsChecked p) (s : SourceState) (g : IsConsistent p s) (t : Term) → IsTerm g.stands.func t → IsAllowed p g.stands.func (terminator t) → IsLawful p s (closes p s s.frame.locals t)
term_lawful p ok s g (Jump to) formed al = goes_lawful p s g (jumps (line_place s.frame) to) to refl formed
term_lawful p ok s g (Branch x first second) formed al = by (eqb (s.frame.locals x) 0) where
  by : (t : Bool) → IsLawful p s (cond t (goes_to s (branches (line_place s.frame) false second) second) (goes_to s (branches (line_place s.frame) true first) first))
  by true = goes_lawful p s g (branches (line_place s.frame) false second) second refl formed.2
  by false = goes_lawful p s g (branches (line_place s.frame) true first) first refl formed.1
term_lawful p ok s g (Ret x) formed al = gives_lawful p ok s g (s.frame.locals x) (value_of p s g x al.typed) s.callers refl
term_lawful p ok s g Halt formed al = ends_lawful p s halted g

-- ---- a step

pub step_lawful : (p : Program) (ok : IsChecked p) (s : SourceState) (g : IsConsistent p s) → IsLawful p s (source_step p s)
step_lawful p ok s g = by (is_some s.end) where
  at_instr : (i : Instr) → slice_get g.stands.block.instrs s.frame.line ≡ Some i → IsLawful p s (at_line p s (current_line p s.frame))
  at_instr i is =
      subst (λ (o : Option CodeLine). IsLawful p s (at_line p s o)) (sym (line_is p s.frame g.stands ∙ instr_is g.stands.block s.frame.line i is))
      (instr_lawful p ok s g i is (instr_allowed p ok s.frame.func g.stands.func g.stands.func_is s.frame.block g.stands.block g.stands.block_is s.frame.line i is))

  at_term : s.frame.line ≡ length g.stands.block.instrs → IsLawful p s (at_line p s (current_line p s.frame))
  at_term is =
      subst (λ (o : Option CodeLine). IsLawful p s (at_line p s o)) (sym (line_is p s.frame g.stands ∙ term_is g.stands.block s.frame.line is))
      (term_lawful p ok s g g.stands.block.term (term_formed p ok s.frame.func g.stands.func g.stands.func_is s.frame.block g.stands.block g.stands.block_is)
      (term_allowed p ok s.frame.func g.stands.func g.stands.func_is s.frame.block g.stands.block g.stands.block_is))

  by : (t : Bool) → IsLawful p s (cond t (silent s) (at_line p s (current_line p s.frame)))
  by true = same_lawful p s g
  by false = elim (cases_lt s.frame.line (length g.stands.block.instrs)) as (λ _. IsLawful p s (at_line p s (current_line p s.frame))) [
    | inl less ↦ let t = there g.stands.block.instrs s.frame.line less in at_instr t.item t.is
    | inr more ↦ let l : s.frame.line ≤ length g.stands.block.instrs = g.stands.inside in at_term (omega arith)
  ]

-- ---- where a good state stands

same_Line : {X : Type 0} (a b : X) → Some a ≡ Some b → a ≡ b
same_Line a b h = cc

is_ret : (t : Term) (x : ℕ) → terminator t ≡ terminator (Ret x) → t ≡ Ret x
is_ret t x h = cc

pub consistent_states_go_on : ConsistentStatesGoOn
consistent_states_go_on p ok s g = elim (cases_lt s.frame.line (length g.stands.block.instrs)) as (λ _. GoesOn p s) [
  | inl less ↦
      let t = there g.stands.block.instrs s.frame.line less in
      record {
        line = instruction t.item;
        is = line_is p s.frame g.stands ∙ instr_is g.stands.block s.frame.line t.item t.is;
        back = λ x h. absurd (cc);
      }
  | inr more ↦
      let l : s.frame.line ≤ length g.stands.block.instrs = g.stands.inside in
      record {
        line = terminator g.stands.block.term;
        is = line_is p s.frame g.stands ∙ term_is g.stands.block s.frame.line (omega arith);
        back = λ x h. called s.callers g.callers x (is_ret g.stands.block.term x h);
      }
] where
  al : IsAllowed p g.stands.func (terminator g.stands.block.term)
  al = term_allowed p ok s.frame.func g.stands.func g.stands.func_is s.frame.block g.stands.block g.stands.block_is

  called : (callers : List Frame) → AreCallers p s.frame.func callers → (x : ℕ) → g.stands.block.term ≡ Ret x → 1 ≤ length callers
  called (c ∷ cs) h x is = omega arith
  called [] main x is =
      let role : Some g.stands.func.role ≡ Some Main = sym (ap (option_map (λ f. f.role)) g.stands.func_is) ∙ main in
      let no : returns_from_main g.stands.func (terminator (Ret x)) ≡ false = ap (λ t. returns_from_main g.stands.func (terminator t)) (sym is) ∙ al.stays in
      absurd (both_ways _ no (ap is_main_role (same_Line _ _ role)))
