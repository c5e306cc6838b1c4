-- What is known of a function that a reference names, and of the parameters and arguments of a call.
use Rattle.std.proofs.Common.{◌≡◌, ◌<◌, ◌||◌, ℕ, zero, suc, Bool, true, false, not, List, [], ◌∷◌, length, take, get_or, Some, None, refl, subst, ◌∙◌, arith, eqb-true, eq-eqb}
use Rattle.std.specs.{Prelude.slice_get, List.list_any}
use Rattle.std.proofs.lemmas.Bool.{and_parts, not-false, or_parts}
use Rattle.oat_check.proofs.Checking.{has_ty, instr_allowed, list_any_at, same_ty}
use Rattle.oat_globals.specs.{Program, Func, Local, Role, Main, Operation, Plain, I64, BlockIr, Instr, Binary, Call, Const, Copy, ICall, Input, Load, LoadX, Output, RefTo, Store, StoreX}
use Rattle.oat_globals.specs.{is_referenced, refers_to, instruction, IsAllowed, IsChecked, are_as, hold_numbers, holds_number, is_func, is_main, is_no_target, is_operation, is_operation_role}
use Rattle.oat_globals.specs.{local_ty, parameters, refers_amiss, takes_numbers, operation_number}
use Rattle.oat_match.proofs.Finding.{failed}

-- ---- one that passes

pub record PassesAt {X : Type 0} (test : X → Bool) (xs : List X) : Type 0 where
  pub at : ℕ
  pub item : X
  pub is : slice_get xs at ≡ Some item
  pub passed : test item ≡ true

passes_at : {X : Type 0} (test : X → Bool) (xs : List X) → list_any test xs ≡ true → PassesAt test xs
passes_at test [] h = absurd (cc)
passes_at test (x ∷ xs) h = by (test x) refl h (passes_at test xs) where
  by : (t : Bool) → test x ≡ t → (t || list_any test xs) ≡ true → (list_any test xs ≡ true → PassesAt test xs) → PassesAt test (x ∷ xs)
  by true e k rest = record { at = 0; item = x; is = refl; passed = e }
  by false e k rest = let a = rest k in record { at = suc a.at; item = a.item; is = a.is; passed = a.passed }

-- ---- references

-- a `ref` of the program's names its function
pub referenced_here : (p : Program) (f : ℕ) (func : Func) → slice_get p.funcs f ≡ Some func → (b : ℕ) (block : BlockIr) → slice_get func.blocks b ≡ Some block
    → (n x g : ℕ) → slice_get block.instrs n ≡ Some (RefTo x g) → is_referenced p g ≡ true
referenced_here p f func is b block there n x g at =
    list_any_at (λ f. list_any (λ b. list_any (refers_to g) b.instrs) f.blocks) p.funcs f func is
    (list_any_at (λ b. list_any (refers_to g) b.instrs) func.blocks b block there (list_any_at (refers_to g) block.instrs n (RefTo x g) at (eq-eqb g g refl)))

refers_well : (p : Program) (g : ℕ) (i : Instr) → refers_amiss p (instruction i) ≡ false → refers_to g i ≡ true → is_func p is_no_target g ≡ false
refers_well p g (RefTo x f) h k = subst (λ (n : ℕ). is_func p is_no_target n ≡ false) (eqb-true f g k) h
refers_well p g (Const x v) h k = absurd (cc)
refers_well p g (Copy x y) h k = absurd (cc)
refers_well p g (Binary op x y z) h k = absurd (cc)
refers_well p g (Load x a) h k = absurd (cc)
refers_well p g (Store a x) h k = absurd (cc)
refers_well p g (LoadX x a i) h k = absurd (cc)
refers_well p g (StoreX a i x) h k = absurd (cc)
refers_well p g (Call x f args) h k = absurd (cc)
refers_well p g (ICall x y args) h k = absurd (cc)
refers_well p g (Input x) h k = absurd (cc)
refers_well p g (Output x) h k = absurd (cc)

no_operation : (r : Role) → is_operation_role r ≡ false → operation_number r ≡ None
no_operation Plain h = refl
no_operation Main h = refl
no_operation (Operation op) h = absurd (cc)

-- a function that a reference names is no operation, and takes numbers
pub record IsNamed (callee : Func) : Type 0 where
  pub plain : operation_number callee.role ≡ None
  pub numbers : takes_numbers (parameters callee) ≡ true

pub named_function : (p : Program) → IsChecked p → (g : ℕ) (callee : Func) → slice_get p.funcs g ≡ Some callee → is_referenced p g ≡ true → IsNamed callee
named_function p ok g callee is named =
    let a = passes_at (λ f. list_any (λ b. list_any (refers_to g) b.instrs) f.blocks) p.funcs named in
    let b = passes_at (λ b. list_any (refers_to g) b.instrs) a.item.blocks a.passed in
    let i = passes_at (refers_to g) b.item.instrs b.passed in
    let al : IsAllowed p a.item (instruction i.item) = instr_allowed p ok a.at a.item a.is b.at b.item b.is i.at i.item i.is in
    let no : is_no_target callee ≡ false = failed is_no_target (slice_get p.funcs g) callee is (refers_well p g i.item al.refers i.passed) in
    let both = or_parts (is_main callee || is_operation callee) (not (takes_numbers (parameters callee))) no in
    record { plain = no_operation callee.role (or_parts (is_main callee) (is_operation callee) both.0).1; numbers = not-false _ both.1 }

-- ---- parameters and arguments

parameter_at : (n : ℕ) (locals : List Local) (i : ℕ) → i < n → slice_get (take n locals) i ≡ slice_get locals i
parameter_at zero locals i l = absurd (omega arith)
parameter_at (suc n) [] i l = refl
parameter_at (suc n) (x ∷ xs) zero l = refl
parameter_at (suc n) (x ∷ xs) (suc i) l = parameter_at n xs i (omega arith)

pub parameter_is : (callee : Func) (i : ℕ) (local : Local) → i < callee.params → slice_get callee.locals i ≡ Some local → slice_get (parameters callee) i ≡ Some local
parameter_is callee i local l is = parameter_at callee.params callee.locals i l ∙ is

-- an argument has the type of its parameter
pub argument_typed : (f : Func) (args : List ℕ) (params : List Local) → are_as f args params ≡ true → (i : ℕ) (param : Local) → i < length args → slice_get params i ≡ Some param
    → local_ty f (get_or args i 0) ≡ Some param.ty
argument_typed f [] params h i param l is = absurd (omega arith)
argument_typed f (x ∷ args) [] h i param l is = absurd (cc)
argument_typed f (x ∷ args) (q ∷ params) h zero param l is =
    let e : q ≡ param = cc in
    subst (λ (local : Local). local_ty f x ≡ Some local.ty) e (has_ty (local_ty f x) q.ty (and_parts _ _ h).0)
argument_typed f (x ∷ args) (q ∷ params) h (suc i) param l is = argument_typed f args params (and_parts _ _ h).1 i param (omega arith) is

pub number_at : (f : Func) (args : List ℕ) → hold_numbers f args ≡ true → (i : ℕ) → i < length args → holds_number f (get_or args i 0) ≡ true
number_at f [] h i l = absurd (omega arith)
number_at f (x ∷ args) h zero l = (and_parts _ _ h).0
number_at f (x ∷ args) h (suc i) l = number_at f args (and_parts _ _ h).1 i (omega arith)

pub number_taken : (params : List Local) → takes_numbers params ≡ true → (i : ℕ) (param : Local) → slice_get params i ≡ Some param → param.ty ≡ I64
number_taken [] h i param is = absurd (cc)
number_taken (q ∷ params) h zero param is = let e : q ≡ param = cc in subst (λ (local : Local). local.ty ≡ I64) e (same_ty q.ty I64 (and_parts _ _ h).0)
number_taken (q ∷ params) h (suc i) param is = number_taken params (and_parts _ _ h).1 i param is
