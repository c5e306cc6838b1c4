-- The checking rules, and the first that a program breaks, with its place (docs/FORMATS.md, "Checking").
use Rattle.std.specs.{Prelude.◌≡◌, Prelude.ℕ, Prelude.suc, Prelude.Bool, Prelude.true, Prelude.false, Prelude.not, Prelude.◌&&◌, Prelude.◌||◌, Prelude.nat_eq, Prelude.nat_lt, Prelude.if◌then◌else◌}
use Rattle.std.specs.{Prelude.List, Prelude.[], Prelude.◌∷◌, Prelude.length, Prelude.take, Prelude.slice_get, Prelude.Option, Prelude.Some, Prelude.None, Option.option_map, Option.option_or}
use Rattle.std.specs.{List.sum_by, List.list_any, List.list_all, List.zip}
use Rattle.oat_ir.specs.{declared.program.Program.Program, declared.program.GlobalItem.GlobalItem, declared.program.GlobalItem.TheVariants.Scalar, declared.program.GlobalItem.TheVariants.FnScalar}
use Rattle.oat_ir.specs.{declared.program.GlobalItem.TheVariants.Array, declared.program.GlobalItem.TheVariants.CriticalArray, declared.func.Func.Func, declared.func.Role.Role}
use Rattle.oat_ir.specs.{declared.func.Role.TheVariants.Operation, declared.func.Role.TheVariants.Main, declared.func.Ty.Ty, declared.func.Ty.TheVariants.I64, declared.func.Ty.TheVariants.Fn}
use Rattle.oat_ir.specs.{declared.func.Local.Local, declared.func.BlockIr.BlockIr, declared.instr.Instr.TheVariants.Const, declared.instr.Instr.TheVariants.Copy}
use Rattle.oat_ir.specs.{declared.instr.Instr.TheVariants.Binary, declared.instr.Instr.TheVariants.Load, declared.instr.Instr.TheVariants.Store, declared.instr.Instr.TheVariants.LoadX}
use Rattle.oat_ir.specs.{declared.instr.Instr.TheVariants.StoreX, declared.instr.Instr.TheVariants.RefTo, declared.instr.Instr.TheVariants.Call, declared.instr.Instr.TheVariants.ICall}
use Rattle.oat_ir.specs.{declared.instr.Instr.TheVariants.Input, declared.instr.Instr.TheVariants.Output, declared.instr.Term.Term, declared.instr.Term.TheVariants.Branch}
use Rattle.oat_ir.specs.{declared.instr.Term.TheVariants.Ret, WellFormed.IsProgram}
use Rattle.oat_check.specs.{declared.fault.CheckKind.CheckKind, declared.fault.CheckKind.TheVariants.NoMain, declared.fault.CheckKind.TheVariants.GlobalWords}
use Rattle.oat_check.specs.{declared.fault.CheckKind.TheVariants.Locals, declared.fault.CheckKind.TheVariants.NoEnd, declared.fault.CheckKind.TheVariants.CallsMain}
use Rattle.oat_check.specs.{declared.fault.CheckKind.TheVariants.OperationCall, declared.fault.CheckKind.TheVariants.RefKind, declared.fault.CheckKind.TheVariants.Arity}
use Rattle.oat_check.specs.{declared.fault.CheckKind.TheVariants.Kind, declared.fault.CheckKind.TheVariants.MainRet, declared.fault.CheckFault.CheckFault, Lines.CodeLine, Lines.instruction}
use Rattle.oat_check.specs.{Lines.terminator, Globals.size_in_words}
use Rattle.oat_check.specs.declared.fault.CheckFault.TheVariants as fault

-- ---- what is asked of functions, locals and globals

abbrev pub is_main_role : Role → Bool
is_main_role Main = true
is_main_role _ = false

abbrev pub is_main : Func → Bool
is_main f = is_main_role f.role

abbrev pub is_operation_role : Role → Bool
is_operation_role (Operation id) = true
is_operation_role _ = false

abbrev pub is_operation : Func → Bool
is_operation f = is_operation_role f.role

-- there is one, and it passes
abbrev pub passes : {X : Type 0} → (X → Bool) → Option X → Bool
passes test (Some x) = test x
passes test None = false

-- function g passes
abbrev pub is_func : Program → (Func → Bool) → ℕ → Bool
is_func p test g = passes test (slice_get p.funcs g)

abbrev pub one_ty : Ty → Ty → Bool
one_ty I64 I64 = true
one_ty (Fn k) (Fn l) = nat_eq k l
one_ty _ _ = false

-- both have a type, and it is one
abbrev pub are_alike : Option Ty → Option Ty → Bool
are_alike (Some t) (Some u) = one_ty t u
are_alike _ _ = false

abbrev pub local_ty : Func → ℕ → Option Ty
local_ty f x = option_map (λ local. local.ty) (slice_get f.locals x)

abbrev pub holds_number : Func → ℕ → Bool
holds_number f x = are_alike (local_ty f x) (Some I64)

abbrev pub hold_numbers : Func → List ℕ → Bool
hold_numbers f xs = list_all (holds_number f) xs

-- x has a type fn/K, and K is this number
abbrev pub refers_with : Func → ℕ → ℕ → Bool
refers_with f x k = are_alike (local_ty f x) (Some (Fn k))

abbrev pub scalar_ty : GlobalItem → Option Ty
scalar_ty (Scalar name start critical) = Some I64
scalar_ty (FnScalar name params) = Some (Fn params)
scalar_ty (Array name len) = None
scalar_ty (CriticalArray name len) = None

abbrev pub is_array : GlobalItem → Bool
is_array (Array name len) = true
is_array (CriticalArray name len) = true
is_array _ = false

-- the local has the type of the scalar
abbrev pub is_as_scalar : Program → Func → ℕ → ℕ → Bool
is_as_scalar p f x g = passes (λ item. are_alike (local_ty f x) (scalar_ty item)) (slice_get p.globals g)

abbrev pub names_array : Program → ℕ → Bool
names_array p g = passes is_array (slice_get p.globals g)

abbrev pub parameters : Func → List Local
parameters f = take f.params f.locals

abbrev pub takes_numbers : List Local → Bool
takes_numbers params = list_all (λ param. one_ty param.ty I64) params

-- these locals have the types of the parameters, one by one
abbrev pub are_as : Func → List ℕ → List Local → Bool
are_as f xs params = list_all (λ pair. are_alike (local_ty f pair.0) (Some pair.1.ty)) (zip xs params)

-- ---- the rules on one line of function f

-- a call of main
abbrev pub calls_main : Program → CodeLine → Bool
calls_main p (instruction (Call x g args)) = is_func p is_main g
calls_main p _ = false

-- a call of an operation outside main
abbrev pub calls_operation : Program → Func → CodeLine → Bool
calls_operation p f (instruction (Call x g args)) = is_func p is_operation g && not (is_main f)
calls_operation p f _ = false

-- main, an operation, or a function with a parameter that isn't a number
abbrev pub is_no_target : Func → Bool
is_no_target callee = is_main callee || is_operation callee || not (takes_numbers (parameters callee))

-- a reference of a function that may have none
abbrev pub refers_amiss : Program → CodeLine → Bool
refers_amiss p (instruction (RefTo x g)) = is_func p is_no_target g
refers_amiss p _ = false

-- a type fn/K, where K is another number
abbrev pub refers_without : Option Ty → ℕ → Bool
refers_without (Some (Fn k)) n = not (nat_eq k n)
refers_without _ n = false

-- a call with another number of arguments than the function has parameters, or than the K of Y
abbrev pub counts_amiss : Program → Func → CodeLine → Bool
counts_amiss p f (instruction (Call x g args)) = is_func p (λ callee. not (nat_eq (length args) callee.params)) g
counts_amiss p f (instruction (ICall x y args)) = refers_without (local_ty f y) (length args)
counts_amiss p f _ = false

-- each operand has the type that the line asks for, and a scalar or an array stands where one is wanted
abbrev pub has_types : Program → Func → CodeLine → Bool
has_types p f (instruction (Const x value)) = holds_number f x
has_types p f (instruction (Copy x y)) = are_alike (local_ty f x) (local_ty f y)
has_types p f (instruction (Binary op x y z)) = holds_number f x && holds_number f y && holds_number f z
has_types p f (instruction (Load x g)) = is_as_scalar p f x g
has_types p f (instruction (Store g x)) = is_as_scalar p f x g
has_types p f (instruction (LoadX x g i)) = holds_number f x && names_array p g && holds_number f i
has_types p f (instruction (StoreX g i x)) = names_array p g && holds_number f i && holds_number f x
has_types p f (instruction (RefTo x g)) = is_func p (λ callee. refers_with f x callee.params) g
has_types p f (instruction (Call x g args)) = holds_number f x && is_func p (λ callee. are_as f args (parameters callee)) g
has_types p f (instruction (ICall x y args)) = holds_number f x && refers_with f y (length args) && hold_numbers f args
has_types p f (instruction (Input x)) = holds_number f x
has_types p f (instruction (Output x)) = holds_number f x
has_types p f (terminator (Branch x first second)) = holds_number f x
has_types p f (terminator (Ret x)) = holds_number f x
has_types p f (terminator _) = true

-- a return in main
abbrev pub returns_from_main : Func → CodeLine → Bool
returns_from_main f (terminator (Ret x)) = is_main f
returns_from_main f _ = false

-- the first rule of this order that the line breaks
abbrev pub broken_by : Program → Func → CodeLine → Option CheckKind
broken_by p f line =
    if calls_main p line then Some CallsMain
    else (if calls_operation p f line then Some OperationCall
    else (if refers_amiss p line then Some RefKind
    else (if counts_amiss p f line then Some Arity
    else (if not (has_types p f line) then Some Kind
    else (if returns_from_main f line then Some MainRet
    else None)))))

-- ---- the rules on a program, in order: functions, blocks and places count from 0

-- the first that is found in a list, whose items are numbered from n on
abbrev pub first_in : {X A : Type 0} → (ℕ → X → Option A) → ℕ → List X → Option A
first_in find n [] = None
first_in find n (x ∷ xs) = option_or (find n x) (first_in find (suc n) xs)

abbrev pub fault_at : ℕ → ℕ → ℕ → CheckKind → CheckFault
fault_at func block place kind = fault.At kind func block place

abbrev pub fault_in_line : Program → Func → ℕ → ℕ → ℕ → CodeLine → Option CheckFault
fault_in_line p f func block place line = option_map (fault_at func block place) (broken_by p f line)

-- the instructions in order, then the terminator
abbrev pub fault_in_block : Program → Func → ℕ → ℕ → BlockIr → Option CheckFault
fault_in_block p f func block b =
    option_or (first_in (λ place i. fault_in_line p f func block place (instruction i)) 0 b.instrs)
    (fault_in_line p f func block (length b.instrs) (terminator b.term))

abbrev pub is_ret : Term → Bool
is_ret (Ret x) = true
is_ret _ = false

-- an operation without a return
abbrev pub never_ends : Func → Bool
never_ends f = is_operation f && not (list_any (λ b. is_ret b.term) f.blocks)

abbrev pub fault_in_func : Program → ℕ → Func → Option CheckFault
fault_in_func p func f =
    if nat_lt 255 (length f.locals) then Some (fault_at func 0 0 Locals)
    else option_or (first_in (fault_in_block p f func) 0 f.blocks) (if never_ends f then Some (fault_at func 0 0 NoEnd) else None)

-- the first rule that the program breaks
abbrev pub first_fault : Program → Option CheckFault
first_fault p =
    if not (list_any is_main p.funcs) then Some (fault_at 0 0 0 NoMain)
    else (if nat_lt 65536 (sum_by size_in_words p.globals) then Some (fault_at 0 0 0 GlobalWords)
    else first_in (fault_in_func p) 0 p.funcs)

-- a program that keeps all rules
pub record IsChecked (p : Program) : Type 0 where
  pub well_formed : IsProgram p
  pub accepted : first_fault p ≡ None

-- ---- operations

abbrev pub is_operation_of : ℕ → Role → Bool
is_operation_of op (Operation id) = nat_eq id op
is_operation_of op _ = false

abbrev pub has_operation : Program → ℕ → Bool
has_operation p op = list_any (λ f. is_operation_of op f.role) p.funcs
