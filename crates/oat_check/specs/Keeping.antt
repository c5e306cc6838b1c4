-- What the runs of a checked program keep from step to step: places, types, frames, and the two rules of events.
use Rattle.std.specs.{Prelude.◌≡◌, Prelude.ℕ, Prelude.◌-◌, Prelude.◌^◌, Prelude.◌<◌, Prelude.◌≤◌, Prelude.◌⊎◌, Prelude.Bool, Prelude.true, Prelude.false, Prelude.nat_eq, Prelude.nat_lt, Prelude.◌&&◌}
use Rattle.std.specs.{Prelude.if◌then◌else◌, Prelude.List, Prelude.[], Prelude.◌∷◌, Prelude.length, Prelude.slice_get, Prelude.Option, Prelude.Some, Prelude.None, Prelude.ℤ, Option.option_map}
use Rattle.std.specs.{List.list_any}
use Rattle.oat_events.specs.Events.{Passes, Stacks}
use Rattle.oat_ir.specs.{declared.program.Program.Program, declared.program.GlobalItem.GlobalItem, declared.program.GlobalItem.TheVariants.FnScalar, declared.func.Func.Func, declared.func.Role.Role}
use Rattle.oat_ir.specs.{declared.func.Role.TheVariants.Plain, declared.func.Role.TheVariants.Operation, declared.func.Role.TheVariants.Main, declared.func.Ty.Ty, declared.func.Ty.TheVariants.I64}
use Rattle.oat_ir.specs.{declared.func.Ty.TheVariants.Fn, declared.func.BlockIr.BlockIr, declared.instr.Instr.Instr, declared.instr.Instr.TheVariants.RefTo, declared.instr.Term.TheVariants.Ret}
use Rattle.oat_check.specs.{Active.line_turn, Active.active_of, Active.operation_active, Active.cells_at, Globals.Values, Globals.size_in_words, Globals.word_values, Lines.CodeLine, Lines.terminator}
use Rattle.oat_check.specs.{Lines.is_calling, Rules.IsChecked, Rules.is_func, Rules.local_ty, Rules.parameters, Rules.takes_numbers, Runs.source_start, Steps.Frame, Steps.SourceState, Steps.Next}
use Rattle.oat_check.specs.{Steps.current_line, Steps.source_step}

-- ---- values

abbrev pub refers_to : ℕ → Instr → Bool
refers_to g (RefTo x f) = nat_eq f g
refers_to g _ = false

-- a `ref` of the program names function g
abbrev pub is_referenced : Program → ℕ → Bool
is_referenced p g = list_any (λ f. list_any (λ b. list_any (refers_to g) b.instrs) f.blocks) p.funcs

-- function g may be called through a reference with k numbers
pub record IsTarget (p : Program) (k g : ℕ) : Type 0 where
  pub callee : Func
  pub is : slice_get p.funcs g ≡ Some callee
  pub plain : callee.role ≡ Plain
  pub params : callee.params ≡ k
  pub numbers : takes_numbers (parameters callee) ≡ true
  pub referenced : is_referenced p g ≡ true

abbrev pub IsValue : Program → Ty → ℕ → Type 0
IsValue p I64 value = value < 2 ^ 64
IsValue p (Fn k) value = (value ≡ 0) ⊎ IsTarget p k (value - 1)

abbrev pub AreLocals : Program → Func → (ℕ → ℕ) → Type 0
AreLocals p f locals = (x : ℕ) (ty : Ty) → local_ty f x ≡ Some ty → IsValue p ty (locals x)

abbrev pub item_ty : GlobalItem → Ty
item_ty (FnScalar name params) = Fn params
item_ty _ = I64

abbrev pub AreGlobals : Program → Values → Type 0
AreGlobals p values = (g : ℕ) (item : GlobalItem) → slice_get p.globals g ≡ Some item → (i : ℕ) → IsValue p (item_ty item) (values g i)

-- the type of a word of global data
abbrev pub word_ty : List GlobalItem → ℕ → Option Ty
word_ty [] n = None
word_ty (item ∷ items) n = if nat_lt n (size_in_words item) then Some (item_ty item) else word_ty items (n - size_in_words item)

-- function g may stand behind a reference with k numbers, as far as an image says it
abbrev pub may_name : Program → ℕ → ℕ → Bool
may_name p g k = is_func p (λ f. nat_eq f.params k) g && is_referenced p g

-- ---- frames

-- a frame stands at a line, and its locals have their types
pub record IsFrame (p : Program) (f : Frame) : Type 0 where
  pub func : Func
  pub block : BlockIr
  pub func_is : slice_get p.funcs f.func ≡ Some func
  pub block_is : slice_get func.blocks f.block ≡ Some block
  pub inside : f.line ≤ length block.instrs
  pub locals : AreLocals p func f.locals

-- a caller stands at its call
pub record IsCaller (p : Program) (f : Frame) : Type 0 where
  pub stands : IsFrame p f
  pub instr : Instr
  pub is : slice_get stands.block.instrs f.line ≡ Some instr
  pub calling : is_calling instr ≡ true

abbrev pub role_at : Program → ℕ → Option Role
role_at p g = option_map (λ f. f.role) (slice_get p.funcs g)

-- a plain function, or an operation that main calls
abbrev pub MayCall : Program → ℕ → ℕ → Type 0
MayCall p caller g = (role_at p g ≡ Some Plain) ⊎ ((role_at p caller ≡ Some Main) × (op : ℕ) × (role_at p g ≡ Some (Operation op)))

-- The lowest frame is main's; each other one runs what the frame below it may call, and that one waits.
abbrev pub AreCallers : Program → ℕ → List Frame → Type 0
AreCallers p func [] = role_at p func ≡ Some Main
AreCallers p func (g ∷ gs) = MayCall p g.func func × IsCaller p g × AreCallers p g.func gs

-- a state in which each frame stands at its place, each value has its type, and at most 256 calls are active
pub record IsConsistent (p : Program) (s : SourceState) : Type 0 where
  pub stands : IsFrame p s.frame
  pub callers : AreCallers p s.frame.func s.callers
  pub few : length s.callers ≤ 256
  pub globals : AreGlobals p s.globals

-- ---- steps

-- a step leads to a consistent state, and its events keep the two rules
pub record IsLawful (p : Program) (s : SourceState) (next : Next) : Type 0 where
  pub good : IsConsistent p next.state
  pub passes : Passes (operation_active p s) (cells_at p s) next.shown (operation_active p next.state) (cells_at p next.state)
  pub stacks : Stacks line_turn (active_of p s) next.shown (active_of p next.state)

abbrev pub RunsStartConsistent : Type 0
RunsStartConsistent = (p : Program) → IsChecked p → (inputs : List ℤ) → IsConsistent p (source_start p inputs)

abbrev pub StepsAreLawful : Type 0
StepsAreLawful = (p : Program) → IsChecked p → (s : SourceState) → IsConsistent p s → IsLawful p s (source_step p s)

-- a consistent state stands at a line, and a return there has a caller
pub record GoesOn (p : Program) (s : SourceState) : Type 0 where
  pub line : CodeLine
  pub is : current_line p s.frame ≡ Some line
  pub back : (x : ℕ) → line ≡ terminator (Ret x) → 1 ≤ length s.callers

abbrev pub ConsistentStatesGoOn : Type 0
ConsistentStatesGoOn = (p : Program) → IsChecked p → (s : SourceState) → IsConsistent p s → GoesOn p s

-- an operation's frame lies directly above main's, and no frame above it is main's
abbrev pub OperationsAreLow : Type 0
OperationsAreLow =
    (p : Program) (func : ℕ) (callers : List Frame) → AreCallers p func callers
    → ((op : ℕ) → role_at p func ≡ Some (Operation op) → length callers ≡ 1) × (role_at p func ≡ Some Main → length callers ≡ 0)

-- ---- values of a consistent state

-- a reference is null, or of a function that a `ref` names
abbrev pub ReferencesAreKnown : Type 0
ReferencesAreKnown = (p : Program) (k value : ℕ) → IsValue p (Fn k) value → (value ≡ 0) ⊎ (may_name p (value - 1) k ≡ true)

-- a word of global data has a value of its type
abbrev pub WordsAreTyped : Type 0
WordsAreTyped =
    (p : Program) (values : Values) → AreGlobals p values → (n value : ℕ) → word_values p.globals values n ≡ Some value
    → (ty : Ty) × (word_ty p.globals n ≡ Some ty) × IsValue p ty value
