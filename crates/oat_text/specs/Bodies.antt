-- The program that a text stands for, from what its lines declare, or else the first line that names something that isn't
-- declared: the second pass (docs/FORMATS.md, "Program text").
use Rattle.std.specs.{Prelude.ℕ, Prelude.zero, Prelude.suc, Prelude.List, Prelude.[], Prelude.◌∷◌, Prelude.◌++◌, Prelude.length, Prelude.position, Prelude.drop, Prelude.zip, Prelude.map}
use Rattle.std.specs.{Prelude.Option, Prelude.None, Prelude.slice_get, Prelude.option_map, Prelude.option_and_then, Prelude.Result, Prelude.Ok, Prelude.Err, Option.ok_or, Str.bytes_eq}
use Rattle.oat_lines.specs.{declared.fault.Fault.TheVariants.At, Faults.at, Lines.TextWord, Lines.lines_of, Reading.◌>>=◌}
use Rattle.oat_ir.specs.{declared.program.Program.Program, declared.program.GlobalItem.GlobalItem, declared.func.Func.Func, declared.func.Local.Local, declared.func.BlockIr.BlockIr}
use Rattle.oat_ir.specs.{declared.instr.BinOp.BinOp, declared.instr.Instr.Instr, declared.instr.Instr.TheVariants.Const, declared.instr.Instr.TheVariants.Copy, declared.instr.Instr.TheVariants.Binary}
use Rattle.oat_ir.specs.{declared.instr.Instr.TheVariants.Load, declared.instr.Instr.TheVariants.Store, declared.instr.Instr.TheVariants.LoadX, declared.instr.Instr.TheVariants.StoreX}
use Rattle.oat_ir.specs.{declared.instr.Instr.TheVariants.RefTo, declared.instr.Instr.TheVariants.Call, declared.instr.Instr.TheVariants.ICall, declared.instr.Instr.TheVariants.Input}
use Rattle.oat_ir.specs.{declared.instr.Instr.TheVariants.Output, declared.instr.Term.Term, declared.instr.Term.TheVariants.Jump, declared.instr.Term.TheVariants.Branch}
use Rattle.oat_ir.specs.{declared.instr.Term.TheVariants.Ret, declared.instr.Term.TheVariants.Halt, Distinct.global_name}
use Rattle.oat_text.specs.{declared.form.LineForm.LineForm, declared.form.InstrForm.InstrForm, declared.form.TermForm.TermForm, declared.fault.TextFaultKind.TextFaultKind}
use Rattle.oat_text.specs.{declared.fault.TextFaultKind.TheVariants.Number, declared.fault.TextFaultKind.TheVariants.Unknown, declared.head.Head.Head, Forms.line_form, Passes.OrFault, Passes.numbered}
use Rattle.oat_text.specs.{Passes.over, Readings.i64_of, Readings.name_at, Outline.Outline, Outline.itself, Outline.local_name, Outline.outline_of}
use Rattle.oat_text.specs.declared.form.LineForm.TheVariants as line
use Rattle.oat_text.specs.declared.form.InstrForm.TheVariants as instrs
use Rattle.oat_text.specs.declared.form.TermForm.TheVariants as terms

-- ---- names

-- the names that an instruction may use
pub record Scope : Type 0 where
  pub globals : List GlobalItem
  pub funcs : List TextWord
  pub locals : List Local
  pub labels : List TextWord

-- the index of the thing of this name
abbrev pub index_of : {X : Type 0} → (X → TextWord) → List X → TextWord → Option ℕ
index_of called items word = position (λ item. bytes_eq word (called item)) items

abbrev pub global_index : Scope → List TextWord → ℕ → Result ℕ TextFaultKind
global_index s words k = ok_or (option_and_then (index_of global_name s.globals) (slice_get words k)) Unknown

abbrev pub func_index : Scope → List TextWord → ℕ → Result ℕ TextFaultKind
func_index s words k = ok_or (option_and_then (index_of itself s.funcs) (slice_get words k)) Unknown

abbrev pub argument : Scope → TextWord → Result ℕ TextFaultKind
argument s word = ok_or (index_of local_name s.locals word) Unknown

abbrev pub local_index : Scope → List TextWord → ℕ → Result ℕ TextFaultKind
local_index s words k = ok_or (option_and_then (index_of local_name s.locals) (slice_get words k)) Unknown

abbrev pub label_index : Scope → List TextWord → ℕ → Result ℕ TextFaultKind
label_index s words k = ok_or (option_and_then (index_of itself s.labels) (slice_get words k)) Unknown

-- ---- instructions and terminators

-- so many at most
unfoldable pub arguments : Scope → ℕ → List TextWord → Result (List ℕ) TextFaultKind
arguments s most [] = Ok []
arguments s zero (word ∷ words) = Err Unknown
arguments s (suc most) (word ∷ words) = do
  x ← argument s word
  xs ← arguments s most words
  Ok (x ∷ xs)

unfoldable pub copy_of : Scope → List TextWord → Result Instr TextFaultKind
copy_of s words = do
  x ← local_index s words 0
  y ← local_index s words 1
  Ok (Copy x y)

unfoldable pub load_of : Scope → List TextWord → Result Instr TextFaultKind
load_of s words = do
  x ← local_index s words 0
  global ← global_index s words 1
  Ok (Load x global)

unfoldable pub store_of : Scope → List TextWord → Result Instr TextFaultKind
store_of s words = do
  global ← global_index s words 0
  x ← local_index s words 1
  Ok (Store global x)

unfoldable pub ref_of : Scope → List TextWord → Result Instr TextFaultKind
ref_of s words = do
  x ← local_index s words 0
  func ← func_index s words 1
  Ok (RefTo x func)

unfoldable pub binary_of : Scope → BinOp → List TextWord → Result Instr TextFaultKind
binary_of s op words = do
  x ← local_index s words 0
  y ← local_index s words 1
  z ← local_index s words 2
  Ok (Binary op x y z)

unfoldable pub const_of : Scope → List TextWord → Result Instr TextFaultKind
const_of s words = do
  x ← local_index s words 0
  value ← ok_or (option_and_then i64_of (slice_get words 1)) Number
  Ok (Const x value)

unfoldable pub loadx_of : Scope → List TextWord → Result Instr TextFaultKind
loadx_of s words = do
  x ← local_index s words 0
  array ← global_index s words 1
  i ← local_index s words 2
  Ok (LoadX x array i)

unfoldable pub storex_of : Scope → List TextWord → Result Instr TextFaultKind
storex_of s words = do
  array ← global_index s words 0
  i ← local_index s words 1
  x ← local_index s words 2
  Ok (StoreX array i x)

unfoldable pub call_of : Scope → List TextWord → Result Instr TextFaultKind
call_of s words = do
  x ← local_index s words 0
  func ← func_index s words 1
  args ← arguments s 4 (drop 2 words)
  Ok (Call x func args)

unfoldable pub icall_of : Scope → List TextWord → Result Instr TextFaultKind
icall_of s words = do
  x ← local_index s words 0
  y ← local_index s words 1
  args ← arguments s 4 (drop 2 words)
  Ok (ICall x y args)

unfoldable pub instr_of : Scope → InstrForm → List TextWord → Result Instr TextFaultKind
instr_of s instrs.Const words = const_of s words
instr_of s instrs.Copy words = copy_of s words
instr_of s (instrs.Binary op) words = binary_of s op words
instr_of s instrs.Load words = load_of s words
instr_of s instrs.Store words = store_of s words
instr_of s instrs.LoadX words = loadx_of s words
instr_of s instrs.StoreX words = storex_of s words
instr_of s instrs.RefTo words = ref_of s words
instr_of s instrs.Call words = call_of s words
instr_of s instrs.ICall words = icall_of s words
instr_of s instrs.Input words = local_index s words 0 >>= λ x. Ok (Input x)
instr_of s instrs.Output words = local_index s words 0 >>= λ x. Ok (Output x)

unfoldable pub branch_of : Scope → List TextWord → Result Term TextFaultKind
branch_of s words = do
  x ← local_index s words 0
  first ← label_index s words 1
  second ← label_index s words 2
  Ok (Branch x first second)

unfoldable pub term_of : Scope → TermForm → List TextWord → Result Term TextFaultKind
term_of s terms.Jump words = label_index s words 0 >>= λ to. Ok (Jump to)
term_of s terms.Branch words = branch_of s words
term_of s terms.Ret words = local_index s words 0 >>= λ x. Ok (Ret x)
term_of s terms.Halt words = Ok Halt

-- ---- the text

-- what the lines so far give: the blocks of the functions that have ended, and those of the present one
pub record Bodies : Type 0 where
  pub outline : Outline
  pub ended : List (List BlockIr)
  pub blocks : List BlockIr
  -- the block that has begun
  pub label : Option TextWord
  pub instrs : List Instr

abbrev pub no_bodies : Outline → Bodies
no_bodies outline = record { outline = outline; ended = []; blocks = []; label = None; instrs = [] }

-- the names in the present function
abbrev pub scope_of : Outline → Head → Scope
scope_of o head = record { globals = o.globals; funcs = o.funcs; locals = head.locals; labels = head.labels }

abbrev pub scope_in : Bodies → Result Scope TextFaultKind
scope_in b = ok_or (option_map (scope_of b.outline) (slice_get b.outline.heads (length b.ended))) Unknown

unfoldable pub instr_in : Bodies → InstrForm → List TextWord → Result Instr TextFaultKind
instr_in b form words = scope_in b >>= λ scope. instr_of scope form words

unfoldable pub term_in : Bodies → TermForm → List TextWord → Result Term TextFaultKind
term_in b form words = scope_in b >>= λ scope. term_of scope form words

unfoldable pub instr_line : ℕ → Bodies → InstrForm → List TextWord → OrFault Bodies
instr_line n b form words = do
  instr ← at n (instr_in b form words)
  Ok (record b { instrs = b.instrs ++ instr ∷ [] })

unfoldable pub term_line : ℕ → Bodies → TermForm → List TextWord → OrFault Bodies
term_line n b form words = do
  term ← at n (term_in b form words)
  label ← ok_or b.label (At n Unknown)
  Ok (record b { blocks = b.blocks ++ (record { label = label; instrs = b.instrs; term = term }) ∷ []; label = None; instrs = [] })

unfoldable pub fill : ℕ → Bodies → LineForm → List TextWord → OrFault Bodies
fill n b line.Block words = Ok (record b { label = name_at words 0 })
fill n b (line.Instr form) words = instr_line n b form words
fill n b (line.Term form) words = term_line n b form words
fill n b line.End words = Ok (record b { ended = b.ended ++ b.blocks ∷ []; blocks = [] })
fill n b _ words = Ok b

-- a line that counts, by its words
unfoldable pub body_line : ℕ → Bodies → List TextWord → OrFault Bodies
body_line n b [] = Ok b
body_line n b (first ∷ words) = do
  form ← ok_or (line_form first) (At n Unknown)
  fill n b form words

abbrev pub bodies_of : Outline → List ℕ → OrFault Bodies
bodies_of outline text = over body_line (no_bodies outline) (numbered 1 (lines_of text))

-- a function, from its name, what it declares, and its blocks
abbrev pub func_from : TextWord × (Head × List BlockIr) → Func
func_from f = record { name = f.0; role = f.1.0.role; params = f.1.0.params; locals = f.1.0.locals; blocks = f.1.1 }

abbrev pub program_from : Outline → List (List BlockIr) → Program
program_from outline bodies = record { globals = outline.globals; funcs = map func_from (zip outline.funcs (zip outline.heads bodies)) }

-- the program, or the first fault with its line
abbrev pub program_of : List ℕ → OrFault Program
program_of text = do
  outline ← outline_of text
  bodies ← bodies_of outline text
  Ok (program_from outline bodies.ended)
