-- What the lines of a program text declare, or else the fault of its first bad line, but for names of nothing that is declared:
-- the first pass (docs/FORMATS.md, "Program text"). A line's faults are looked for in the order Token, Expected, Number, Duplicate.
use Rattle.std.specs.{Prelude.ℕ, Prelude.◌+◌, Prelude.◌==◌, Prelude.◌&&◌, Prelude.Bool, Prelude.true, Prelude.false, Prelude.not, Prelude.List, Prelude.[], Prelude.◌∷◌, Prelude.◌++◌, Prelude.length}
use Rattle.std.specs.{Prelude.codes, Prelude.Option, Prelude.None, Prelude.slice_get, Prelude.option_map, Prelude.Result, Prelude.Ok, Prelude.if◌then◌else◌, List.list_all, List.list_any, Option.ok_or}
use Rattle.std.specs.{Str.bytes_eq}
use Rattle.oat_lines.specs.{declared.fault.Fault.TheVariants.At, Faults.at, Lines.TextWord, Lines.lines_of, Reading.◌>>=◌, Reading.guard}
use Rattle.oat_ir.specs.{read_name, declared.program.GlobalItem.GlobalItem, declared.program.GlobalItem.TheVariants.Scalar, declared.program.GlobalItem.TheVariants.FnScalar}
use Rattle.oat_ir.specs.{declared.program.GlobalItem.TheVariants.Array, declared.program.GlobalItem.TheVariants.CriticalArray, declared.func.Role.Role, declared.func.Role.TheVariants.Plain}
use Rattle.oat_ir.specs.{declared.func.Role.TheVariants.Operation, declared.func.Role.TheVariants.Main, declared.func.Local.Local, Distinct.global_name}
use Rattle.oat_text.specs.{declared.form.LineForm.LineForm, declared.form.GlobalForm.GlobalForm, declared.form.FuncForm.FuncForm, declared.fault.TextFaultKind.TextFaultKind}
use Rattle.oat_text.specs.{declared.fault.TextFaultKind.TheVariants.Token, declared.fault.TextFaultKind.TheVariants.Expected, declared.fault.TextFaultKind.TheVariants.Number}
use Rattle.oat_text.specs.{declared.fault.TextFaultKind.TheVariants.Duplicate, declared.head.Head.Head, declared.head.Stage.Stage, declared.head.Stage.TheVariants.Outside}
use Rattle.oat_text.specs.{declared.head.Stage.TheVariants.Locals, declared.head.Stage.TheVariants.Inside, declared.head.Stage.TheVariants.Behind, Forms.line_form, Forms.kinds_of, Passes.OrFault}
use Rattle.oat_text.specs.{Passes.numbered, Passes.each, Passes.over, Readings.params_of, Readings.parameter_of, Readings.i64_of, Readings.count_of, Readings.name_at, Readings.local_in}
use Rattle.oat_text.specs.{Readings.begins_reference, Readings.is_printable, Readings.is_shaped, Readings.is_in_range, Readings.all_pass, Readings.has_number}
use Rattle.oat_text.specs.declared.form.LineForm.TheVariants as line
use Rattle.oat_text.specs.declared.form.GlobalForm.TheVariants as globals
use Rattle.oat_text.specs.declared.form.FuncForm.TheVariants as funcs

-- what the lines so far declare
pub record Outline : Type 0 where
  pub globals : List GlobalItem
  -- the numbers of the operations
  pub operations : List ℕ
  -- the names of the functions that have begun
  pub funcs : List TextWord
  -- the functions that have ended: role, parameters, locals and labels
  pub heads : List Head
  -- the function that hasn't
  pub present : Head
  pub stage : Stage

abbrev pub no_head : Head
no_head = record { role = Plain; params = 0; locals = []; labels = [] }

abbrev pub nothing : Outline
nothing = record { globals = []; operations = []; funcs = []; heads = []; present = no_head; stage = Outside }

-- ---- the tests of a line

-- a line of this form may stand there; globals stand before the first function
abbrev pub stands : Stage → Bool → LineForm → Bool
stands Outside first (line.Global form) = first
stands Outside first (line.Func form) = true
stands Locals first line.Local = true
stands Locals first line.Block = true
stands Inside first (line.Instr form) = true
stands Inside first (line.Term form) = true
stands Behind first line.Block = true
stands Behind first line.End = true
stands _ first _ = false

unfoldable pub fitting : Stage → Bool → LineForm → List TextWord → Result LineForm TextFaultKind
fitting stage first form words = do
  shaped ← guard (all_pass is_shaped (kinds_of form) words) Token
  placed ← guard (stands stage first form && has_number form words) Expected
  numbered ← guard (all_pass is_in_range (kinds_of form) words) Number
  Ok form

-- the form of a line that passes all tests
unfoldable pub tested : Stage → Bool → TextWord → List TextWord → Result LineForm TextFaultKind
tested stage first word words = do
  printed ← guard (list_all is_printable (word ∷ words)) Token
  form ← ok_or (line_form word) Expected
  fitting stage first form words

-- ---- what a line declares

-- with one more thing, whose name is new among them
abbrev pub add : {X : Type 0} → ℕ → (X → TextWord) → List X → X → OrFault (List X)
add n called items item = do
  new ← guard (not (list_any (λ other. bytes_eq (called item) (called other)) items)) (At n Duplicate)
  Ok (items ++ item ∷ [])

abbrev pub itself : TextWord → TextWord
itself name = name

abbrev pub local_name : Local → TextWord
local_name local = local.name

-- a scalar, or a scalar of references
unfoldable pub scalar_of : TextWord → TextWord → Result GlobalItem TextFaultKind
scalar_of name word =
    if begins_reference word
    then (ok_or (params_of word) Token >>= λ params. Ok (FnScalar name params))
    else (ok_or (i64_of word) Number >>= λ start. Ok (Scalar name start false))

unfoldable pub global_of : GlobalForm → TextWord → TextWord → Result GlobalItem TextFaultKind
global_of globals.Plain name word = scalar_of name word
global_of globals.Critical name word = ok_or (i64_of word) Number >>= λ start. Ok (Scalar name start true)
global_of globals.Array name word = ok_or (count_of 65536 word) Number >>= λ len. Ok (Array name len)
global_of globals.Criticals name word = ok_or (count_of 4096 word) Number >>= λ len. Ok (CriticalArray name len)

unfoldable pub global_in : GlobalForm → List TextWord → Result GlobalItem TextFaultKind
global_in form words = do
  name ← ok_or (name_at words 0) Token
  word ← ok_or (slice_get words 1) Expected
  global_of form name word

unfoldable pub add_parameter : ℕ → List Local → TextWord → OrFault (List Local)
add_parameter n locals word = do
  parameter ← ok_or (parameter_of word) (At n Token)
  add n local_name locals parameter

abbrev pub add_parameters : ℕ → List Local → List TextWord → OrFault (List Local)
add_parameters n = each (add_parameter n)

-- a function of this role and name, with these parameters
unfoldable pub begin_func : ℕ → Outline → Role → TextWord → List TextWord → OrFault Outline
begin_func n o role name words = do
  names ← add n itself o.funcs name
  locals ← add_parameters n [] words
  Ok (record o { funcs = names; present = record { role = role; params = length locals; locals = locals; labels = [] }; stage = Locals })

unfoldable pub begin_operation : ℕ → Outline → ℕ → TextWord → List TextWord → OrFault Outline
begin_operation n o id name words = do
  new ← guard (not (list_any (λ other. id == other) o.operations)) (At n Duplicate)
  begin_func n (record o { operations = o.operations ++ id ∷ [] }) (Operation id) name words

-- the name or the number of an operation that stands first, and the words behind it
abbrev pub name_first : List TextWord → Option (TextWord × List TextWord)
name_first [] = None
name_first (word ∷ words) = option_map (λ name. (name, words)) (read_name word)

abbrev pub id_first : List TextWord → Option (ℕ × List TextWord)
id_first [] = None
id_first (word ∷ words) = option_map (λ id. (id, words)) (count_of 65535 word)

unfoldable pub plain_line : ℕ → Outline → List TextWord → OrFault Outline
plain_line n o words = do
  named ← ok_or (name_first words) (At n Token)
  begin_func n o Plain named.0 named.1

unfoldable pub operation_line : ℕ → Outline → List TextWord → OrFault Outline
operation_line n o words = do
  numbered ← ok_or (id_first words) (At n Number)
  named ← ok_or (name_first numbered.1) (At n Token)
  begin_operation n o numbered.0 named.0 named.1

unfoldable pub func_line : ℕ → Outline → FuncForm → List TextWord → OrFault Outline
func_line n o funcs.Plain words = plain_line n o words
func_line n o funcs.Operation words = operation_line n o words
func_line n o funcs.Main words = begin_func n o Main (codes "main") words

unfoldable pub global_line : ℕ → Outline → GlobalForm → List TextWord → OrFault Outline
global_line n o form words = do
  item ← at n (global_in form words)
  globals ← add n global_name o.globals item
  Ok (record o { globals = globals })

abbrev pub with_locals : Head → List Local → Head
with_locals head locals = record head { locals = locals }

abbrev pub with_labels : Head → List TextWord → Head
with_labels head labels = record head { labels = labels }

unfoldable pub local_line : ℕ → Outline → List TextWord → OrFault Outline
local_line n o words = do
  local ← ok_or (local_in words) (At n Token)
  locals ← add n local_name o.present.locals local
  Ok (record o { present = with_locals o.present locals })

unfoldable pub block_line : ℕ → Outline → List TextWord → OrFault Outline
block_line n o words = do
  label ← ok_or (name_at words 0) (At n Token)
  labels ← add n itself o.present.labels label
  Ok (record o { present = with_labels o.present labels; stage = Inside })

unfoldable pub declare : ℕ → Outline → LineForm → List TextWord → OrFault Outline
declare n o (line.Global form) words = global_line n o form words
declare n o (line.Func form) words = func_line n o form words
declare n o line.Local words = local_line n o words
declare n o line.Block words = block_line n o words
declare n o line.End words = Ok (record o { heads = o.heads ++ o.present ∷ []; present = no_head; stage = Outside })
declare n o (line.Instr form) words = Ok o
declare n o (line.Term form) words = Ok (record o { stage = Behind })

-- a line that counts, by its words
unfoldable pub outline_line : ℕ → Outline → List TextWord → OrFault Outline
outline_line n o [] = Ok o
outline_line n o (first ∷ words) = do
  form ← at n (tested o.stage (length o.funcs == 0) first words)
  declare n o form words

-- ---- the text

abbrev pub is_outside : Stage → Bool
is_outside Outside = true
is_outside _ = false

-- at the end of the text no function is left open
abbrev pub outline_of : List ℕ → OrFault Outline
outline_of text = do
  o ← over outline_line nothing (numbered 1 (lines_of text))
  whole ← guard (is_outside o.stage) (At (1 + length (lines_of text)) Expected)
  Ok o
