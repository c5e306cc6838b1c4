-- The table of lines of a program text: what stands behind each first word (docs/FORMATS.md, "Program text").
use Rattle.std.specs.{Prelude.ℕ, Prelude.List, Prelude.[], Prelude.◌∷◌, Prelude.find, Prelude.codes, Prelude.Option, Str.bytes_eq}
use Rattle.oat_lines.specs.Lines.{TextWord}
use Rattle.oat_text.specs.{declared.form.LineForm.LineForm, declared.form.GlobalForm.GlobalForm, declared.form.FuncForm.FuncForm, declared.form.InstrForm.InstrForm, declared.form.TermForm.TermForm}
use Rattle.oat_text.specs.{declared.form.WordKind.WordKind, declared.form.WordKind.TheVariants.Named, declared.form.WordKind.TheVariants.Typed, declared.form.WordKind.TheVariants.Parameter}
use Rattle.oat_text.specs.{declared.form.WordKind.TheVariants.Start, declared.form.WordKind.TheVariants.Integer, declared.form.WordKind.TheVariants.Count, declared.form.TheConstants.FORMS}
use Rattle.oat_text.specs.{Grammar.op_keyword}
use Rattle.oat_text.specs.declared.form.LineForm.TheVariants as line
use Rattle.oat_text.specs.declared.form.GlobalForm.TheVariants as globals
use Rattle.oat_text.specs.declared.form.FuncForm.TheVariants as funcs
use Rattle.oat_text.specs.declared.form.InstrForm.TheVariants as instrs
use Rattle.oat_text.specs.declared.form.TermForm.TheVariants as terms

-- ---- first words

abbrev pub global_word : GlobalForm → TextWord
global_word globals.Plain = codes "global"
global_word globals.Critical = codes "critical"
global_word globals.Array = codes "array"
global_word globals.Criticals = codes "criticals"

abbrev pub func_word : FuncForm → TextWord
func_word funcs.Plain = codes "func"
func_word funcs.Operation = codes "operation"
func_word funcs.Main = codes "main"

abbrev pub instr_word : InstrForm → TextWord
instr_word instrs.Const = codes "const"
instr_word instrs.Copy = codes "copy"
instr_word (instrs.Binary op) = op_keyword op
instr_word instrs.Load = codes "load"
instr_word instrs.Store = codes "store"
instr_word instrs.LoadX = codes "loadx"
instr_word instrs.StoreX = codes "storex"
instr_word instrs.RefTo = codes "ref"
instr_word instrs.Call = codes "call"
instr_word instrs.ICall = codes "icall"
instr_word instrs.Input = codes "in"
instr_word instrs.Output = codes "out"

abbrev pub term_word : TermForm → TextWord
term_word terms.Jump = codes "jump"
term_word terms.Branch = codes "branch"
term_word terms.Ret = codes "ret"
term_word terms.Halt = codes "halt"

abbrev pub spelled : LineForm → TextWord
spelled (line.Global form) = global_word form
spelled (line.Func form) = func_word form
spelled line.Local = codes "local"
spelled line.Block = codes "block"
spelled line.End = codes "end"
spelled (line.Instr form) = instr_word form
spelled (line.Term form) = term_word form

-- the form that a first word begins
abbrev pub line_form : TextWord → Option LineForm
line_form word = find (λ form. bytes_eq word (spelled form)) FORMS

-- ---- the words behind the first one

abbrev pub global_kinds : GlobalForm → List WordKind
global_kinds globals.Plain = Named ∷ Start ∷ []
global_kinds globals.Critical = Named ∷ Integer ∷ []
global_kinds globals.Array = Named ∷ Count 65536 ∷ []
global_kinds globals.Criticals = Named ∷ Count 4096 ∷ []

abbrev pub func_kinds : FuncForm → List WordKind
func_kinds funcs.Plain = Named ∷ Parameter ∷ Parameter ∷ Parameter ∷ Parameter ∷ []
func_kinds funcs.Operation = Count 65535 ∷ Named ∷ Parameter ∷ Parameter ∷ Parameter ∷ Parameter ∷ []
func_kinds funcs.Main = []

abbrev pub instr_kinds : InstrForm → List WordKind
instr_kinds instrs.Const = Named ∷ Integer ∷ []
instr_kinds instrs.Copy = Named ∷ Named ∷ []
instr_kinds (instrs.Binary op) = Named ∷ Named ∷ Named ∷ []
instr_kinds instrs.Load = Named ∷ Named ∷ []
instr_kinds instrs.Store = Named ∷ Named ∷ []
instr_kinds instrs.LoadX = Named ∷ Named ∷ Named ∷ []
instr_kinds instrs.StoreX = Named ∷ Named ∷ Named ∷ []
instr_kinds instrs.RefTo = Named ∷ Named ∷ []
instr_kinds instrs.Call = Named ∷ Named ∷ Named ∷ Named ∷ Named ∷ Named ∷ []
instr_kinds instrs.ICall = Named ∷ Named ∷ Named ∷ Named ∷ Named ∷ Named ∷ []
instr_kinds instrs.Input = Named ∷ []
instr_kinds instrs.Output = Named ∷ []

abbrev pub term_kinds : TermForm → List WordKind
term_kinds terms.Jump = Named ∷ []
term_kinds terms.Branch = Named ∷ Named ∷ Named ∷ []
term_kinds terms.Ret = Named ∷ []
term_kinds terms.Halt = []

abbrev pub kinds_of : LineForm → List WordKind
kinds_of (line.Global form) = global_kinds form
kinds_of (line.Func form) = func_kinds form
kinds_of line.Local = Named ∷ Typed ∷ []
kinds_of line.Block = Named ∷ []
kinds_of line.End = []
kinds_of (line.Instr form) = instr_kinds form
kinds_of (line.Term form) = term_kinds form

-- how many of these may be wanting at the end: up to four parameters or arguments
abbrev pub optional : LineForm → ℕ
optional (line.Func funcs.Plain) = 4
optional (line.Func funcs.Operation) = 4
optional (line.Instr instrs.Call) = 4
optional (line.Instr instrs.ICall) = 4
optional _ = 0
