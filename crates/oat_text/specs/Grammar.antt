-- The program grammar: the lines of each program, and which texts have them (docs/FORMATS.md, "Program text"). A program has
-- its lines in one order, so that a text of it differs from the printed one in blanks, skipped lines and zeros alone.
use Rattle.std.specs.{Prelude.ℕ, Prelude.Bool, Prelude.true, Prelude.false, Prelude.List, Prelude.[], Prelude.◌∷◌, Prelude.◌++◌, Prelude.map, Prelude.take, Prelude.drop, Prelude.codes, List.AllZip}
use Rattle.std.specs.{List.flat_map, List.slice_index_or}
use Rattle.oat_lines.specs.{Lines.TextWord, Lines.lines_of, Lines.counting, Fields.spaced, Fields.ended}
use Rattle.oat_ir.specs.{declared.program.Program.Program, declared.program.GlobalItem.GlobalItem, declared.program.GlobalItem.TheVariants.Scalar, declared.program.GlobalItem.TheVariants.FnScalar}
use Rattle.oat_ir.specs.{declared.program.GlobalItem.TheVariants.Array, declared.program.GlobalItem.TheVariants.CriticalArray, declared.func.Func.Func, declared.func.Role.Role}
use Rattle.oat_ir.specs.{declared.func.Role.TheVariants.Plain, declared.func.Role.TheVariants.Operation, declared.func.Role.TheVariants.Main, declared.func.Local.Local, declared.func.BlockIr.BlockIr}
use Rattle.oat_ir.specs.{declared.instr.BinOp.BinOp, declared.instr.BinOp.TheVariants.Add, declared.instr.BinOp.TheVariants.Sub, declared.instr.BinOp.TheVariants.Mul}
use Rattle.oat_ir.specs.{declared.instr.BinOp.TheVariants.And, declared.instr.BinOp.TheVariants.Or, declared.instr.BinOp.TheVariants.Xor, declared.instr.BinOp.TheVariants.Shl}
use Rattle.oat_ir.specs.{declared.instr.BinOp.TheVariants.Shr, declared.instr.BinOp.TheVariants.Sar, declared.instr.BinOp.TheVariants.Eq, declared.instr.BinOp.TheVariants.Ne}
use Rattle.oat_ir.specs.{declared.instr.BinOp.TheVariants.Lt, declared.instr.BinOp.TheVariants.Le, declared.instr.BinOp.TheVariants.Ltu, declared.instr.BinOp.TheVariants.Leu}
use Rattle.oat_ir.specs.{declared.instr.BinOp.TheVariants.Div, declared.instr.BinOp.TheVariants.Rem, declared.instr.BinOp.TheVariants.Divu, declared.instr.BinOp.TheVariants.Remu}
use Rattle.oat_ir.specs.{declared.instr.Instr.Instr, declared.instr.Instr.TheVariants.Const, declared.instr.Instr.TheVariants.Copy, declared.instr.Instr.TheVariants.Binary}
use Rattle.oat_ir.specs.{declared.instr.Instr.TheVariants.Load, declared.instr.Instr.TheVariants.Store, declared.instr.Instr.TheVariants.LoadX, declared.instr.Instr.TheVariants.StoreX}
use Rattle.oat_ir.specs.{declared.instr.Instr.TheVariants.RefTo, declared.instr.Instr.TheVariants.Call, declared.instr.Instr.TheVariants.ICall, declared.instr.Instr.TheVariants.Input}
use Rattle.oat_ir.specs.{declared.instr.Instr.TheVariants.Output, declared.instr.Term.Term, declared.instr.Term.TheVariants.Jump, declared.instr.Term.TheVariants.Branch}
use Rattle.oat_ir.specs.{declared.instr.Term.TheVariants.Ret, declared.instr.Term.TheVariants.Halt, Distinct.global_name, WellFormed.IsProgram}
use Rattle.oat_text.specs.Words.{Said, Keyword, Named, Typed, Parameter, Number, Integer, Says, printed_word}
use Rattle.oat_ir.specs.declared.func.Ty.TheVariants as ty

-- what a line says, word by word
abbrev pub Line : Type 0
Line = List Said

-- ---- names of what an index stands for

abbrev pub local_at : Func → ℕ → Said
local_at func x = Named (slice_index_or (map (λ l. l.name) func.locals) x [])

abbrev pub block_at : Func → ℕ → Said
block_at func b = Named (slice_index_or (map (λ c. c.label) func.blocks) b [])

abbrev pub global_at : Program → ℕ → Said
global_at program g = Named (slice_index_or (map global_name program.globals) g [])

abbrev pub func_at : Program → ℕ → Said
func_at program f = Named (slice_index_or (map (λ g. g.name) program.funcs) f [])

-- ---- globals

abbrev pub scalar_keyword : Bool → TextWord
scalar_keyword true = codes "critical"
scalar_keyword false = codes "global"

abbrev pub global_line : GlobalItem → Line
global_line (Scalar name start critical) = Keyword (scalar_keyword critical) ∷ Named name ∷ Integer start ∷ []
global_line (FnScalar name params) = Keyword (codes "global") ∷ Named name ∷ Typed (ty.Fn params) ∷ []
global_line (Array name len) = Keyword (codes "array") ∷ Named name ∷ Number len ∷ []
global_line (CriticalArray name len) = Keyword (codes "criticals") ∷ Named name ∷ Number len ∷ []

-- ---- instructions and terminators

abbrev pub op_keyword : BinOp → TextWord
op_keyword Add = codes "add"
op_keyword Sub = codes "sub"
op_keyword Mul = codes "mul"
op_keyword And = codes "and"
op_keyword Or = codes "or"
op_keyword Xor = codes "xor"
op_keyword Shl = codes "shl"
op_keyword Shr = codes "shr"
op_keyword Sar = codes "sar"
op_keyword Eq = codes "eq"
op_keyword Ne = codes "ne"
op_keyword Lt = codes "lt"
op_keyword Le = codes "le"
op_keyword Ltu = codes "ltu"
op_keyword Leu = codes "leu"
op_keyword Div = codes "div"
op_keyword Rem = codes "rem"
op_keyword Divu = codes "divu"
op_keyword Remu = codes "remu"

abbrev pub instr_line : Program → Func → Instr → Line
instr_line p f (Const x value) = Keyword (codes "const") ∷ local_at f x ∷ Integer value ∷ []
instr_line p f (Copy x y) = Keyword (codes "copy") ∷ local_at f x ∷ local_at f y ∷ []
instr_line p f (Binary op x y z) = Keyword (op_keyword op) ∷ local_at f x ∷ local_at f y ∷ local_at f z ∷ []
instr_line p f (Load x global) = Keyword (codes "load") ∷ local_at f x ∷ global_at p global ∷ []
instr_line p f (Store global x) = Keyword (codes "store") ∷ global_at p global ∷ local_at f x ∷ []
instr_line p f (LoadX x array i) = Keyword (codes "loadx") ∷ local_at f x ∷ global_at p array ∷ local_at f i ∷ []
instr_line p f (StoreX array i x) = Keyword (codes "storex") ∷ global_at p array ∷ local_at f i ∷ local_at f x ∷ []
instr_line p f (RefTo x func) = Keyword (codes "ref") ∷ local_at f x ∷ func_at p func ∷ []
instr_line p f (Call x func args) = Keyword (codes "call") ∷ local_at f x ∷ func_at p func ∷ map (local_at f) args
instr_line p f (ICall x y args) = Keyword (codes "icall") ∷ local_at f x ∷ local_at f y ∷ map (local_at f) args
instr_line p f (Input x) = Keyword (codes "in") ∷ local_at f x ∷ []
instr_line p f (Output x) = Keyword (codes "out") ∷ local_at f x ∷ []

abbrev pub term_line : Func → Term → Line
term_line f (Jump to) = Keyword (codes "jump") ∷ block_at f to ∷ []
term_line f (Branch x first second) = Keyword (codes "branch") ∷ local_at f x ∷ block_at f first ∷ block_at f second ∷ []
term_line f (Ret x) = Keyword (codes "ret") ∷ local_at f x ∷ []
term_line f Halt = Keyword (codes "halt") ∷ []

-- ---- functions

abbrev pub parameter : Local → Said
parameter l = Parameter l.name l.ty

abbrev pub head_line : Role → TextWord → List Local → Line
head_line Plain name params = Keyword (codes "func") ∷ Named name ∷ map parameter params
head_line (Operation id) name params = Keyword (codes "operation") ∷ Number id ∷ Named name ∷ map parameter params
head_line Main name params = Keyword (codes "main") ∷ []

abbrev pub local_line : Local → Line
local_line l = Keyword (codes "local") ∷ Named l.name ∷ Typed l.ty ∷ []

abbrev pub block_lines : Program → Func → BlockIr → List Line
block_lines p f b = (Keyword (codes "block") ∷ Named b.label ∷ []) ∷ (map (instr_line p f) b.instrs ++ (term_line f b.term ∷ []))

abbrev pub func_lines : Program → Func → List Line
func_lines p f =
    head_line f.role f.name (take f.params f.locals)
    ∷ (map local_line (drop f.params f.locals) ++ (flat_map (block_lines p f) f.blocks ++ ((Keyword (codes "end") ∷ []) ∷ [])))

-- ---- the text

abbrev pub program_lines : Program → List Line
program_lines p = map global_line p.globals ++ flat_map (func_lines p) p.funcs

-- the lines of the text, less the skipped ones, say these
abbrev pub TextSays : List ℕ → List Line → Type 0
TextSays text lines = AllZip (AllZip Says) (counting (lines_of text)) lines

-- the text stands for the program
pub record IsProgramText (text : List ℕ) (program : Program) : Type 0 where
  pub says : TextSays text (program_lines program)
  pub well_formed : IsProgram program

-- a line as it is printed: one space between two words, and LF at the end
abbrev pub line_text : Line → List ℕ
line_text line = ended (spaced (map printed_word line))

abbrev pub lines_text : List Line → List ℕ
lines_text lines = flat_map line_text lines

abbrev pub program_text : Program → List ℕ
program_text program = lines_text (program_lines program)
