-- Each line of a program can be said, and so the printed text is a text of the program.
use Rattle.std.proofs.Common.{◌≡◌, ℕ, ◌<◌, Bool, true, false, List, [], ◌∷◌, ◌++◌, length, get_or, take, drop, map, zero, suc, refl, arith}
use Rattle.std.specs.{Prelude.codes, List.All, List.AllByRecursion, List.AllZip, List.flat_map}
use Rattle.std.proofs.lemmas.{List.length-map, List.Elements.All-from_recursion, List.Elements.recursion_from_All}
use Rattle.oat_lines.specs.{Lines.TextWord, Lines.lines_of, Lines.is_skipped, Lines.counting, Fields.spaced, Fields.ended}
use Rattle.oat_ir.specs.{IsName, declared.program.Program.Program, declared.program.GlobalItem.GlobalItem, declared.program.GlobalItem.TheVariants.Scalar}
use Rattle.oat_ir.specs.{declared.program.GlobalItem.TheVariants.FnScalar, declared.program.GlobalItem.TheVariants.Array, declared.program.GlobalItem.TheVariants.CriticalArray}
use Rattle.oat_ir.specs.{declared.func.Func.Func, declared.func.Role.Role, declared.func.Role.TheVariants.Plain, declared.func.Role.TheVariants.Operation, declared.func.Role.TheVariants.Main}
use Rattle.oat_ir.specs.{declared.func.Local.Local, declared.func.BlockIr.BlockIr, declared.instr.BinOp.BinOp, declared.instr.BinOp.TheVariants.Add, declared.instr.BinOp.TheVariants.Sub}
use Rattle.oat_ir.specs.{declared.instr.BinOp.TheVariants.Mul, declared.instr.BinOp.TheVariants.And, declared.instr.BinOp.TheVariants.Or, declared.instr.BinOp.TheVariants.Xor}
use Rattle.oat_ir.specs.{declared.instr.BinOp.TheVariants.Shl, declared.instr.BinOp.TheVariants.Shr, declared.instr.BinOp.TheVariants.Sar, declared.instr.BinOp.TheVariants.Eq}
use Rattle.oat_ir.specs.{declared.instr.BinOp.TheVariants.Ne, declared.instr.BinOp.TheVariants.Lt, declared.instr.BinOp.TheVariants.Le, declared.instr.BinOp.TheVariants.Ltu}
use Rattle.oat_ir.specs.{declared.instr.BinOp.TheVariants.Leu, declared.instr.BinOp.TheVariants.Div, declared.instr.BinOp.TheVariants.Rem, declared.instr.BinOp.TheVariants.Divu}
use Rattle.oat_ir.specs.{declared.instr.BinOp.TheVariants.Remu, declared.instr.Instr.Instr, declared.instr.Instr.TheVariants.Const, declared.instr.Instr.TheVariants.Copy}
use Rattle.oat_ir.specs.{declared.instr.Instr.TheVariants.Binary, declared.instr.Instr.TheVariants.Load, declared.instr.Instr.TheVariants.Store, declared.instr.Instr.TheVariants.LoadX}
use Rattle.oat_ir.specs.{declared.instr.Instr.TheVariants.StoreX, declared.instr.Instr.TheVariants.RefTo, declared.instr.Instr.TheVariants.Call, declared.instr.Instr.TheVariants.ICall}
use Rattle.oat_ir.specs.{declared.instr.Instr.TheVariants.Input, declared.instr.Instr.TheVariants.Output, declared.instr.Term.Term, declared.instr.Term.TheVariants.Jump}
use Rattle.oat_ir.specs.{declared.instr.Term.TheVariants.Branch, declared.instr.Term.TheVariants.Ret, declared.instr.Term.TheVariants.Halt, Distinct.global_name, Indices.HasLocal, Indices.HasBlock}
use Rattle.oat_ir.specs.{Indices.HasGlobal, Indices.HasFunc, Indices.IsInstr, Indices.IsTerm, WellFormed.IsGlobal, WellFormed.IsLocal, WellFormed.IsRole, WellFormed.IsBlockIr, WellFormed.IsFunc}
use Rattle.oat_ir.specs.{WellFormed.IsProgram}
use Rattle.oat_text.specs.{Words.Keyword, Words.Named, Words.Says, Words.printed_word, Grammar.Line, Grammar.local_at, Grammar.block_at, Grammar.global_at, Grammar.func_at, Grammar.scalar_keyword}
use Rattle.oat_text.specs.{Grammar.global_line, Grammar.op_keyword, Grammar.instr_line, Grammar.term_line, Grammar.parameter, Grammar.head_line, Grammar.local_line, Grammar.block_lines}
use Rattle.oat_text.specs.{Grammar.func_lines, Grammar.program_lines, Grammar.TextSays, Grammar.lines_text, Laws.HasGlobalValues, Laws.HasConstant, Laws.HasBlockValues, Laws.HasFuncValues}
use Rattle.oat_text.specs.{Laws.HasValues, Laws.PrintedIsText}
use Rattle.oat_text.proofs.Spelled.{IsPlain, words_spaced, spaced_within, lines_ended}
use Rattle.oat_ir.specs.declared.func.Ty.TheVariants as ty
use Rattle.oat_text.proofs.Said as said

-- ---- lists

pub all_append : {X : Type 0} (P : X → Type 0) (xs ys : List X) → AllByRecursion P xs → AllByRecursion P ys → AllByRecursion P (xs ++ ys)
all_append P [] ys front back = back
all_append P (x ∷ xs) ys front back = (front.0, all_append P xs ys front.1 back)

all_map : {X Y : Type 0} (P : Y → Type 0) (f : X → Y) (xs : List X) → AllByRecursion (λ x. P (f x)) xs → AllByRecursion P (map f xs)
all_map P f [] all = tt
all_map P f (x ∷ xs) all = (all.0, all_map P f xs all.1)

all_flat : {X Y : Type 0} (P : Y → Type 0) (f : X → List Y) (xs : List X) → AllByRecursion (λ x. AllByRecursion P (f x)) xs
    → AllByRecursion P (flat_map f xs)
all_flat P f [] all = tt
all_flat P f (x ∷ xs) all = all_append P (f x) (flat_map f xs) all.0 (all_flat P f xs all.1)

all_same : {X : Type 0} (P Q : X → Type 0) (xs : List X) → ((x : X) → P x → Q x) → AllByRecursion P xs → AllByRecursion Q xs
all_same P Q [] from all = tt
all_same P Q (x ∷ xs) from all = (from x all.0, all_same P Q xs from all.1)

all_both : {X : Type 0} (P Q : X → Type 0) (xs : List X) → All P xs → All Q xs → AllByRecursion (λ x. P x × Q x) xs
all_both P Q xs one other = recursion_from_All (λ x. P x × Q x) xs (λ k d lt. (one k d lt, other k d lt))

pub all_take : {X : Type 0} (P : X → Type 0) (n : ℕ) (xs : List X) → AllByRecursion P xs → AllByRecursion P (take n xs)
all_take P zero xs all = tt
all_take P (suc n) [] all = tt
all_take P (suc n) (x ∷ xs) all = (all.0, all_take P n xs all.1)

pub all_drop : {X : Type 0} (P : X → Type 0) (n : ℕ) (xs : List X) → AllByRecursion P xs → AllByRecursion P (drop n xs)
all_drop P zero xs all = all
all_drop P (suc n) [] all = tt
all_drop P (suc n) (x ∷ xs) all = all_drop P n xs all.1

-- ---- texts

pub record IsLine (line : Line) : Type 0 where
  pub words : AllByRecursion said.IsSayable line
  pub some : 0 < length line

says_words : (line : Line) → AllByRecursion said.IsSayable line → AllZip Says (map printed_word line) line
says_words [] all = tt
says_words (s ∷ ss) all = (all.0.says, says_words ss all.1)

plain_words : (line : Line) → AllByRecursion said.IsSayable line → AllByRecursion IsPlain (map printed_word line)
plain_words line all = all_map IsPlain printed_word line (all_same said.IsSayable (λ s. IsPlain (printed_word s)) line (λ s is. is.plain) all)

counts : (line : Line) → IsLine line → is_skipped (map printed_word line) ≡ false
counts [] is = absurd (let some = is.some in omega arith)
counts (s ∷ ss) is = is.words.0.plain.counts

counted : (line : Line) (rest : List ℕ) → IsLine line
    → counting (lines_of (ended (spaced (map printed_word line)) ++ rest)) ≡ map printed_word line ∷ counting (lines_of rest)
counted line rest is =
    let plain = plain_words line is.words in
    rw (lines_ended (spaced (map printed_word line)) rest (spaced_within (map printed_word line) plain), words_spaced (map printed_word line) plain, counts line is) refl

pub text_says : (lines : List Line) → AllByRecursion IsLine lines → TextSays (lines_text lines) lines
unfolding lines_of
text_says [] all = tt
text_says (line ∷ lines) all =
    rw (counted line (lines_text lines) all.0) (says_words line all.0.words, text_says lines all.1)

-- ---- names

name_at : {X : Type 0} (f : X → TextWord) (xs : List X) (k : ℕ) → All (λ x. IsName (f x)) xs → k < length xs
    → said.IsSayable (Named (get_or (map f xs) k []))
name_at f xs k all within =
    let names = All-from_recursion IsName (map f xs) (all_map IsName f xs (recursion_from_All (λ x. IsName (f x)) xs all)) in
    let many : length (map f xs) ≡ length xs = rw length-map refl in
    said.named (get_or (map f xs) k []) (names k [] (omega arith))

-- the names of all that an index of the function stands for
pub record HasNames (p : Program) (f : Func) : Type 0 where
  pub globals : All (λ g. IsName (global_name g)) p.globals
  pub funcs : All (λ g. IsName g.name) p.funcs
  pub locals : All (λ l. IsName l.name) f.locals
  pub labels : All (λ b. IsName b.label) f.blocks

local_said : (p : Program) (f : Func) (x : ℕ) → HasNames p f → HasLocal f x → said.IsSayable (local_at f x)
local_said p f x names has = name_at (λ (l : Local). l.name) f.locals x names.locals has

block_said : (p : Program) (f : Func) (b : ℕ) → HasNames p f → HasBlock f b → said.IsSayable (block_at f b)
block_said p f b names has = name_at (λ (c : BlockIr). c.label) f.blocks b names.labels has

global_said : (p : Program) (f : Func) (g : ℕ) → HasNames p f → HasGlobal p g → said.IsSayable (global_at p g)
global_said p f g names has = name_at global_name p.globals g names.globals has

func_said : (p : Program) (f : Func) (g : ℕ) → HasNames p f → HasFunc p g → said.IsSayable (func_at p g)
func_said p f g names has = name_at (λ (h : Func). h.name) p.funcs g names.funcs has

args_said : (p : Program) (f : Func) (args : List ℕ) → HasNames p f → All (HasLocal f) args → AllByRecursion said.IsSayable (map (local_at f) args)
args_said p f args names has =
    all_map said.IsSayable (local_at f) args (all_same (HasLocal f) (λ x. said.IsSayable (local_at f x)) args (λ x h. local_said p f x names h) (recursion_from_All (HasLocal f) args has))

-- ---- lines

-- a line of a keyword and what stands behind it
led : (word : TextWord) (line : Line) → said.IsSayable (Keyword word) → AllByRecursion said.IsSayable line → IsLine (Keyword word ∷ line)
led word line key all = record { words = (key, all); some = omega arith }

op_said : (op : BinOp) → said.IsSayable (Keyword (op_keyword op))
op_said Add = said.keyword (codes "add") refl (omega arith) refl
op_said Sub = said.keyword (codes "sub") refl (omega arith) refl
op_said Mul = said.keyword (codes "mul") refl (omega arith) refl
op_said And = said.keyword (codes "and") refl (omega arith) refl
op_said Or = said.keyword (codes "or") refl (omega arith) refl
op_said Xor = said.keyword (codes "xor") refl (omega arith) refl
op_said Shl = said.keyword (codes "shl") refl (omega arith) refl
op_said Shr = said.keyword (codes "shr") refl (omega arith) refl
op_said Sar = said.keyword (codes "sar") refl (omega arith) refl
op_said Eq = said.keyword (codes "eq") refl (omega arith) refl
op_said Ne = said.keyword (codes "ne") refl (omega arith) refl
op_said Lt = said.keyword (codes "lt") refl (omega arith) refl
op_said Le = said.keyword (codes "le") refl (omega arith) refl
op_said Ltu = said.keyword (codes "ltu") refl (omega arith) refl
op_said Leu = said.keyword (codes "leu") refl (omega arith) refl
op_said Div = said.keyword (codes "div") refl (omega arith) refl
op_said Rem = said.keyword (codes "rem") refl (omega arith) refl
op_said Divu = said.keyword (codes "divu") refl (omega arith) refl
op_said Remu = said.keyword (codes "remu") refl (omega arith) refl

scalar_said : (critical : Bool) → said.IsSayable (Keyword (scalar_keyword critical))
scalar_said true = said.keyword (codes "critical") refl (omega arith) refl
scalar_said false = said.keyword (codes "global") refl (omega arith) refl

global_line_is : (g : GlobalItem) → IsGlobal g → HasGlobalValues g → IsLine (global_line g)
global_line_is (Scalar name start critical) fits values =
    led (scalar_keyword critical) _ (scalar_said critical) (said.named name values.0, (said.integer start values.1, tt))
global_line_is (FnScalar name params) fits values =
    led (codes "global") _ (said.keyword (codes "global") refl (omega arith) refl) (said.named name values, (said.typed (ty.Fn params) fits, tt))
global_line_is (Array name len) fits values =
    led (codes "array") _ (said.keyword (codes "array") refl (omega arith) refl)
    (said.named name values, (said.number len (let most = fits.1 in omega arith), tt))
global_line_is (CriticalArray name len) fits values =
    led (codes "criticals") _ (said.keyword (codes "criticals") refl (omega arith) refl)
    (said.named name values, (said.number len (let most = fits.1 in omega arith), tt))

instr_line_is : (p : Program) (f : Func) (i : Instr) → HasNames p f → IsInstr p f i → HasConstant i → IsLine (instr_line p f i)
instr_line_is p f (Const x value) n has values =
    led (codes "const") _ (said.keyword (codes "const") refl (omega arith) refl) (local_said p f x n has, (said.integer value values, tt))
instr_line_is p f (Copy x y) n has values =
    led (codes "copy") _ (said.keyword (codes "copy") refl (omega arith) refl) (local_said p f x n has.0, (local_said p f y n has.1, tt))
instr_line_is p f (Binary op x y z) n has values =
    led (op_keyword op) _ (op_said op) (local_said p f x n has.0, (local_said p f y n has.1, (local_said p f z n has.2, tt)))
instr_line_is p f (Load x global) n has values =
    led (codes "load") _ (said.keyword (codes "load") refl (omega arith) refl) (local_said p f x n has.0, (global_said p f global n has.1, tt))
instr_line_is p f (Store global x) n has values =
    led (codes "store") _ (said.keyword (codes "store") refl (omega arith) refl) (global_said p f global n has.0, (local_said p f x n has.1, tt))
instr_line_is p f (LoadX x array i) n has values =
    led (codes "loadx") _ (said.keyword (codes "loadx") refl (omega arith) refl)
    (local_said p f x n has.0, (global_said p f array n has.1, (local_said p f i n has.2, tt)))
instr_line_is p f (StoreX array i x) n has values =
    led (codes "storex") _ (said.keyword (codes "storex") refl (omega arith) refl)
    (global_said p f array n has.0, (local_said p f i n has.1, (local_said p f x n has.2, tt)))
instr_line_is p f (RefTo x func) n has values =
    led (codes "ref") _ (said.keyword (codes "ref") refl (omega arith) refl) (local_said p f x n has.0, (func_said p f func n has.1, tt))
instr_line_is p f (Call x func args) n has values =
    led (codes "call") _ (said.keyword (codes "call") refl (omega arith) refl)
    (local_said p f x n has.0, (func_said p f func n has.1, args_said p f args n has.2.1))
instr_line_is p f (ICall x y args) n has values =
    led (codes "icall") _ (said.keyword (codes "icall") refl (omega arith) refl)
    (local_said p f x n has.0, (local_said p f y n has.1, args_said p f args n has.2.1))
instr_line_is p f (Input x) n has values =
    led (codes "in") _ (said.keyword (codes "in") refl (omega arith) refl) (local_said p f x n has, tt)
instr_line_is p f (Output x) n has values =
    led (codes "out") _ (said.keyword (codes "out") refl (omega arith) refl) (local_said p f x n has, tt)

term_line_is : (p : Program) (f : Func) (t : Term) → HasNames p f → IsTerm f t → IsLine (term_line f t)
term_line_is p f (Jump to) n has =
    led (codes "jump") _ (said.keyword (codes "jump") refl (omega arith) refl) (block_said p f to n has, tt)
term_line_is p f (Branch x first second) n has =
    led (codes "branch") _ (said.keyword (codes "branch") refl (omega arith) refl)
    (local_said p f x n has.0, (block_said p f first n has.1, (block_said p f second n has.2, tt)))
term_line_is p f (Ret x) n has = led (codes "ret") _ (said.keyword (codes "ret") refl (omega arith) refl) (local_said p f x n has, tt)
term_line_is p f Halt n has = led (codes "halt") _ (said.keyword (codes "halt") refl (omega arith) refl) tt

-- ---- functions

abbrev IsSound : Local → Type 0
IsSound l = IsName l.name × IsLocal l

params_said : (params : List Local) → AllByRecursion IsSound params → AllByRecursion said.IsSayable (map parameter params)
params_said params all =
    all_map said.IsSayable parameter params (all_same IsSound (λ l. said.IsSayable (parameter l)) params (λ l is. said.parameter l.name l.ty is.0 is.1) all)

head_line_is : (role : Role) (f : Func) (params : List Local) → IsRole role f → IsName f.name → AllByRecursion IsSound params
    → IsLine (head_line role f.name params)
head_line_is Plain f params fits name all =
    led (codes "func") _ (said.keyword (codes "func") refl (omega arith) refl) (said.named f.name name, params_said params all)
head_line_is (Operation id) f params fits name all =
    led (codes "operation") _ (said.keyword (codes "operation") refl (omega arith) refl)
    (said.number id (let most = fits.1 in omega arith), (said.named f.name name, params_said params all))
head_line_is Main f params fits name all = led (codes "main") _ (said.keyword (codes "main") refl (omega arith) refl) tt

local_line_is : (l : Local) → IsSound l → IsLine (local_line l)
local_line_is l is =
    led (codes "local") _ (said.keyword (codes "local") refl (omega arith) refl) (said.named l.name is.0, (said.typed l.ty is.1, tt))

block_lines_are : (p : Program) (f : Func) (b : BlockIr) → HasNames p f → IsBlockIr p f b → HasBlockValues b → AllByRecursion IsLine (block_lines p f b)
block_lines_are p f b n has values =
    let instrs = all_same (λ i. IsInstr p f i × HasConstant i) (λ i. IsLine (instr_line p f i)) b.instrs (λ i both. instr_line_is p f i n both.0 both.1) (all_both (IsInstr p f) HasConstant b.instrs has.0 values.instrs) in (
      led (codes "block") _ (said.keyword (codes "block") refl (omega arith) refl) (said.named b.label values.label, tt),
      all_append IsLine (map (instr_line p f) b.instrs) (term_line f b.term ∷ []) (all_map IsLine (instr_line p f) b.instrs instrs) (term_line_is p f b.term n has.1, tt),
    )

func_lines_are : (p : Program) (f : Func) → HasNames p f → IsFunc p f → HasFuncValues f → AllByRecursion IsLine (func_lines p f)
func_lines_are p f n fits values =
    let locals = all_both (λ (l : Local). IsName l.name) IsLocal f.locals values.locals fits.locals in
    let blocks = all_same (λ b. IsBlockIr p f b × HasBlockValues b) (λ b. AllByRecursion IsLine (block_lines p f b)) f.blocks (λ b both. block_lines_are p f b n both.0 both.1) (all_both (IsBlockIr p f) HasBlockValues f.blocks fits.blocks values.blocks) in
    let others = all_same IsSound (λ l. IsLine (local_line l)) (drop f.params f.locals) local_line_is (all_drop IsSound f.params f.locals locals) in (
      head_line_is f.role f (take f.params f.locals) fits.role values.name (all_take IsSound f.params f.locals locals),
      all_append IsLine (map local_line (drop f.params f.locals)) _ (all_map IsLine local_line (drop f.params f.locals) others)
          (all_append IsLine (flat_map (block_lines p f) f.blocks) _ (all_flat IsLine (block_lines p f) f.blocks blocks)
          (led (codes "end") _ (said.keyword (codes "end") refl (omega arith) refl) tt, tt)),
    )

-- ---- programs

global_named : (g : GlobalItem) → HasGlobalValues g → IsName (global_name g)
global_named (Scalar name start critical) values = values.0
global_named (FnScalar name params) values = values
global_named (Array name len) values = values
global_named (CriticalArray name len) values = values

each_same : {X : Type 0} (P Q : X → Type 0) (xs : List X) → ((x : X) → P x → Q x) → All P xs → All Q xs
each_same P Q xs from all = λ k d lt. from (get_or xs k d) (all k d lt)

names_of : (p : Program) (f : Func) → HasValues p → HasFuncValues f → HasNames p f
names_of p f values own = record {
  globals = each_same HasGlobalValues (λ g. IsName (global_name g)) p.globals global_named values.globals;
  funcs = each_same HasFuncValues (λ g. IsName g.name) p.funcs (λ g is. is.name) values.funcs;
  locals = own.locals;
  labels = each_same HasBlockValues (λ b. IsName b.label) f.blocks (λ b is. is.label) own.blocks;
}

lines_are : (p : Program) → IsProgram p → HasValues p → AllByRecursion IsLine (program_lines p)
lines_are p fits values =
    let globals = all_same (λ g. IsGlobal g × HasGlobalValues g) (λ g. IsLine (global_line g)) p.globals (λ g both. global_line_is g both.0 both.1) (all_both IsGlobal HasGlobalValues p.globals fits.globals values.globals) in
    let funcs = all_same (λ f. IsFunc p f × HasFuncValues f) (λ f. AllByRecursion IsLine (func_lines p f)) p.funcs (λ f both. func_lines_are p f (names_of p f values both.1) both.0 both.1) (all_both (IsFunc p) HasFuncValues p.funcs fits.funcs values.funcs) in
    all_append IsLine (map global_line p.globals) (flat_map (func_lines p) p.funcs) (all_map IsLine global_line p.globals globals) (all_flat IsLine (func_lines p) p.funcs funcs)

pub printed : PrintedIsText
printed p fits values = record { says = text_says (program_lines p) (lines_are p fits values); well_formed = fits }
