-- What holds of the code of each program: what its expansion is, that an image is built of it, and how many words it needs.
use Rattle.std.specs.Prelude.{◌≡◌, ◌≤◌, ◌+◌, ℕ, ℤ, Bool, List, length, slice_get, Option, Some}
use Rattle.oat_globals.specs.{words_needed, code_limit, expansion, Program, Func, BlockIr, BinOp, most_words, CodeLine, line_in, IsChecked, call_code, icall_code, Home, lines_code, Code.load_code}
use Rattle.oat_globals.specs.{Code.store_code, Code.ref_code, Code.loadx_code, Code.storex_code, Code.use_code, Code.define_code, Code.use_at_code, Code.define_at_code, Operations.start_code}
use Rattle.oat_globals.specs.{Operations.leave_code}
use Rattle.oat_locals.specs.Code.{binary_code, const_code, copy_code, input_code, output_code, jump_code, branch_code, halt_code}
use Rattle.oat_symbols.specs.{CanBeExpanded, Programs.symbols_of, Programs.HasValidNames, Codes.IsCodeOf, Codes.IsBuiltWhole}
use Rattle.oat_gen.specs.{declared.globals.GlobalPlace.GlobalPlace, declared.globals.GlobalPlace.TheVariants.Critical, Marked.marked_start, Marked.marked_return, Marked.marked_call}
use Rattle.oat_gen.specs.{Marked.marked_icall, Marked.marked_jump, Marked.marked_branch, Marked.scalar_load, Marked.scalar_store, Marked.element_load, Marked.element_store, Code.line_code}
use Rattle.oat_gen.specs.{Code.block_code, Code.function_code, Code.program_items, Code.expanded_lines}

-- ---- the expansion, line by line

-- code with a mark becomes the code of its line
pub record MarkedCodeExpands : Type 0 where
  pub start : (leaf : Bool) (params locals : ℕ) (op : Option ℕ) → expansion (marked_start leaf params locals op) ≡ start_code leaf params locals op
  pub leave : (locals : ℕ) (from : Home) (op : Option ℕ) → expansion (marked_return locals from op) ≡ leave_code locals from op
  pub call : (args : List ℕ) (callee result : ℕ) → expansion (marked_call args callee result) ≡ call_code args callee result
  pub icall : (args : List ℕ) (from result : ℕ) → expansion (marked_icall args from result) ≡ icall_code args from result
  pub jump : (to : ℕ) → expansion (marked_jump to) ≡ jump_code to
  pub branch : (x : Home) (first second : ℕ) → expansion (marked_branch x first second) ≡ branch_code x first second
  pub load : (word cell len : ℕ) (x : Home) → expansion (scalar_load (Critical word cell len) x) ≡ use_code x word cell
  pub store : (word cell len : ℕ) (x : Home) → expansion (scalar_store (Critical word cell len) x) ≡ define_code word cell x
  pub loadx : (word cell len : ℕ) (x i : Home) → expansion (element_load (Critical word cell len) x i) ≡ use_at_code x word cell len i
  pub storex : (word cell len : ℕ) (i x : Home) → expansion (element_store (Critical word cell len) i x) ≡ define_at_code word cell len i x

-- code without a mark stays as it is
pub record OtherCodeStays : Type 0 where
  pub binary : (op : BinOp) (x y z : Home) → expansion (binary_code op x y z) ≡ binary_code op x y z
  pub const : (x : Home) (value : ℤ) → expansion (const_code x value) ≡ const_code x value
  pub copy : (x y : Home) → expansion (copy_code x y) ≡ copy_code x y
  pub input : (x : Home) → expansion (input_code x) ≡ input_code x
  pub output : (x : Home) → expansion (output_code x) ≡ output_code x
  pub halt : expansion halt_code ≡ halt_code
  pub load : (x : Home) (word : ℕ) → expansion (load_code x word) ≡ load_code x word
  pub store : (word : ℕ) (x : Home) → expansion (store_code word x) ≡ store_code word x
  pub ref : (x : Home) (callee : ℕ) → expansion (ref_code x callee) ≡ ref_code x callee
  pub loadx : (x : Home) (word len : ℕ) (i : Home) → expansion (loadx_code x word len i) ≡ loadx_code x word len i
  pub storex : (word len : ℕ) (i x : Home) → expansion (storex_code word len i x) ≡ storex_code word len i x

-- ---- blocks

-- a block becomes its lines, one behind the other
abbrev pub BlocksExpandByLine : Type 0
BlocksExpandByLine =
    (places : List GlobalPlace) (first : ℕ) (func : Func) (block : BlockIr) → expansion (block_code places first func block) ≡ lines_code (expanded_lines places first func block)

-- each line of a block has its code there, and there are no others
pub record LinesHaveTheirCode (places : List GlobalPlace) (first : ℕ) (func : Func) (block : BlockIr) : Type 0 where
  pub count : length (expanded_lines places first func block) ≡ length block.instrs + 1
  pub each : (n : ℕ) (line : CodeLine) → line_in block n ≡ Some line → slice_get (expanded_lines places first func block) n ≡ Some (expansion (line_code places first func line))

abbrev pub BlocksHaveTheirLines : Type 0
BlocksHaveTheirLines = (places : List GlobalPlace) (first : ℕ) (func : Func) (block : BlockIr) → LinesHaveTheirCode places first func block

-- ---- programs

-- the code of a function of a checked program is a prologue that begins its operation, and a stretch for each block
abbrev pub FunctionsHaveTheirCode : Type 0
FunctionsHaveTheirCode =
    (p : Program) (f : ℕ) (func : Func) → IsChecked p → slice_get p.funcs f ≡ Some func → IsCodeOf (symbols_of p) func (function_code p f func)

abbrev pub ProgramItemsCanBeExpanded : Type 0
ProgramItemsCanBeExpanded = (p : Program) → IsChecked p → HasValidNames p → CanBeExpanded (program_items p)

-- where the code fits, the image of a checked program has the shape, and its items stand in it
abbrev pub FittingProgramsAreBuilt : Type 0
FittingProgramsAreBuilt =
    (p : Program) → IsChecked p → HasValidNames p → words_needed (expansion (program_items p)) ≤ code_limit → IsBuiltWhole p (program_items p)

-- ---- words

-- whether they fit into an image or not
abbrev pub ProgramsHaveFewWords : Type 0
ProgramsHaveFewWords = (p : Program) → IsChecked p → words_needed (expansion (program_items p)) ≤ most_words p
