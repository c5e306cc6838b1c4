-- The code of a program, line by line, with a mark for each row: by where the globals lie and by the label of the function's first block, behind which the others are numbered. Function f has label f. `main` is laid out first, and all other functions in their order.
use Rattle.std.specs.Prelude.{◌+◌, ℕ, Bool, List, [], ◌∷◌, ◌++◌, length, map}
use Rattle.oat_ir.specs.declared.instr.Term.TheVariants.{Jump, Branch, Ret}
use Rattle.oat_globals.specs.{Item, expansion, Program, Func, BlockIr, Instr, Const, Copy, Binary, Load, Store, LoadX, StoreX, RefTo, Call, ICall, Input, Output, Term, Halt, CodeLine, instruction}
use Rattle.oat_globals.specs.{terminator, operation_number, home_of, is_leaf, lines_code, Code.ref_code}
use Rattle.oat_locals.specs.Code.{binary_code, const_code, copy_code, input_code, output_code, halt_code}
use Rattle.oat_symbols.specs.{FunctionCode, Programs.label_of_block, Codes.codes_of, Codes.items_for}
use Rattle.oat_gen.specs.{declared.globals.GlobalPlace.GlobalPlace, GlobalPlaces.global_places, GlobalPlaces.place_in, Marked.marked_start, Marked.marked_return, Marked.marked_call}
use Rattle.oat_gen.specs.{Marked.marked_icall, Marked.marked_jump, Marked.marked_branch, Marked.scalar_load, Marked.scalar_store, Marked.element_load, Marked.element_store}

-- ---- lines

-- of a leaf, or of a function that calls
abbrev pub instruction_code : List GlobalPlace → (leaf : Bool) → Instr → List Item
instruction_code places leaf (Const x value) = const_code (home_of leaf x) value
instruction_code places leaf (Copy x y) = copy_code (home_of leaf x) (home_of leaf y)
instruction_code places leaf (Binary op x y z) = binary_code op (home_of leaf x) (home_of leaf y) (home_of leaf z)
instruction_code places leaf (Load x g) = scalar_load (place_in places g) (home_of leaf x)
instruction_code places leaf (Store g x) = scalar_store (place_in places g) (home_of leaf x)
instruction_code places leaf (LoadX x g i) = element_load (place_in places g) (home_of leaf x) (home_of leaf i)
instruction_code places leaf (StoreX g i x) = element_store (place_in places g) (home_of leaf i) (home_of leaf x)
instruction_code places leaf (RefTo x callee) = ref_code (home_of leaf x) callee
instruction_code places leaf (Call x callee args) = marked_call args callee x
instruction_code places leaf (ICall x y args) = marked_icall args y x
instruction_code places leaf (Input x) = input_code (home_of leaf x)
instruction_code places leaf (Output x) = output_code (home_of leaf x)

abbrev pub terminator_code : (first : ℕ) → Func → Term → List Item
terminator_code first func (Jump to) = marked_jump (first + to)
terminator_code first func (Branch x taken other) = marked_branch (home_of (is_leaf func) x) (first + taken) (first + other)
terminator_code first func (Ret x) = marked_return (length func.locals) (home_of (is_leaf func) x) (operation_number func.role)
terminator_code first func Halt = halt_code

abbrev pub line_code : List GlobalPlace → (first : ℕ) → Func → CodeLine → List Item
line_code places first func (instruction i) = instruction_code places (is_leaf func) i
line_code places first func (terminator t) = terminator_code first func t

-- ---- blocks

abbrev pub code_lines : BlockIr → List CodeLine
code_lines block = map instruction block.instrs ++ terminator block.term ∷ []

abbrev pub block_code : List GlobalPlace → (first : ℕ) → Func → BlockIr → List Item
block_code places first func block = lines_code (map (line_code places first func) (code_lines block))

-- the code of each line, with its rows and their groups
abbrev pub expanded_lines : List GlobalPlace → (first : ℕ) → Func → BlockIr → List (List Item)
expanded_lines places first func block = map (λ line. expansion (line_code places first func line)) (code_lines block)

-- ---- functions, and the program

abbrev pub function_code : Program → ℕ → Func → FunctionCode
function_code p f func = record {
  prologue = marked_start (is_leaf func) func.params (length func.locals) (operation_number func.role);
  blocks = map (block_code (global_places p) (label_of_block p f 0) func) func.blocks;
}

-- the items of the whole program
abbrev pub program_items : Program → List Item
program_items p = items_for p (codes_of (function_code p) p)
