-- The code of each line of a program, with each mark expanded, and of a block: a list of items for each of its lines.
use Rattle.std.specs.{Prelude.ℕ, Prelude.Bool, Prelude.List, Prelude.[], Prelude.◌∷◌, Prelude.◌++◌, Prelude.length, Prelude.map, Prelude.take, Prelude.Option, Prelude.Some, Prelude.None, List.sum_by}
use Rattle.oat_ir.specs.declared.instr.Term.TheVariants.{Jump, Branch, Ret}
use Rattle.oat_globals.specs.{Item, Program, Func, BlockIr, Instr, Const, Copy, Binary, Load, Store, LoadX, StoreX, RefTo, Call, ICall, Input, Output, Term, Halt, size_in_words, length_at}
use Rattle.oat_globals.specs.{cell_number, CodeLine, instruction, terminator, operation_number, call_code, icall_code, home_of, is_leaf, Code.define_at_code, Code.define_code, Code.load_code}
use Rattle.oat_globals.specs.{Code.loadx_code, Code.ref_code, Code.store_code, Code.storex_code, Code.use_at_code, Code.use_code, Operations.leave_code}
use Rattle.oat_locals.specs.Code.{binary_code, branch_code, const_code, copy_code, halt_code, input_code, jump_code, output_code}
use Rattle.oat_symbols.specs.Programs.{label_of_block}

-- the number of the first word of a global
abbrev pub first_word_of : Program → ℕ → ℕ
first_word_of p g = sum_by size_in_words (take g p.globals)

-- a global that is critical has a cell
abbrev pub by_cell : Option ℕ → List Item → (ℕ → List Item) → List Item
by_cell None plain critical = plain
by_cell (Some cell) plain critical = critical cell

-- a function's label is its number; a leaf's locals have other homes
abbrev pub instruction_items : Program → (leaf : Bool) → Instr → List Item
instruction_items p leaf (Const x value) = const_code (home_of leaf x) value
instruction_items p leaf (Copy x y) = copy_code (home_of leaf x) (home_of leaf y)
instruction_items p leaf (Binary op x y z) = binary_code op (home_of leaf x) (home_of leaf y) (home_of leaf z)
instruction_items p leaf (Load x g) = by_cell (cell_number p g 0) (load_code (home_of leaf x) (first_word_of p g)) (λ cell. use_code (home_of leaf x) (first_word_of p g) cell)
instruction_items p leaf (Store g x) = by_cell (cell_number p g 0) (store_code (first_word_of p g) (home_of leaf x)) (λ cell. define_code (first_word_of p g) cell (home_of leaf x))
instruction_items p leaf (LoadX x g i) =
    by_cell (cell_number p g 0) (loadx_code (home_of leaf x) (first_word_of p g) (length_at p g) (home_of leaf i))
    (λ cell. use_at_code (home_of leaf x) (first_word_of p g) cell (length_at p g) (home_of leaf i))
instruction_items p leaf (StoreX g i x) =
    by_cell (cell_number p g 0) (storex_code (first_word_of p g) (length_at p g) (home_of leaf i) (home_of leaf x))
    (λ cell. define_at_code (first_word_of p g) cell (length_at p g) (home_of leaf i) (home_of leaf x))
instruction_items p leaf (RefTo x g) = ref_code (home_of leaf x) g
instruction_items p leaf (Call x g args) = call_code args g x
instruction_items p leaf (ICall x y args) = icall_code args y x
instruction_items p leaf (Input x) = input_code (home_of leaf x)
instruction_items p leaf (Output x) = output_code (home_of leaf x)

-- of function f
abbrev pub terminator_items : Program → ℕ → Func → (leaf : Bool) → Term → List Item
terminator_items p f func leaf (Jump to) = jump_code (label_of_block p f to)
terminator_items p f func leaf (Branch x first second) = branch_code (home_of leaf x) (label_of_block p f first) (label_of_block p f second)
terminator_items p f func leaf (Ret x) = leave_code (length func.locals) (home_of leaf x) (operation_number func.role)
terminator_items p f func leaf Halt = halt_code

abbrev pub line_items : Program → ℕ → Func → (leaf : Bool) → CodeLine → List Item
line_items p f func leaf (instruction i) = instruction_items p leaf i
line_items p f func leaf (terminator t) = terminator_items p f func leaf t

-- line by line
abbrev pub block_items : Program → ℕ → Func → BlockIr → List (List Item)
block_items p f func block = map (instruction_items p (is_leaf func)) block.instrs ++ terminator_items p f func (is_leaf func) block.term ∷ []
