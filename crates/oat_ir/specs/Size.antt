-- How many things a program is made of (docs/FORMATS.md, "Program text"): globals, functions, locals, blocks,
-- instructions and terminators.
use Rattle.std.specs.{Prelude.ℕ, Prelude.◌≡◌, Prelude.◌+◌, Prelude.◌*◌, Prelude.◌<◌, Prelude.length, Prelude.Option, Prelude.Some, Prelude.None, List.sum_by}
use Rattle.oat_ir.specs.{declared.program.Program.Program, declared.func.Func.Func, declared.func.BlockIr.BlockIr}

-- the block itself, its terminator, and its instructions
abbrev pub block_size : BlockIr → ℕ
block_size block = 2 + length block.instrs

abbrev pub func_size : Func → ℕ
func_size func = 1 + length func.locals + sum_by block_size func.blocks

abbrev pub program_size : Program → ℕ
program_size program = length program.globals + sum_by func_size program.funcs

-- how many instructions and terminators a program has
abbrev pub line_total : Program → ℕ
line_total program = sum_by (λ func. sum_by (λ block. length block.instrs + 1) func.blocks) program.funcs

-- how many words the code of a program has at most: 32 for each of these, and 300 for each function
abbrev pub most_words : Program → ℕ
most_words program = 32 * line_total program + 300 * length program.funcs

-- what is left of some room behind n things; None where there is too little of it
abbrev pub Leaves : ℕ → ℕ → Option ℕ → Type 0
Leaves room n None = room < n
Leaves room n (Some left) = left + n ≡ room
