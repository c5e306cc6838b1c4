-- The globals of a program: their words and cells, and what they hold at the start (docs/FORMATS.md, "Program text"). A scalar has one element, of number 0.
use Rattle.std.specs.{Prelude.ℕ, Prelude.suc, Prelude.◌+◌, Prelude.◌-◌, Prelude.nat_lt, Prelude.nat_eq, Prelude.◌&&◌, Prelude.if◌then◌else◌, Prelude.List, Prelude.[], Prelude.◌∷◌, Prelude.◌++◌}
use Rattle.std.specs.{Prelude.map, Prelude.take, Prelude.slice_get, Prelude.Option, Prelude.Some, Prelude.None, List.sum_by, List.range_with_len}
use Rattle.oat_events.specs.Cells.{Cells}
use Rattle.oat_ir.specs.{declared.program.Program.Program, declared.program.GlobalItem.GlobalItem, declared.program.GlobalItem.TheVariants.Scalar, declared.program.GlobalItem.TheVariants.FnScalar}
use Rattle.oat_ir.specs.{declared.program.GlobalItem.TheVariants.Array, declared.program.GlobalItem.TheVariants.CriticalArray}
use Rattle.oat_check.specs.Operators.{number}

-- how many words a global takes
abbrev pub size_in_words : GlobalItem → ℕ
size_in_words (Scalar name start critical) = 1
size_in_words (FnScalar name params) = 1
size_in_words (Array name len) = len
size_in_words (CriticalArray name len) = len

-- and how many cells: each element of what is critical is one
abbrev pub size_in_cells : GlobalItem → ℕ
size_in_cells (Scalar name start critical) = if critical then 1 else 0
size_in_cells (FnScalar name params) = 0
size_in_cells (Array name len) = 0
size_in_cells (CriticalArray name len) = len

-- what each of its elements is at the start
abbrev pub start_of : GlobalItem → ℕ
start_of (Scalar name start critical) = number start
start_of _ = 0

-- a number of a global; 0 where there is none
abbrev pub of_global : (GlobalItem → ℕ) → Option GlobalItem → ℕ
of_global size (Some item) = size item
of_global size None = 0

abbrev pub length_at : Program → ℕ → ℕ
length_at p g = of_global size_in_words (slice_get p.globals g)

-- The number of element i of global g, by a size, where it has that many elements: elements are numbered in order of declaration.
abbrev pub element_number : (GlobalItem → ℕ) → List GlobalItem → ℕ → ℕ → Option ℕ
element_number size items g i = if nat_lt i (of_global size (slice_get items g)) then Some (sum_by size (take g items) + i) else None

abbrev pub word_number : Program → ℕ → ℕ → Option ℕ
word_number p g i = element_number size_in_words p.globals g i

abbrev pub cell_number : Program → ℕ → ℕ → Option ℕ
cell_number p g i = element_number size_in_cells p.globals g i

-- the numbers of the words of the cells, in order of the cells
abbrev pub cell_words : List GlobalItem → List ℕ
cell_words [] = []
cell_words (item ∷ items) = range_with_len 0 (size_in_cells item) ++ map (λ word. size_in_words item + word) (cell_words items)

-- ---- values: what element i of global g holds

abbrev pub Values : Type 0
Values = ℕ → ℕ → ℕ

abbrev pub first_values : Program → Values
first_values p = λ g i. of_global start_of (slice_get p.globals g)

abbrev pub put : Values → ℕ → ℕ → ℕ → Values
put values g i value = λ h j. if nat_eq h g && nat_eq j i then value else values h j

-- what the elements of these globals hold, by their numbers
abbrev pub element_values : (GlobalItem → ℕ) → List GlobalItem → Values → ℕ → Option ℕ
element_values size [] values n = None
element_values size (item ∷ items) values n =
    if nat_lt n (size item) then Some (values 0 n) else element_values size items (λ g. values (suc g)) (n - size item)

abbrev pub word_values : List GlobalItem → Values → ℕ → Option ℕ
word_values = element_values size_in_words

abbrev pub cell_values : List GlobalItem → Values → Cells
cell_values = element_values size_in_cells
