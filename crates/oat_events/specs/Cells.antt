-- Cells, which hold the words of critical data.
use Rattle.std.specs.Prelude.{ℕ, ◌&&◌, nat_eq, if◌then◌else◌, Option, Some, is_some}

-- what a cell holds; None where no cell has the number
abbrev pub Cells : Type 0
Cells = ℕ → Option ℕ

-- the cells behind a define; a number that is no cell changes nothing
abbrev pub defined : Cells → ℕ → ℕ → Cells
defined cells cell value = λ j. if nat_eq j cell && is_some (cells j) then Some value else cells j
