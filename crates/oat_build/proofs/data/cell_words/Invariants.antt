use Rattle.std.proofs.Common.{◌≡◌, ◌+◌, ◌≤◌, ◌++◌, drop, map, ℕ}
use Rattle.std.specs.List.{sum_by}
use Rattle.oat_match.specs.{cell_words, size_in_words}
use Rattle.oat_build.proofs.data.cell_words.Given as goal

abbrev pub invariant-loop-item : goal.invariant-loop-item
invariant-loop-item l = record {
  cells : l.cells.items ++ map (λ (word : ℕ). l.first + word) (cell_words (drop l.item-index l.globals)) ≡ cell_words l.globals;
  few : l.first + sum_by size_in_words (drop l.item-index l.globals) ≤ 65536;
}
