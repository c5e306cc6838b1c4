use Rattle.std.proofs.Common.{◌≡◌, ◌≤◌, take, length}
use Rattle.std.specs.Prelude.{vec_len, vec_capacity}
use Rattle.oat_journal.specs.Run.{start_memory}
use Rattle.oat_device.proofs.Starting.{words_of}
use Rattle.oat_device.proofs.start.start_cells.Given as goal

-- the cells so far have their words, and there is room for the others
abbrev pub invariant-loop-index : goal.invariant-loop-index
invariant-loop-index l =
    (l.cells.items ≡ words_of (start_memory l.image.words) (take l.index-index l.index-items))
    × (vec_len l.cells ≡ l.index-index) × (length l.index-items ≤ vec_capacity l.cells)
