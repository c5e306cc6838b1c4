use Rattle.std.proofs.Common.{◌≡◌, ◌∷◌, ◌+◌, drop}
use Rattle.oat_match.specs.{cell_words}
use Rattle.oat_build.proofs.DataLists.{drop_next, cells_step, words_left}
use Rattle.oat_build.proofs.data.cell_words.Goals as goal

pub loop-item-preserved : goal.loop-item-preserved
loop-item-preserved c =
    let items = c.args.globals.now in
    let i = c.loop-item.item-index in
    let first = c.loop-item.first in
    let item = c.item-item.result in
    let split : drop i items ≡ item ∷ drop (i + 1) items = drop_next items i item c.loop-item-test.true c.item-item.is in
    record {
      cells = cells_step items i first c.size_in_cells.result c.size_in_words-first.result item c.loop-item.cells.items c.push_cells.new.cells.items (cell_words items)
          split c.in_ok-push_cells.ensures c.size_in_cells.ensures c.size_in_words-first.ensures c.loop-item.invariant.cells;
      few = words_left items i first c.size_in_words-first.result item split c.size_in_words-first.ensures c.loop-item.invariant.few;
    }
