use Rattle.std.proofs.Common.{◌≡◌, ◌+◌, ◌++◌, drop}
use Rattle.oat_asm.specs.{Items.words_needed, Layout.notes_of_item, Layout.items_give}
use Rattle.oat_asm.proofs.passes.notes.Given as goal

abbrev pub invariant-loop-item : goal.invariant-loop-item
invariant-loop-item l =
    record {
      words : l.here + words_needed (drop l.item-index l.items) ≡ words_needed l.items;
      whole : l.notes.items ++ items_give (notes_of_item l.base) l.here (drop l.item-index l.items) ≡ items_give (notes_of_item l.base) 0 l.items;
    }
