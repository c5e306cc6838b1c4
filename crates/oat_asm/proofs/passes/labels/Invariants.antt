use Rattle.std.proofs.Common.{◌≡◌, ◌+◌, ◌++◌, drop}
use Rattle.oat_asm.specs.{Items.words_needed, Layout.labels_of_item, Layout.items_give}
use Rattle.oat_asm.proofs.passes.labels.Given as goal

abbrev pub invariant-loop-item : goal.invariant-loop-item
invariant-loop-item l =
    record {
      words : l.here + words_needed (drop l.item-index l.items) ≡ words_needed l.items;
      whole : l.labels.items ++ items_give (labels_of_item l.base) l.here (drop l.item-index l.items) ≡ items_give (labels_of_item l.base) 0 l.items;
    }
