use Rattle.std.proofs.Common.{◌≡◌, ◌+◌, ◌++◌, drop}
use Rattle.oat_asm.specs.{Items.words_needed, Items.label_place, Layout.words_of_item, Layout.items_give}
use Rattle.oat_asm.proofs.words.code.Given as goal

abbrev pub invariant-loop-item : goal.invariant-loop-item
invariant-loop-item l =
    record {
      words : l.here + words_needed (drop l.item-index l.items) ≡ words_needed l.items;
      whole : l.code.items ++ items_give (words_of_item (label_place l.items) l.base) l.here (drop l.item-index l.items) ≡ items_give (words_of_item (label_place l.items) l.base) 0 l.items;
    }
