use Rattle.std.proofs.Common.{◌≡◌, ◌++◌, ◌+◌, ◌≤◌, drop}
use Rattle.std.specs.List.{sum_by}
use Rattle.oat_globals.specs.{size_in_words}
use Rattle.oat_gen.specs.GlobalPlaces.{places_from}
use Rattle.oat_gen.proofs.globals.global_places.Given as goal

abbrev pub invariant-loop-item : goal.invariant-loop-item
invariant-loop-item l =
    record {
      whole : l.places.items ++ places_from l.word l.cell (drop l.item-index l.item-items) ≡ places_from 0 0 l.item-items;
      words : l.word + sum_by size_in_words (drop l.item-index l.item-items) ≡ sum_by size_in_words l.item-items;
      cells : l.cell ≤ l.word;
    }
