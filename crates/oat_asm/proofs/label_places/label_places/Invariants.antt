use Rattle.std.proofs.Common.{◌≡◌, ◌+◌, ℕ, drop, None}
use Rattle.std.specs.{Ordering.nat_cmp, BTreeMap.get}
use Rattle.oat_asm.specs.Items.{words_needed}
use Rattle.oat_asm.proofs.Seen.{seen}
use Rattle.oat_asm.proofs.label_places.label_places.Given as goal

abbrev pub invariant-loop-item : goal.invariant-loop-item
invariant-loop-item l =
    record {
      words : l.here + words_needed (drop l.item-index l.items) ≡ words_needed l.items;
      labels : (label : ℕ) → seen l.here (drop l.item-index l.items) label (get nat_cmp l.places label) ≡ seen 0 l.items label None;
    }
