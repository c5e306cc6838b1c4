-- What one step of the assembler needs: the places of the labels that a map holds, and an item whose words are at hand.
use Rattle.std.specs.{Prelude.◌≡◌, Prelude.ℕ, Prelude.◌≤◌, Prelude.Some, Prelude.if◌then◌else◌, Prelude.unwrap_or, Prelude.List, Prelude.⊤, Ordering.nat_cmp, BTreeMap.BTreeMap, BTreeMap.get}
use Rattle.oat_shape.specs.{IsInRange}
use Rattle.oat_asm.specs.{declared.item.Item.Item, Items.StandsOnce, Items.IsBranch, Items.is_label, Items.label_place, Items.code_limit}
use Rattle.oat_asm.specs.declared.item.Item.TheVariants as item

-- the place that the map has for a label
abbrev pub known_place : BTreeMap ℕ ℕ → ℕ → ℕ
known_place places label = unwrap_or (get nat_cmp places label) 0

-- the map has the place of each label that stands once
abbrev pub HasPlaces : List Item → BTreeMap ℕ ℕ → Type 0
HasPlaces items places = (label : ℕ) → StandsOnce items label → known_place places label ≡ label_place items label

-- the map has this place for the item's label, if it is one, and else what it had
abbrev pub SetsLabel : BTreeMap ℕ ℕ → BTreeMap ℕ ℕ → Item → ℕ → Type 0
SetsLabel old new i here =
    (label : ℕ) → get nat_cmp new label ≡ (if is_label label i then Some here else get nat_cmp old label)

-- what an item's words need, by the place of each label
abbrev pub HasWords : (ℕ → ℕ) → Item → Type 0
HasWords label_place (item.Inst inst) = IsInRange inst
HasWords label_place (item.BranchTo form label) = IsBranch form × (label_place label ≤ code_limit)
HasWords label_place (item.AddressOf register label) = (register ≤ 30) × (label_place label ≤ code_limit)
HasWords label_place _ = ⊤
