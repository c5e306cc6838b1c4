-- The words of an item, by the places that a map has for the labels.
use Rattle.std.proofs.Common.{◌≡◌, ℕ, ◌≤◌, List, [], ◌∷◌, refl, ap, map, arith}
use Rattle.std.specs.{Prelude.Contains, BTreeMap.BTreeMap, List.position_or_len}
use Rattle.oat_shape.specs.{word_of}
use Rattle.oat_asm.specs.{declared.item.Item.Item, Items.item_words, Items.words_needed, Items.label_place, Items.address, Items.code_limit, Items.is_label, Items.StandsOnce}
use Rattle.oat_asm.specs.{Items.UsedLabelsStandOnce, Items.InstructionsAreInRange, Items.BranchesAreInRange, Items.AddressesHaveRegisters, Layout.branch, Layout.distance, Layout.puts}
use Rattle.oat_asm.specs.{Layout.words_of_item, Steps.known_place, Steps.HasPlaces, Steps.HasWords}
use Rattle.oat_asm.proofs.Giving.{before_within}
use Rattle.oat_asm.specs.declared.item.Item.TheVariants as item

within : (items : List Item) (places : BTreeMap ℕ ℕ) (label : ℕ) → words_needed items ≤ code_limit → HasPlaces items places → StandsOnce items label → known_place places label ≤ code_limit
within items places label small has once =
    omega (arith, has label once, before_within item_words items (position_or_len (is_label label) items))

pub has_words : (items : List Item) (places : BTreeMap ℕ ℕ) → UsedLabelsStandOnce items → InstructionsAreInRange items → BranchesAreInRange items → AddressesHaveRegisters items → words_needed items ≤ code_limit → HasPlaces items places → (i : Item) → Contains items i → HasWords (known_place places) i
has_words items places once insts branches registers small has (item.Inst inst) here = insts inst here
has_words items places once insts branches registers small has (item.BranchTo form label) here =
    (branches form label here, within items places label small has (once.branches form label here))
has_words items places once insts branches registers small has (item.AddressOf register label) here =
    (registers register label here, within items places label small has (once.addresses register label here))
has_words items places once insts branches registers small has _ here = tt

pub same_words : (items : List Item) (places : BTreeMap ℕ ℕ) (base here : ℕ) → UsedLabelsStandOnce items → HasPlaces items places → (i : Item) → Contains items i → words_of_item (known_place places) base here i ≡ words_of_item (label_place items) base here i
same_words items places base here once has (item.BranchTo form label) among =
    ap (λ to. word_of (branch form (distance here to)) ∷ []) (has label (once.branches form label among))
same_words items places base here once has (item.AddressOf register label) among =
    ap (λ to. map word_of (puts register (address base to))) (has label (once.addresses register label among))
same_words items places base here once has (item.Inst inst) among = refl
same_words items places base here once has _ among = refl
