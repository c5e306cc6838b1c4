-- What stands at the address of an item, and what is listed.
use Rattle.std.proofs.Common.{◌≡◌, ℕ, zero, suc, ◌+◌, ◌-◌, ◌/◌, ◌%◌, ◌^◌, ◌≤◌, List, [], ◌∷◌, ◌++◌, length, refl, sym, ap, ◌∙◌, subst, Bool, true, false, cond, Some, eq-eqb, arith, inl, inr}
use Rattle.std.specs.{Prelude.slice_get, Prelude.nat_eq, Prelude.nat_le, Prelude.nat_lt, Prelude.Contains, List.count_by, List.position_or_len, Option.option_and_then}
use Rattle.std.proofs.lemmas.{Bool.ltb-true, Bool.ltb-false, Bool.le-leb, List.Elements.Contains-push, List.Elements.Contains-push_cases}
use Rattle.oat_shape.specs.{Inst, Movz, Movk, IsInRange, word_of, inst_of, FetchesByTheTable, code_base, instruction_at, branch_target, Groups.Stands, Groups.Branches}
use Rattle.oat_asm.specs.{declared.branch_form.BranchForm.BranchForm, declared.item.Item.Item, declared.note.Note.Note, declared.assembled.LabelAt.LabelAt, declared.assembled.NoteAt.NoteAt}
use Rattle.oat_asm.specs.{Items.item_words, Items.words_needed, Items.place, Items.label_place, Items.address, Items.code_limit, Items.is_label, Items.StandsOnce, Items.IsBranch, Layout.branch}
use Rattle.oat_asm.specs.{Layout.distance, Layout.words_of_item, Layout.labels_of_item, Layout.notes_of_item, Layout.items_give, Laws.code_of, Laws.item_address, Laws.ItemsFollowOneAnother}
use Rattle.oat_asm.specs.{Laws.PlacesRise, Laws.LayoutsAreOfTwo, Laws.LabelsHaveThePlacesOfTheirItems, Laws.LabelsStandBehindOthers, Laws.WordsStandAtTheirPlaces, Laws.BranchesReachPlaces}
use Rattle.oat_asm.specs.{Laws.InstructionsStandAtTheirAddresses, Laws.BranchesLeadToTheirLabels, Laws.AddressesArePut, Laws.LabelsAreListed, Laws.NotesAreListed, Laws.NotesAreInOrder}
use Rattle.oat_asm.proofs.{Giving.before_next, Giving.before_grows, Giving.before_within, Giving.gives-append, Giving.GivenBy, Giving.given_by, Giving.gives_at, Giving.reads_at, Ranges.ahead}
use Rattle.oat_asm.proofs.{Ranges.behind, Ranges.branch_in_range, Seen.count_cons, Seen.place_of_cons}
use Rattle.oat_asm.specs.declared.item.Item.TheVariants as item

-- ---- places

pub follow : ItemsFollowOneAnother
follow items k i at =
    let e : k + 1 ≡ suc k = omega arith in
    ap (place items) e ∙ before_next item_words items k i at

pub rise : PlacesRise
rise items j k less = (before_grows item_words items j k less, before_within item_words items k)

pub of_two : LayoutsAreOfTwo
of_two label_place base =
    (gives-append item_words (words_of_item label_place base), gives-append item_words (labels_of_item base), gives-append item_words (notes_of_item base))

-- ---- the place of a label

pub counted : (items : List Item) (k : ℕ) (label : ℕ) → slice_get items k ≡ Some (item.Label label) → 1 ≤ count_by (is_label label) items
counted [] k label h = absurd cc
counted (i ∷ items) zero label h =
    let e : i ≡ item.Label label = cc in
    let test : is_label label i ≡ true = ap (is_label label) e ∙ eq-eqb label label refl in
    let c = ap (λ b. cond b 1 0 + count_by (is_label label) items) test in
    omega (arith, count_cons label i items, c)
counted (i ∷ items) (suc k) label h = omega (arith, count_cons label i items, counted items k label h)

later_place : (i : Item) (items : List Item) (k label : ℕ) (b : Bool) → is_label label i ≡ b → cond b 1 0 + count_by (is_label label) items ≡ 1 → 1 ≤ count_by (is_label label) items → (StandsOnce items label → label_place items label ≡ place items k) → label_place (i ∷ items) label ≡ item_words i + place items k
later_place i items k label true e once more rest = absurd (omega arith)
later_place i items k label false e once more rest =
    place_of_cons i items label false e ∙ ap (λ n. item_words i + n) (rest (omega arith))

pub label_placed : LabelsHaveThePlacesOfTheirItems
label_placed [] k label once h = absurd cc
label_placed (i ∷ items) zero label once h =
    let e : i ≡ item.Label label = cc in
    place_of_cons i items label true (ap (is_label label) e ∙ eq-eqb label label refl)
label_placed (i ∷ items) (suc k) label once h =
    later_place i items k label (is_label label i) refl (sym (count_cons label i items) ∙ once) (counted items k label h) (λ o. label_placed items k label o h)

skipped_by : (x : Item) (xs ys : List Item) (label : ℕ) (b : Bool) → is_label label x ≡ b → cond b 1 0 + count_by (is_label label) xs ≡ 0
    → (count_by (is_label label) xs ≡ 0 → label_place (xs ++ ys) label ≡ words_needed xs + label_place ys label)
    → label_place (x ∷ (xs ++ ys)) label ≡ words_needed (x ∷ xs) + label_place ys label
skipped_by x xs ys label true e none rest = absurd (omega arith)
skipped_by x xs ys label false e none rest =
    let later = rest (omega arith) in
    omega (arith, place_of_cons x (xs ++ ys) label false e, later)

pub skipped : LabelsStandBehindOthers
skipped [] ys label none = omega arith
skipped (x ∷ xs) ys label none =
    skipped_by x xs ys label (is_label label x) refl (sym (count_cons label x xs) ∙ none) (λ h. skipped xs ys label h)

-- ---- words, and the instructions that they encode

pub words_are_counted : (label_place : ℕ → ℕ) (base here : ℕ) (i : Item) → length (words_of_item label_place base here i) ≡ item_words i
words_are_counted label_place base here (item.Inst i) = refl
words_are_counted label_place base here (item.BranchTo form label) = refl
words_are_counted label_place base here (item.AddressOf register label) = refl
words_are_counted label_place base here _ = refl

pub word_at_place : WordsStandAtTheirPlaces
word_at_place code p =
    let whole : nat_eq (address code_base p % 4) 0 ≡ true = eq-eqb (address code_base p % 4) 0 (omega arith) in
    let above : nat_le code_base (address code_base p) ≡ true = le-leb code_base (address code_base p) (omega arith) in
    let index : (address code_base p - code_base) / 4 ≡ p = omega arith in
    rw (whole, above, index) refl

stands : FetchesByTheTable → (code : List ℕ) (p : ℕ) (i : Inst) → IsInRange i → slice_get code p ≡ Some (word_of i) → instruction_at code (address code_base p) ≡ Some i
stands fetches code p i range at =
    ap (option_and_then inst_of) (word_at_place code p ∙ at) ∙ (fetches i (word_of i)).1 (range, refl)

-- the r-th instruction of item k
stands_in : FetchesByTheTable → (items : List Item) (k r : ℕ) (i : Item) (x : Inst) → IsInRange x → slice_get items k ≡ Some i → slice_get (words_of_item (label_place items) code_base (place items k) i) r ≡ Some (word_of x) → instruction_at (code_of items) (address code_base (place items k + r)) ≡ Some x
stands_in fetches items k r i x range at has =
    stands fetches (code_of items) (place items k + r) x range
    (reads_at item_words (words_of_item (label_place items) code_base) (words_are_counted (label_place items) code_base) 0 items k i (place items k) r (place items k + r) (word_of x) at (omega arith) refl has)

first_place : (items : List Item) (k : ℕ) → address code_base (place items k + 0) ≡ item_address items k
first_place items k = omega arith

second_place : (items : List Item) (k : ℕ) → address code_base (place items k + 1) ≡ item_address items k + 4
second_place items k = omega arith

pub instructions_stand : FetchesByTheTable → InstructionsStandAtTheirAddresses
instructions_stand fetches items k inst range at =
    subst (λ a. instruction_at (code_of items) a ≡ Some inst) (first_place items k) (stands_in fetches items k 0 (item.Inst inst) inst range at refl)

leads_by : (from to : ℕ) (b : Bool) → nat_lt to from ≡ b → from ≤ code_limit → to ≤ code_limit → branch_target (address code_base from) (distance from to) ≡ address code_base to
leads_by from to true e f t =
    let less = ltb-true to from e in
    rw (behind from to less) (omega arith)
leads_by from to false e f t =
    let most = ltb-false to from e in
    rw (ahead from to most) (omega arith)

pub branches_reach : BranchesReachPlaces
branches_reach form from to is_branch f t =
    (branch_in_range form from to is_branch f t, leads_by from to (nat_lt to from) refl f t)

-- a branch leads to the place of its label, wherever that is
pub branch_stands : FetchesByTheTable → (items : List Item) (k : ℕ) (form : BranchForm) (label : ℕ) → IsBranch form → words_needed items ≤ code_limit
    → slice_get items k ≡ Some (item.BranchTo form label) → Branches (code_of items) (item_address items k) (branch form) (address code_base (label_place items label))
branch_stands fetches items k form label is_branch small at =
    let from = place items k in
    let to = label_place items label in
    let offset = distance from to in
    let reach = branches_reach form from to is_branch (omega (arith, before_within item_words items k)) (omega (arith, before_within item_words items (position_or_len (is_label label) items))) in
    let here = stands_in fetches items k 0 (item.BranchTo form label) (branch form offset) reach.0 at refl in
    (offset, subst (λ a. instruction_at (code_of items) a ≡ Some (branch form offset)) (first_place items k) here, reach.1)

pub branches_lead : FetchesByTheTable → BranchesLeadToTheirLabels
branches_lead fetches items k j form label is_branch once small at labelled =
    subst (λ to. Branches (code_of items) (item_address items k) (branch form) (address code_base to)) (label_placed items j label once labelled)
    (branch_stands fetches items k form label is_branch small at)

abbrev Puts : List Item → ℕ → ℕ → ℕ → Type 0
Puts items at register to =
    Stands (code_of items) at (Movz register 0 (to % 2 ^ 16)) × Stands (code_of items) (at + 4) (Movk register 1 (to / 2 ^ 16))

pub low_in_range : (register to : ℕ) → register ≤ 30 → IsInRange (Movz register 0 (to % 2 ^ 16))
low_in_range register to few = (omega arith, (omega arith, (omega arith, tt)))

pub high_in_range : (register place : ℕ) → register ≤ 30 → place ≤ code_limit → IsInRange (Movk register 1 (address code_base place / 2 ^ 16))
high_in_range register place few small = (omega arith, (omega arith, (omega arith, tt)))

-- the address of a label's place is put, wherever that is
pub address_stands : FetchesByTheTable → (items : List Item) (k register label : ℕ) → register ≤ 30 → words_needed items ≤ code_limit
    → slice_get items k ≡ Some (item.AddressOf register label) → Puts items (item_address items k) register (address code_base (label_place items label))
address_stands fetches items k register label few small at =
    let to = address code_base (label_place items label) in
    let low_range = low_in_range register to few in
    let high_range = high_in_range register (label_place items label) few (omega (arith, before_within item_words items (position_or_len (is_label label) items))) in
    let low = stands_in fetches items k 0 (item.AddressOf register label) (Movz register 0 (to % 2 ^ 16)) low_range at refl in
    let high = stands_in fetches items k 1 (item.AddressOf register label) (Movk register 1 (to / 2 ^ 16)) high_range at refl in
    (subst (λ a. instruction_at (code_of items) a ≡ Some (Movz register 0 (to % 2 ^ 16))) (first_place items k) low, subst (λ a. instruction_at (code_of items) a ≡ Some (Movk register 1 (to / 2 ^ 16))) (second_place items k) high)

pub addresses_put : FetchesByTheTable → AddressesArePut
addresses_put fetches items k j register label few once small at labelled =
    subst (λ to. Puts items (item_address items k) register (address code_base to)) (label_placed items j label once labelled)
    (address_stands fetches items k register label few small at)

-- ---- what is listed

abbrev label_at : ℕ → ℕ → LabelAt
label_at label at = record { label = label; at = at }

abbrev note_at : Note → ℕ → NoteAt
note_at note at = record { note = note; at = at }

own_label : (base here : ℕ) (i : Item) (l : LabelAt) → Contains (labels_of_item base here i) l → (i ≡ item.Label l.label) × (l.at ≡ address base here)
own_label base here (item.Label n) l has =
    elim (Contains-push_cases [] (label_at n (address base here)) l has) [
      | inl none ↦ absurd (omega (arith, none.1))
      | inr same ↦ (ap (λ (x : LabelAt). item.Label x.label) same, sym (ap (λ (x : LabelAt). x.at) same))
    ]
own_label base here _ l has = absurd (omega (arith, has.1))

own_note : (base here : ℕ) (i : Item) (n : NoteAt) → Contains (notes_of_item base here i) n → (i ≡ item.Note n.note) × (n.at ≡ address base here)
own_note base here (item.Note note) n has =
    elim (Contains-push_cases [] (note_at note (address base here)) n has) [
      | inl none ↦ absurd (omega (arith, none.1))
      | inr same ↦ (ap (λ (x : NoteAt). item.Note x.note) same, sym (ap (λ (x : NoteAt). x.at) same))
    ]
own_note base here _ n has = absurd (omega (arith, has.1))

pub labels_listed : LabelsAreListed
labels_listed items base label at = (
  λ has.
      let f : GivenBy item_words (labels_of_item base) 0 items (label_at label at) = given_by item_words (labels_of_item base) 0 items (label_at label at) has in
      let own = own_label base f.there f.thing (label_at label at) f.has in
      let there = f.is in
      let placed = own.1 in
      (f.k, f.at ∙ ap Some own.0, omega arith),
  λ listed.
      gives_at item_words (labels_of_item base) 0 items listed.0 (item.Label label) (place items listed.0) (label_at label at) listed.1 (omega arith)
      (subst (λ a. Contains (label_at label a ∷ []) (label_at label at)) listed.2 (Contains-push [] (label_at label at))),
)

pub notes_listed : NotesAreListed
notes_listed items base at note = (
  λ has.
      let f : GivenBy item_words (notes_of_item base) 0 items (note_at note at) = given_by item_words (notes_of_item base) 0 items (note_at note at) has in
      let own = own_note base f.there f.thing (note_at note at) f.has in
      let there = f.is in
      let placed = own.1 in
      (f.k, f.at ∙ ap Some own.0, omega arith),
  λ listed.
      gives_at item_words (notes_of_item base) 0 items listed.0 (item.Note note) (place items listed.0) (note_at note at) listed.1 (omega arith)
      (subst (λ a. Contains (note_at note a ∷ []) (note_at note at)) listed.2 (Contains-push [] (note_at note at))),
)

-- notes from a place on stand at or behind it
beyond : (base here : ℕ) (items : List Item) (k : ℕ) (n : NoteAt) → slice_get (items_give (notes_of_item base) here items) k ≡ Some n → address base here ≤ n.at
beyond base here [] k n at = absurd cc
beyond base here (item.Note note ∷ items) zero n at =
    let same : note_at note (address base here) ≡ n = cc in
    let e = ap (λ (x : NoteAt). x.at) same in
    omega (arith, e)
beyond base here (item.Note note ∷ items) (suc k) n at = omega (arith, beyond base (here + 0) items k n at)
beyond base here (i ∷ items) k n at = omega (arith, beyond base (here + item_words i) items k n at)

in_order : (base here : ℕ) (items : List Item) (j k : ℕ) (one other : NoteAt) → j ≤ k
    → slice_get (items_give (notes_of_item base) here items) j ≡ Some one → slice_get (items_give (notes_of_item base) here items) k ≡ Some other → one.at ≤ other.at
in_order base here [] j k one other less first second = absurd cc
in_order base here (item.Note note ∷ items) zero k one other less first second =
    let same : note_at note (address base here) ≡ one = cc in
    let e = ap (λ (x : NoteAt). x.at) same in
    omega (arith, e, beyond base here (item.Note note ∷ items) k other second)
in_order base here (item.Note note ∷ items) (suc j) zero one other less first second = absurd (omega arith)
in_order base here (item.Note note ∷ items) (suc j) (suc k) one other less first second =
    in_order base (here + 0) items j k one other (omega arith) first second
in_order base here (i ∷ items) j k one other less first second =
    in_order base (here + item_words i) items j k one other less first second

pub notes_in_order : NotesAreInOrder
notes_in_order items base j k one other less first second =
    in_order base 0 items j k one other less first second
