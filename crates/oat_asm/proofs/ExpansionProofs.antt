-- What holds of each item of an expansion: one table says what each mark's group has, and all else follows.
use Rattle.std.proofs.Common.{◌≡◌, ℕ, ◌/◌, ◌%◌, ◌^◌, ◌<◌, ◌≤◌, Bool, false, List, [], ◌∷◌, ◌++◌, refl, ap, ◌∙◌, inl, inr, cond, arith}
use Rattle.std.specs.{Prelude.Contains, Prelude.⊤, Prelude.pos, Prelude.map, List.count_by, List.AllByRecursion}
use Rattle.std.proofs.lemmas.{List.Elements.Contains-append_cases, List.Elements.Contains-append_right, List.Elements.Contains-append_left, List.Elements.All-contains}
use Rattle.std.proofs.lemmas.{List.Elements.All-from_recursion, List.Sums.sum_by-append}
use Rattle.oat_shape.specs.{global_address, AddReg, SubsReg, Movz, Movk, LdrReg, StrReg, BCond, Svc, Brk, IsInRange}
use Rattle.oat_asm.specs.{declared.mark.Mark.Mark, declared.mark.Mark.TheVariants.Jump, declared.mark.Mark.TheVariants.Branch, declared.mark.Mark.TheVariants.Call}
use Rattle.oat_asm.specs.{declared.mark.Mark.TheVariants.ICall, declared.mark.Mark.TheVariants.Ret, declared.mark.Mark.TheVariants.Begin, declared.mark.Mark.TheVariants.End}
use Rattle.oat_asm.specs.{declared.mark.Mark.TheVariants.UseCell, declared.mark.Mark.TheVariants.DefCell, declared.mark.Mark.TheVariants.UseAt, declared.mark.Mark.TheVariants.DefAt}
use Rattle.oat_asm.specs.{declared.item.Item.Item, Items.is_label, Items.StandsOnce, Items.IsBranch, Items.UsedLabelsStandOnce, Items.InstructionsAreInRange, Items.BranchesAreInRange}
use Rattle.oat_asm.specs.{Items.AddressesHaveRegisters, Layout.puts, Expansion.note_of, Expansion.element_test, Expansion.group, Expansion.expanded, Expansion.expansion}
use Rattle.oat_asm.specs.{NoteRows.GroupsHaveTheWordsOfTheirRows, ExpansionLaws.IsMark, ExpansionLaws.MarksAreInRange, ExpansionLaws.LeadsTo, ExpansionLaws.MarkedLabelsStandOnce}
use Rattle.oat_asm.specs.{ExpansionLaws.ExpansionLeavesNoMark, ExpansionLaws.ExpansionKeepsLabels, ExpansionLaws.ExpansionUsesLabelsThatStandOnce, ExpansionLaws.ExpansionStaysInRange}
use Rattle.oat_asm.proofs.Seen.{count_cons}
use Rattle.oat_asm.specs.declared.item.Item.TheVariants as item

first_of : {A : Type 0} (x : A) (xs : List A) → Contains (x ∷ xs) x
first_of x xs = Contains-append_left (x ∷ []) xs x (0, omega arith, refl)

-- what holds of the items that each item becomes holds of those of the expansion
in_expansion : (P : Item → Type 0) (items : List Item) → ((i : Item) → Contains items i → AllByRecursion P (expanded i)) → (x : Item) → Contains (expansion items) x → P x
in_expansion P [] each x has = absurd (omega (arith, has.1))
in_expansion P (i ∷ items) each x has =
    elim (Contains-append_cases (expanded i) (expansion items) x has) [
      | inl here ↦ All-contains P (expanded i) x (All-from_recursion P (expanded i) (each i (first_of i items))) here
      | inr later ↦ in_expansion P items (λ j among. each j (Contains-append_right (i ∷ []) items j among)) x later
    ]

-- ---- the group of each mark

service : (n : ℕ) → n < 2 ^ 16 → IsInRange (Svc n)
service n h = (h, tt)

number : (n : ℕ) → n < 2 ^ 16 → IsInRange (Movz 9 0 n)
number n h = (omega arith, (omega arith, (h, tt)))

length_move : (n : ℕ) → n < 2 ^ 16 → IsInRange (Movz 11 0 n)
length_move n h = (omega arith, (omega arith, (h, tt)))

comparison : IsInRange (SubsReg 31 12 11)
comparison = (omega arith, (omega arith, (omega arith, tt)))

skip : IsInRange (BCond 3 (pos 2))
skip = (refl, (omega arith, tt))

trap : IsInRange (Brk 2)
trap = (omega arith, tt)

cell_sum : IsInRange (AddReg 9 9 12 0)
cell_sum = (omega arith, (omega arith, (omega arith, (omega arith, tt))))

low : (index : ℕ) → IsInRange (Movz 11 0 (global_address index % 2 ^ 16))
low index = (omega arith, (omega arith, (omega arith, tt)))

high : (index : ℕ) → index < 65536 → IsInRange (Movk 11 1 (global_address index / 2 ^ 16))
high index h = (omega arith, (omega arith, (omega arith, tt)))

-- an instruction in range, or a branch to a label to which the row leads
abbrev IsOfGroup : Mark → Item → Type 0
IsOfGroup m (item.Inst i) = IsMark m → IsInRange i
IsOfGroup m (item.BranchTo form label) = IsBranch form × LeadsTo m label
IsOfGroup m _ = ⊥

-- the test of an element's number, and two moves of an address, before the rest of a group
tested : (m : Mark) (len index : ℕ) (rest : List Item) → (IsMark m → len < 2 ^ 16) → (IsMark m → index < 65536) → AllByRecursion (IsOfGroup m) rest
    → AllByRecursion (IsOfGroup m) (element_test len ++ map item.Inst (puts 11 (global_address index)) ++ rest)
tested m len index rest short within all =
    (λ h. length_move len (short h), (λ h. comparison, (λ h. skip, (λ h. trap, (λ h. low index, (λ h. high index (within h), all))))))

of_group : (m : Mark) → AllByRecursion (IsOfGroup m) (group m)
of_group (Jump to) = ((tt, refl), tt)
of_group (Branch taken other) = (λ h. service 3 (omega arith), ((omega arith, inl refl), ((tt, inr refl), tt)))
of_group (Call to) = ((tt, refl), tt)
of_group (ICall params) = (λ h. service 4 (omega arith), (λ h. (omega arith, tt), tt))
of_group Ret = (λ h. service 5 (omega arith), (λ h. (omega arith, tt), tt))
of_group (Begin op) = (λ h. number op h, (λ h. service 1 (omega arith), tt))
of_group (End op) = (λ h. number op h, (λ h. service 2 (omega arith), tt))
of_group (UseCell cell index) =
    (λ h. low index, (λ h. high index h.1, (λ h. (omega arith, (omega arith, (omega arith, tt))), (λ h. number cell h.0, (λ h. service 7 (omega arith), tt)))))
of_group (DefCell cell index) =
    (λ h. low index, (λ h. high index h.1, (λ h. number cell h.0, (λ h. (omega arith, (omega arith, (omega arith, tt))), (λ h. service 6 (omega arith), tt)))))
of_group (UseAt cell len index) =
    tested (UseAt cell len index) len index
    (item.Inst (LdrReg 10 11 12) ∷ item.Inst (Movz 9 0 cell) ∷ item.Inst (AddReg 9 9 12 0) ∷ item.Inst (Svc 7) ∷ []) (λ h. h.1) (λ h. h.2)
    (λ h. (omega arith, (omega arith, (omega arith, tt))), (λ h. number cell h.0, (λ h. cell_sum, (λ h. service 7 (omega arith), tt))))
of_group (DefAt cell len index) =
    tested (DefAt cell len index) len index
    (item.Inst (Movz 9 0 cell) ∷ item.Inst (AddReg 9 9 12 0) ∷ item.Inst (StrReg 10 11 12) ∷ item.Inst (Svc 6) ∷ []) (λ h. h.1) (λ h. h.2)
    (λ h. number cell h.0, (λ h. cell_sum, (λ h. (omega arith, (omega arith, (omega arith, tt))), (λ h. service 6 (omega arith), tt))))

all_so : (P Q : Item → Type 0) → ((i : Item) → P i → Q i) → (items : List Item) → AllByRecursion P items → AllByRecursion Q items
all_so P Q so [] all = tt
all_so P Q so (i ∷ items) all = (so i all.0, all_so P Q so items all.1)

-- what holds of all items of this kind holds of the group
in_group : (Q : Item → Type 0) (m : Mark) → ((i : Item) → IsOfGroup m i → Q i) → AllByRecursion Q (group m)
in_group Q m so = all_so (IsOfGroup m) Q so (group m) (of_group m)

-- ---- no mark

abbrev IsNoMark : Item → Type 0
IsNoMark (item.Mark mark) = ⊥
IsNoMark _ = ⊤

no_mark : (m : Mark) (i : Item) → IsOfGroup m i → IsNoMark i
no_mark m (item.Mark mark) is = is
no_mark m _ is = tt

expanded_without_marks : (i : Item) → AllByRecursion IsNoMark (expanded i)
expanded_without_marks (item.Mark mark) = (tt, in_group IsNoMark mark (no_mark mark))
expanded_without_marks _ = (tt, tt)

pub leaves_no_mark : ExpansionLeavesNoMark
leaves_no_mark items mark has =
    in_expansion IsNoMark items (λ i among. expanded_without_marks i) (item.Mark mark) has

-- ---- labels

abbrev IsNoLabel : Item → Type 0
IsNoLabel (item.Label label) = ⊥
IsNoLabel _ = ⊤

no_label : (m : Mark) (i : Item) → IsOfGroup m i → IsNoLabel i
no_label m (item.Label label) is = is
no_label m _ is = tt

isnt_label : (i : Item) (label : ℕ) → IsNoLabel i → is_label label i ≡ false
isnt_label (item.Label l) label is = absurd is
isnt_label _ label is = refl

abbrev one_if : Bool → ℕ
one_if b = cond b 1 0

none_counted : (items : List Item) (label : ℕ) → AllByRecursion IsNoLabel items → count_by (is_label label) items ≡ 0
none_counted [] label all = refl
none_counted (i ∷ items) label all =
    let here = ap one_if (isnt_label i label all.0) in
    omega (arith, here, count_cons label i items, none_counted items label all.1)

expanded_labels : (i : Item) (label : ℕ) → count_by (is_label label) (expanded i) ≡ count_by (is_label label) (i ∷ [])
expanded_labels (item.Mark mark) label =
    omega (arith, count_cons label (item.Note (note_of mark)) (group mark), none_counted (group mark) label (in_group IsNoLabel mark (no_label mark)))
expanded_labels _ label = refl

pub keeps_labels : ExpansionKeepsLabels
keeps_labels [] label = refl
keeps_labels (i ∷ items) label =
    let one = λ (x : Item). cond (is_label label x) 1 0 in
    let split = sum_by-append one (expanded i) (expansion items) in
    let front = sum_by-append one (i ∷ []) items in
    omega (arith, split, front, expanded_labels i label, keeps_labels items label)

-- the label to which an item leads stands once
abbrev UsesOnce : List Item → Item → Type 0
UsesOnce items (item.BranchTo form label) = StandsOnce items label
UsesOnce items (item.AddressOf register label) = StandsOnce items label
UsesOnce items _ = ⊤

leads_once : (items : List Item) (m : Mark) → ((label : ℕ) → LeadsTo m label → StandsOnce items label) → (i : Item) → IsOfGroup m i → UsesOnce items i
leads_once items m once (item.BranchTo form label) is = once label is.1
leads_once items m once (item.AddressOf register label) is = absurd is
leads_once items m once _ is = tt

expanded_uses_once : (items : List Item) → UsedLabelsStandOnce items → MarkedLabelsStandOnce items → (i : Item) → Contains items i → AllByRecursion (UsesOnce items) (expanded i)
expanded_uses_once items used marked (item.BranchTo form label) among = (used.branches form label among, tt)
expanded_uses_once items used marked (item.AddressOf register label) among = (used.addresses register label among, tt)
expanded_uses_once items used marked (item.Mark mark) among =
    (tt, in_group (UsesOnce items) mark (leads_once items mark (λ label leads. marked mark label among leads)))
expanded_uses_once items used marked _ among = (tt, tt)

pub uses_once : ExpansionUsesLabelsThatStandOnce
uses_once items used marked =
    record {
      branches = λ form label has.
          keeps_labels items label ∙ in_expansion (UsesOnce items) items (expanded_uses_once items used marked) (item.BranchTo form label) has;
      addresses = λ register label has.
          keeps_labels items label ∙ in_expansion (UsesOnce items) items (expanded_uses_once items used marked) (item.AddressOf register label) has;
    }

-- ---- ranges

abbrev IsItemInRange : Item → Type 0
IsItemInRange (item.Inst i) = IsInRange i
IsItemInRange (item.BranchTo form label) = IsBranch form
IsItemInRange (item.AddressOf register label) = register ≤ 30
IsItemInRange _ = ⊤

group_in_range : (m : Mark) → IsMark m → (i : Item) → IsOfGroup m i → IsItemInRange i
group_in_range m h (item.Inst i) is = is h
group_in_range m h (item.BranchTo form label) is = is.0
group_in_range m h (item.AddressOf register label) is = absurd is
group_in_range m h _ is = tt

expanded_in_range : (items : List Item) → InstructionsAreInRange items → BranchesAreInRange items → AddressesHaveRegisters items → MarksAreInRange items → (i : Item) → Contains items i → AllByRecursion IsItemInRange (expanded i)
expanded_in_range items insts branches registers marks (item.Inst i) among = (insts i among, tt)
expanded_in_range items insts branches registers marks (item.BranchTo form label) among = (branches form label among, tt)
expanded_in_range items insts branches registers marks (item.AddressOf register label) among = (registers register label among, tt)
expanded_in_range items insts branches registers marks (item.Mark mark) among =
    (tt, in_group IsItemInRange mark (group_in_range mark (marks mark among)))
expanded_in_range items insts branches registers marks _ among = (tt, tt)

pub stays_in_range : ExpansionStaysInRange
stays_in_range items insts branches registers marks =
    let all = in_expansion IsItemInRange items (expanded_in_range items insts branches registers marks) in
    (λ inst has. all (item.Inst inst) has, λ form label has. all (item.BranchTo form label) has, λ register label has. all (item.AddressOf register label) has)

pub words_of_groups : GroupsHaveTheWordsOfTheirRows
words_of_groups (Jump to) address_of at = refl
words_of_groups (Branch taken other) address_of at = refl
words_of_groups (Call to) address_of at = refl
words_of_groups (ICall params) address_of at = refl
words_of_groups Ret address_of at = refl
words_of_groups (Begin op) address_of at = refl
words_of_groups (End op) address_of at = refl
words_of_groups (UseCell cell index) address_of at = refl
words_of_groups (DefCell cell index) address_of at = refl
words_of_groups (UseAt cell len index) address_of at = refl
words_of_groups (DefAt cell len index) address_of at = refl
