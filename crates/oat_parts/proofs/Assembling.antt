-- What the assembler and the expansion ask of items holds of items in parts, and then of what becomes of them.
use Rattle.std.proofs.Common.{◌≡◌, ℕ, ◌+◌, ◌^◌, ◌<◌, ◌≤◌, List, [], ◌∷◌, refl, sym, ap, ◌∙◌, subst, Bool, false, cond, Some, arith, inl, inr, eq-eqb}
use Rattle.std.specs.{Prelude.slice_get, Prelude.Contains, Prelude.nat_eq, Prelude.⊤, List.AllByRecursion, List.count_by}
use Rattle.std.proofs.lemmas.{Bool.ne_eqb, Bool.cases_eq, Option.slice_get_within, List.Sums.sum_by-cons, List.Sums.sum_by-append}
use Rattle.oat_asm.specs.{IsInRange, declared.mark.Mark.Mark, declared.mark.Mark.TheVariants.Jump, declared.mark.Mark.TheVariants.Branch, declared.mark.Mark.TheVariants.Call}
use Rattle.oat_asm.specs.{declared.mark.Mark.TheVariants.Begin, declared.mark.Mark.TheVariants.End, declared.mark.Mark.TheVariants.UseCell, declared.mark.Mark.TheVariants.DefCell}
use Rattle.oat_asm.specs.{declared.mark.Mark.TheVariants.UseAt, declared.mark.Mark.TheVariants.DefAt, declared.note.Note.TheVariants.Check, declared.item.Item.Item, Items.words_needed, Items.is_label}
use Rattle.oat_asm.specs.{Items.code_limit, Items.StandsOnce, Expansion.expansion, ExpansionLaws.IsMark, ExpansionLaws.LeadsTo, StandingLaws.CanBeAssembled, StandingLaws.LabelsStandOnce, IsIndex}
use Rattle.oat_asm.specs.{IsLength, AreElements}
use Rattle.oat_asm.proofs.{LayoutLaws.counted, ExpansionProofs.leaves_no_mark, ExpansionProofs.keeps_labels, ExpansionProofs.uses_once, ExpansionProofs.stays_in_range}
use Rattle.oat_parts.specs.{Symbols.SymbolTable, Symbols.IsSymbolTable, Symbols.AreDistinct, Symbols.labels_of, Parts.CodePart, Parts.simple, Parts.label, Parts.reference, Parts.mark, Parts.check}
use Rattle.oat_parts.specs.{Parts.items_of, Parts.all_items, Parts.IsMarkOf, Parts.IsCodePart, Parts.labels_in_part, Parts.labels_in, Parts.IsMadeOfParts, Parts.AreInParts, Built.CanBeExpanded}
use Rattle.oat_parts.specs.{Built.PartsCanBeExpanded, Built.PartsHaveTheLabels}
use Rattle.oat_parts.proofs.{Lists.not_in_none, Lists.only_in, Lists.in_flat_map, Lists.first_in, Lists.later_in, Lists.cons_cases, Lists.in_get, Lists.all_get, Lists.all_in, Lists.of_flat_map}
use Rattle.oat_parts.proofs.{Orders.function_in_labels, Orders.block_in_labels}
use Rattle.oat_asm.specs.declared.item.Item.TheVariants as item

-- ---- each item

-- the cells of a table and their words have 16 bits
abbrev pub CellsFit : SymbolTable → Type 0
CellsFit t = (cell index : ℕ) → slice_get t.cells cell ≡ Some index → (cell < 2 ^ 16) × (index < 65536)

pub cells_fit : (t : SymbolTable) → IsSymbolTable t → CellsFit t
cells_fit t table cell index at =
    let least : index ≤ 65535 = all_get IsIndex t.cells cell index table.cells.each at in
    let many = slice_get_within t.cells cell index at in
    let most = table.cells.limited in
    (omega arith, omega arith)

element_range : (t : SymbolTable) (cell len index : ℕ) → CellsFit t → AreElements t.cells cell len index → IsLength len → (cell < 2 ^ 16) × (len < 2 ^ 16) × (index < 65536)
element_range t cell len index cells are fits = let first = cells cell index are.first in (first.0, omega arith, first.1)

mark_range : (t : SymbolTable) (m : Mark) → CellsFit t → IsMarkOf t m → IsMark m
mark_range t (Begin op) cells is = let h = is.1 in omega arith
mark_range t (End op) cells is = let h = is.0.1 in omega arith
mark_range t (UseCell cell index) cells is = cells cell index is
mark_range t (DefCell cell index) cells is = cells cell index is
mark_range t (UseAt cell len index) cells is = element_range t cell len index cells is.0 is.1
mark_range t (DefAt cell len index) cells is = element_range t cell len index cells is.0 is.1
mark_range t _ cells is = tt

mark_leads : (t : SymbolTable) (m : Mark) (l : ℕ) → IsMarkOf t m → LeadsTo m l → Contains (labels_of t) l
mark_leads t (Jump to) l is e = subst (Contains (labels_of t)) e (block_in_labels t.functions to is)
mark_leads t (Branch taken other) l is (inl e) = subst (Contains (labels_of t)) e (block_in_labels t.functions taken is.0)
mark_leads t (Branch taken other) l is (inr e) = subst (Contains (labels_of t)) e (block_in_labels t.functions other is.1)
mark_leads t (Call to) l is e = subst (Contains (labels_of t)) e (function_in_labels t.functions to is)
mark_leads t _ l is e = absurd e

abbrev IsFine : SymbolTable → Item → Type 0
IsFine t (item.Inst i) = IsInRange i
IsFine t (item.BranchTo form l) = ⊥
IsFine t (item.AddressOf register l) = (register ≤ 30) × Contains (labels_of t) l
IsFine t (item.Mark m) = IsMark m × ((l : ℕ) → LeadsTo m l → Contains (labels_of t) l)
IsFine t (item.Note n) = n ≡ Check
IsFine t _ = ⊤

part_fine : (t : SymbolTable) (p : CodePart) → CellsFit t → IsCodePart t p → AllByRecursion (IsFine t) (items_of p)
part_fine t (simple i) cells is = (is.0, tt)
part_fine t (label l) cells is = (tt, tt)
part_fine t (reference register l) cells is = ((is.0, function_in_labels t.functions l is.1), tt)
part_fine t (mark m) cells is = ((mark_range t m cells is, λ l leads. mark_leads t m l is leads), tt)
part_fine t (check test number) cells is = (refl, (is.0, ((is.1, tt), tt)))

fine : (t : SymbolTable) (ps : List CodePart) → CellsFit t → AllByRecursion (IsCodePart t) ps → (x : Item) → Contains (all_items ps) x → IsFine t x
fine t ps cells each x has =
    let r = of_flat_map items_of ps x has in
    all_in (IsFine t) (items_of r.1) x (part_fine t r.1 cells (all_get (IsCodePart t) ps r.0 r.1 each r.2)) r.3

-- ---- each label once

-- a part has a label as often as it is listed for it
own_count : (p : CodePart) (l : ℕ) → count_by (is_label l) (items_of p) ≡ count_by (λ k. nat_eq k l) (labels_in_part p)
own_count (simple i) l = refl
own_count (label k) l = refl
own_count (reference register k) l = refl
own_count (mark m) l = refl
own_count (check test number) l = refl

all_count : (ps : List CodePart) (l : ℕ) → count_by (is_label l) (all_items ps) ≡ count_by (λ k. nat_eq k l) (labels_in ps)
all_count [] l = refl
all_count (p ∷ ps) l =
    let one = sum_by-append (λ x. cond (is_label l x) 1 0) (items_of p) (all_items ps) in
    let two = sum_by-append (λ k. cond (nat_eq k l) 1 0) (labels_in_part p) (labels_in ps) in
    omega (arith, one, two, own_count p l, all_count ps l)

abbrev one_if : Bool → ℕ
one_if b = cond b 1 0

count_more : (k l : ℕ) (ls : List ℕ) → count_by (λ j. nat_eq j l) (k ∷ ls) ≡ one_if (nat_eq k l) + count_by (λ j. nat_eq j l) ls
count_more k l ls = sum_by-cons (λ j. one_if (nat_eq j l)) k ls

none_of : (ls : List ℕ) (l : ℕ) → (Contains ls l → ⊥) → count_by (λ j. nat_eq j l) ls ≡ 0
none_of [] l out = refl
none_of (k ∷ ls) l out =
    let differs : nat_eq k l ≡ false = ne_eqb k l (λ e. out (subst (Contains (k ∷ ls)) e (first_in k ls))) in
    let none : one_if (nat_eq k l) ≡ 0 = ap one_if differs in
    omega (arith, count_more k l ls, none_of ls l (λ has. out (later_in k ls l has)))

once_of : (ls : List ℕ) (l : ℕ) → AreDistinct ls → Contains ls l → count_by (λ j. nat_eq j l) ls ≡ 1
once_of [] l distinct has = absurd (not_in_none l has)
once_of (k ∷ ls) l distinct has =
    elim (cons_cases k ls l has) [
      | inl same ↦
          let one : one_if (nat_eq k l) ≡ 1 = ap one_if (eq-eqb k l same) in
          let rest = none_of ls l (λ later. distinct.0 (subst (Contains ls) (sym same) later)) in
          omega (arith, count_more k l ls)
      | inr later ↦
          let differs : nat_eq k l ≡ false = ne_eqb k l (λ e. distinct.0 (subst (Contains ls) (sym e) later)) in
          let none : one_if (nat_eq k l) ≡ 0 = ap one_if differs in
          omega (arith, count_more k l ls, once_of ls l distinct.1 later)
    ]

-- a label that is counted is there
counted_in : (ls : List ℕ) (l : ℕ) → 1 ≤ count_by (λ j. nat_eq j l) ls → Contains ls l
counted_in [] l some = absurd (omega arith)
counted_in (k ∷ ls) l some =
    elim (cases_eq k l) [
      | inl same ↦ subst (Contains (k ∷ ls)) same (first_in k ls)
      | inr other ↦
          let none : one_if (nat_eq k l) ≡ 0 = ap one_if (ne_eqb k l other) in
          later_in k ls l (counted_in ls l (omega (arith, count_more k l ls)))
    ]

-- ---- items in parts

module _ (t : SymbolTable) (items : List Item) (table : IsSymbolTable t) (made : AreInParts t items) where
  listed_count : (l : ℕ) → count_by (is_label l) items ≡ count_by (λ j. nat_eq j l) (labels_of t)
  listed_count l = ap (count_by (is_label l)) made.are ∙ all_count made.parts l ∙ ap (count_by (λ j. nat_eq j l)) made.labelled

  once : (l : ℕ) → Contains (labels_of t) l → StandsOnce items l
  once l has = listed_count l ∙ once_of (labels_of t) l table.labels has

  item_fine : (x : Item) → Contains items x → IsFine t x
  item_fine x has = fine t made.parts (cells_fit t table) made.each x (subst (λ (is : List Item). Contains is x) made.are has)

  pub can_be_expanded : CanBeExpanded items
  can_be_expanded = record {
    instructions = λ i has. item_fine (item.Inst i) has;
    branches = λ form l has. absurd (item_fine (item.BranchTo form l) has);
    registers = λ register l has. (item_fine (item.AddressOf register l) has).0;
    marks = λ m has. (item_fine (item.Mark m) has).0;
    used = record {
      branches = λ form l has. absurd (item_fine (item.BranchTo form l) has);
      addresses = λ register l has. once l (item_fine (item.AddressOf register l) has).1;
    };
    marked = λ m l has leads. once l ((item_fine (item.Mark m) has).1 l leads);
  }

  pub can_be_assembled : words_needed (expansion items) ≤ code_limit → CanBeAssembled (expansion items)
  can_be_assembled few =
      let e : CanBeExpanded items = can_be_expanded in
      let ranges = stays_in_range items e.instructions e.branches e.registers e.marks in
      record { used = uses_once items e.used e.marked; unmarked = leaves_no_mark items; instructions = ranges.0; branches = ranges.1; registers = ranges.2; few = few }

  pub labels_once : LabelsStandOnce (expansion items)
  labels_once l has =
      let at = in_get (expansion items) (item.Label l) has in
      let some = counted (expansion items) at.0 l at.1 in
      let kept = keeps_labels items l in
      kept ∙ once l (counted_in (labels_of t) l (omega (arith, listed_count l)))

pub parts_can_be_expanded : PartsCanBeExpanded
parts_can_be_expanded t items table made = can_be_expanded t items table made

-- ---- labels

label_of : (p : CodePart) (l : ℕ) → Contains (labels_in_part p) l → Contains (items_of p) (item.Label l)
label_of (label k) l has = let same : k ≡ l = only_in k l has.0 has.1 has.2 in subst (λ (n : ℕ). Contains (item.Label k ∷ []) (item.Label n)) same (first_in (item.Label k) [])
label_of _ l has = absurd (not_in_none l has)

pub parts_have_the_labels : PartsHaveTheLabels
parts_have_the_labels t items table made = record {
  has = λ l has.
      let r = of_flat_map labels_in_part made.parts l (subst (λ (ls : List ℕ). Contains ls l) (sym made.labelled) has) in
      subst (λ (is : List Item). Contains is (item.Label l)) (sym made.are) (in_flat_map items_of made.parts r.0 r.1 (item.Label l) r.2 (label_of r.1 l r.3));
  only = λ l has.
      let at = in_get items (item.Label l) has in
      counted_in (labels_of t) l (omega (arith, counted items at.0 l at.1, listed_count t items table made l));
  once = labels_once t items table made;
  checks = λ n has. item_fine t items table made (item.Note n) has;
}

-- items in parts without a label have none
pub none_labelled : (t : SymbolTable) (begun : List ℕ) (items : List Item) → IsMadeOfParts t [] begun items → (l : ℕ) → Contains items (item.Label l) → ⊥
none_labelled t begun items made l has =
    let at = in_get items (item.Label l) has in
    let none = ap (count_by (is_label l)) made.are ∙ all_count made.parts l ∙ ap (count_by (λ j. nat_eq j l)) made.labelled in
    absurd (omega (arith, counted items at.0 l at.1, none))
