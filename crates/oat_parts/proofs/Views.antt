-- Each part at its place: its row, the group of that row, and instructions that stand in none.
use Rattle.std.proofs.Common.{◌≡◌, ℕ, suc, ◌+◌, ◌-◌, ◌<◌, ◌≤◌, List, [], ◌∷◌, ◌++◌, map, refl, sym, ap, ◌∙◌, subst, Some, arith, inl, inr}
use Rattle.std.specs.{Prelude.slice_get, Prelude.⊤, List.AllByRecursion, List.flat_map}
use Rattle.std.proofs.lemmas.{Bool.cases_lt, List.Concat.flat_map-append}
use Rattle.oat_asm.specs.{Inst, code_base, instruction_at, Row, address_of, word_count, Image, declared.mark.Mark.Mark, declared.mark.Mark.TheVariants.Ret, declared.mark.Mark.TheVariants.UseCell}
use Rattle.oat_asm.specs.{declared.mark.Mark.TheVariants.DefCell, declared.mark.Mark.TheVariants.UseAt, declared.mark.Mark.TheVariants.DefAt, declared.note.Note.TheVariants.Check}
use Rattle.oat_asm.specs.{declared.item.Item.Item, Giving.words_in, Giving.words_before, Items.address, Layout.notes_of_item, Layout.items_give, Expansion.expanded, Expansion.expansion}
use Rattle.oat_asm.specs.{Expansion.note_of, Expansion.group, NoteRows.row_of, Standing.ItemsStand, Standing.HasItsWord, Stands, AreElements, IsGroup}
use Rattle.oat_asm.proofs.{Standing.groups_of_rows, StandingItems.stand_in_two}
use Rattle.oat_parts.specs.{Symbols.SymbolTable, Parts.is_set, Parts.is_met, Parts.CodePart, Parts.simple, Parts.label, Parts.reference, Parts.mark, Parts.check, Parts.items_of, Parts.all_items}
use Rattle.oat_parts.specs.{Parts.expanded_part, Parts.part_words, Parts.IsLoose, Parts.IsMarkOf, Parts.IsCodePart}

-- ---- places of parts

abbrev pub all_words : List CodePart → ℕ
all_words ps = words_in part_words ps

abbrev pub part_place : List CodePart → ℕ → ℕ
part_place ps k = words_before part_words ps k

-- what all parts become is what each becomes
pub expanded_parts : (ps : List CodePart) → expansion (all_items ps) ≡ flat_map expanded_part ps
expanded_parts [] = refl
expanded_parts (p ∷ ps) = flat_map-append expanded (items_of p) (all_items ps) ∙ ap (λ (is : List Item). expanded_part p ++ is) (expanded_parts ps)

-- a word stands in a part
pub part_at : (ps : List CodePart) (n : ℕ) → n < all_words ps → (k : ℕ) × (p : CodePart) × (r : ℕ) × (slice_get ps k ≡ Some p) × (n ≡ part_place ps k + r) × (r < part_words p)
part_at [] n h = absurd (omega arith)
part_at (p ∷ ps) n h =
    elim (cases_lt n (part_words p)) [
      | inl less ↦ (0, p, n, refl, omega arith, less)
      | inr past ↦ behind n p ps past (part_at ps (n - part_words p) (omega arith))
    ] where
      behind : (n : ℕ) (p : CodePart) (ps : List CodePart) → part_words p ≤ n → (k : ℕ) × (q : CodePart) × (r : ℕ) × (slice_get ps k ≡ Some q) × (n - part_words p ≡ part_place ps k + r) × (r < part_words q)
          → (k : ℕ) × (q : CodePart) × (r : ℕ) × (slice_get (p ∷ ps) k ≡ Some q) × (n ≡ part_place (p ∷ ps) k + r) × (r < part_words q)
      behind n p ps past (k, q, r, at, is, within) = (suc k, q, r, at, omega arith, within)

-- ---- the row of a part, by the place of each label

abbrev pub label_at : (ℕ → ℕ) → ℕ → ℕ
label_at to l = address code_base (to l)

abbrev pub rows_in : (ℕ → ℕ) → ℕ → CodePart → List Row
rows_in to here (mark m) = row_of (label_at to) (address code_base here) (note_of m) ∷ []
rows_in to here (check test number) = row_of (label_at to) (address code_base here) Check ∷ []
rows_in to here _ = []

pub rows_given : (to : ℕ → ℕ) (here : ℕ) (p : CodePart) → map (λ n. row_of (label_at to) n.at n.note) (items_give (notes_of_item code_base) here (expanded_part p)) ≡ rows_in to here p
rows_given to here (mark Ret) = refl
rows_given to here _ = refl

abbrev pub IsUngrouped : CodePart → Type 0
IsUngrouped (mark m) = ⊥
IsUngrouped (check test number) = ⊥
IsUngrouped _ = ⊤

-- a part has no row, or one over its words
pub data Kind (to : ℕ → ℕ) (here : ℕ) (p : CodePart) : Type 0 where
  loose : rows_in to here p ≡ [] → IsUngrouped p → Kind to here p
  grouped : (row : Row) → rows_in to here p ≡ row ∷ [] → address_of row ≡ address code_base here → word_count row ≡ part_words p → Kind to here p

pub kind : (to : ℕ → ℕ) (here : ℕ) (p : CodePart) → Kind to here p
kind to here (simple i) = loose refl tt
kind to here (label l) = loose refl tt
kind to here (reference register l) = loose refl tt
kind to here (mark Ret) = grouped _ refl refl refl
kind to here _ = grouped _ refl refl refl

-- ---- groups

own_word : (t : SymbolTable) (cells : List ℕ) (m : Mark) → t.cells ≡ cells → IsMarkOf t m → HasItsWord cells m
own_word t cells (UseCell cell index) same is = subst (λ (cs : List ℕ). slice_get cs cell ≡ Some index) same is
own_word t cells (DefCell cell index) same is = subst (λ (cs : List ℕ). slice_get cs cell ≡ Some index) same is
own_word t cells (UseAt cell len index) same is = subst (λ (cs : List ℕ). AreElements cs cell len index) same is.0
own_word t cells (DefAt cell len index) same is = subst (λ (cs : List ℕ). AreElements cs cell len index) same is.0
own_word t cells _ same is = tt

module _ (t : SymbolTable) (i : Image) (to : ℕ → ℕ) (here : ℕ) where
  -- a part stands here
  abbrev pub PartStands : CodePart → Type 0
  PartStands p = ItemsStand i (label_at to) (address code_base here) (expanded_part p)

  pub group_stands : (p : CodePart) → t.cells ≡ i.cells → IsCodePart t p → PartStands p → AllByRecursion (IsGroup i.code i.cells) (rows_in to here p)
  group_stands (mark m) same is stands =
      ((groups_of_rows i (label_at to) (address code_base here) m (own_word t i.cells m same is)).0 (stand_in_two i (label_at to) (address code_base here) (group m) [] stands.1).0, tt)
  group_stands (check (is_set register) n) same is stands = ((inl (register, stands.1.0), (n, stands.1.1.0)), tt)
  group_stands (check (is_met cond) n) same is stands = ((inr (cond, stands.1.0), (n, stands.1.1.0)), tt)
  group_stands (simple x) same is stands = tt
  group_stands (label l) same is stands = tt
  group_stands (reference register l) same is stands = tt

  one_there : (a b : ℕ) (x y : Inst) → a ≡ b → Stands i.code a x → Stands i.code b y → x ≡ y
  one_there a b x y e one two = let same : Some x ≡ Some y = sym one ∙ ap (λ (p : ℕ). instruction_at i.code p) e ∙ two in cc

  -- an instruction of a part without a row
  pub loose_there : (p : CodePart) (r : ℕ) (x : Inst) → IsUngrouped p → IsCodePart t p → PartStands p → r < part_words p → Stands i.code (address code_base (here + r)) x → IsLoose x
  loose_there (simple y) r x free is stands within there =
      subst IsLoose (one_there (address code_base here) (address code_base (here + r)) y x (omega arith) stands.0 there) is.1
  loose_there (label l) r x free is stands within there = absurd (omega arith)
  loose_there (reference register l) r x free is stands within there =
      elim (cases_lt r 1) [
        | inl first ↦ subst IsLoose (one_there (address code_base here) (address code_base (here + r)) _ x (omega arith) stands.0.0 there) refl
        | inr second ↦ subst IsLoose (one_there (address code_base here + 4) (address code_base (here + r)) _ x (omega arith) stands.0.1 there) refl
      ]
  loose_there (mark m) r x free is stands within there = absurd free
  loose_there (check test n) r x free is stands within there = absurd free
