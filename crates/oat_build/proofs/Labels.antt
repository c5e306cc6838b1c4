-- A map of listed labels has the address of each label.
use Rattle.std.proofs.Common.{◌≡◌, ◌+◌, ◌≤◌, ℕ, zero, suc, Bool, true, false, cond, List, [], ◌∷◌, length, drop, Option, Some, None, refl, sym, ap, subst, ◌∙◌, inl, inr, arith}
use Rattle.std.specs.Prelude.{Contains, slice_get, nat_eq, unwrap_or, ◌⊎◌}
use Rattle.std.proofs.lemmas.{Bool.eqb-true, Bool.eq-eqb, Bool.ne_eqb, Bool.true≢false, List.drop_all}
use Rattle.oat_asm.proofs.{LayoutLaws.label_placed, LayoutLaws.labels_listed, Seen.place_of_cons}
use Rattle.oat_parts.proofs.Lists.{not_in_none, first_in, later_in, cons_cases, get_in}
use Rattle.oat_match.specs.{code_base, Item, LabelAt, address, is_label, item_words, label_place, place, words_needed, layout, label_address, LabelsStandOnce}
use Rattle.oat_asm.specs.declared.item.Item.TheVariants as item

-- the address of the last entry of a label; else what was known
abbrev pub last_known : ℕ → List LabelAt → Option ℕ → Option ℕ
last_known label [] known = known
last_known label (entry ∷ entries) known = last_known label entries (cond (nat_eq entry.label label) (Some entry.at) known)

-- what is known is an entry's address, and where nothing is known there is no entry
same_entry : (x : LabelAt) (label at : ℕ) → x.label ≡ label → x.at ≡ at → x ≡ record { label = label; at = at }
same_entry x label at l a = ap (λ (n : ℕ). record { label = n; at = x.at }) l ∙ ap (λ (n : ℕ). record { label = label; at = n }) a

found_by : (label : ℕ) (x : LabelAt) (xs : List LabelAt) (known : Option ℕ) (at : ℕ) (b : Bool) → nat_eq x.label label ≡ b → (cond b (Some x.at) known ≡ Some at) ⊎ Contains xs (record { label = label; at = at })
    → (known ≡ Some at) ⊎ Contains (x ∷ xs) (record { label = label; at = at })
found_by label x xs known at b e (inr has) = inr (later_in x xs (record { label = label; at = at }) has)
found_by label x xs known at true e (inl is) =
    let same : x.at ≡ at = cc in
    inr (subst (Contains (x ∷ xs)) (same_entry x label at (eqb-true x.label label e) same) (first_in x xs))
found_by label x xs known at false e (inl is) = inl is

pub found : (label : ℕ) (entries : List LabelAt) (known : Option ℕ) (at : ℕ) → last_known label entries known ≡ Some at → (known ≡ Some at) ⊎ Contains entries (record { label = label; at = at })
found label [] known at is = inl is
found label (x ∷ xs) known at is = found_by label x xs known at (nat_eq x.label label) refl (found label xs (cond (nat_eq x.label label) (Some x.at) known) at is)

kept_by : (label : ℕ) (x : LabelAt) (xs : List LabelAt) (at : ℕ) (b : Bool) → last_known label xs (cond b (Some x.at) (Some at)) ≡ None → ((a : ℕ) → last_known label xs (Some a) ≡ None → ⊥) → ⊥
kept_by label x xs at true is rest = rest x.at is
kept_by label x xs at false is rest = rest at is

kept : (label : ℕ) (entries : List LabelAt) (at : ℕ) → last_known label entries (Some at) ≡ None → ⊥
kept label [] at is = cc
kept label (x ∷ xs) at is = kept_by label x xs at (nat_eq x.label label) is (λ a i. kept label xs a i)

none_by : (label : ℕ) (x : LabelAt) (xs : List LabelAt) (b : Bool) → nat_eq x.label label ≡ b → last_known label xs (cond b (Some x.at) None) ≡ None
    → (last_known label xs None ≡ None → (at : ℕ) → Contains xs (record { label = label; at = at }) → ⊥) → (at : ℕ) → Contains (x ∷ xs) (record { label = label; at = at }) → ⊥
none_by label x xs true e is rest at has = kept label xs x.at is
none_by label x xs false e is rest at has = elim (cons_cases x xs (record { label = label; at = at }) has) [
  | inl same ↦ true≢false (sym (eq-eqb x.label label (ap (λ (y : LabelAt). y.label) same)) ∙ e)
  | inr later ↦ rest is at later
]

none : (label : ℕ) (entries : List LabelAt) → last_known label entries None ≡ None → (at : ℕ) → Contains entries (record { label = label; at = at }) → ⊥
none label [] is at has = not_in_none (record { label = label; at = at }) has
none label (x ∷ xs) is at has = none_by label x xs (nat_eq x.label label) refl is (λ i. none label xs i) at has

-- ---- a label that stands nowhere

not_label : (i : Item) (label : ℕ) → (Some i ≡ Some (item.Label label) → ⊥) → is_label label i ≡ false
not_label (item.Label l) label out = ne_eqb l label (λ same. out (ap (λ (n : ℕ). Some (item.Label n)) same))
not_label _ label out = refl

absent : (items : List Item) (label : ℕ) → ((k : ℕ) → slice_get items k ≡ Some (item.Label label) → ⊥) → label_place items label ≡ words_needed items
absent [] label out = refl
absent (i ∷ items) label out = place_of_cons i items label false (not_label i label (out 0)) ∙ ap (λ (n : ℕ). item_words i + n) (absent items label (λ k. out (suc k)))

-- ---- all labels

address_by : (items : List Item) (label end : ℕ) → LabelsStandOnce items → end ≡ address code_base (words_needed items) → (o : Option ℕ) → last_known label (layout items code_base).labels None ≡ o
    → unwrap_or o end ≡ label_address items label
address_by items label end once last (Some at) is = elim (found label (layout items code_base).labels None at is) [
  | inl never ↦ absurd (cc)
  | inr has ↦
      let r = (labels_listed items code_base label at).0 has in
      let is_there = get_in items r.0 (item.Label label) r.1 in
      r.2 ∙ ap (address code_base) (sym (label_placed items r.0 label (once label is_there) r.1))
]
address_by items label end once last None is =
    let out = λ (k : ℕ) (there : slice_get items k ≡ Some (item.Label label)).
    none label (layout items code_base).labels is (address code_base (place items k)) ((labels_listed items code_base label (address code_base (place items k))).1 (k, there, refl)) in
    last ∙ ap (address code_base) (sym (absent items label out))

-- behind the last entry, the address of each label is known
pub addresses_known : (items : List Item) (label end i : ℕ) (known : Option ℕ) → LabelsStandOnce items → end ≡ address code_base (words_needed items) → length (layout items code_base).labels ≤ i
    → last_known label (drop i (layout items code_base).labels) known ≡ last_known label (layout items code_base).labels None → unwrap_or known end ≡ label_address items label
addresses_known items label end i known once last past is =
    let whole = ap (λ rest. last_known label rest known) (drop_all i (layout items code_base).labels past) in
    address_by items label end once last known (sym is ∙ whole)
