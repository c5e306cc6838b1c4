-- Labels among parts: where they stand, that they rise, and that a word follows each label and each call.
use Rattle.std.proofs.Common.{◌≡◌, ℕ, zero, suc, ◌+◌, ◌<◌, ◌≤◌, List, [], ◌∷◌, ◌++◌, length, refl, sym, ap, ◌∙◌, subst, Bool, true, false, cond, Some, arith, inl, inr, eq-eqb}
use Rattle.std.specs.{Prelude.slice_get, Prelude.Contains, Prelude.nat_eq, List.count_by}
use Rattle.std.proofs.lemmas.{Bool.ne_eqb, Bool.true≢false, List.Concat.flat_map-append}
use Rattle.oat_asm.specs.{declared.mark.Mark.TheVariants.Ret, Items.label_place, Items.is_label, Expansion.expanded, Expansion.expansion}
use Rattle.oat_asm.proofs.{Seen.count_cons, Seen.place_of_cons, LayoutLaws.skipped}
use Rattle.oat_parts.specs.{Symbols.AreDistinct, Symbols.Rises, Parts.CodePart, Parts.label, Parts.mark, Parts.items_of, Parts.all_items, Parts.expanded_part, Parts.part_words, Parts.waits}
use Rattle.oat_parts.specs.{Parts.MayFollow, Parts.ArePaced, Parts.labels_in_part, Parts.labels_in}
use Rattle.oat_parts.proofs.{Lists.not_in_none, Lists.first_in, Lists.cons_cases, Lists.in_flat_map, Lists.distinct_parts, Views.all_words, Views.part_place}
use Rattle.oat_asm.specs.declared.item.Item.TheVariants as item

-- ---- the place of a label

abbrev pub one_if : Bool → ℕ
one_if b = cond b 1 0

without : (p : CodePart) (l : ℕ) → (Contains (labels_in_part p) l → ⊥) → count_by (is_label l) (expanded_part p) ≡ 0
without (label k) l not_here =
    let differs : nat_eq k l ≡ false = ne_eqb k l (λ e. not_here (subst (Contains (k ∷ [])) e (first_in k []))) in
    count_cons l (item.Label k) [] ∙ ap (λ b. one_if b + 0) differs
without (mark Ret) l not_here = refl
without _ l not_here = refl

pub label_listed : (ps : List CodePart) (k l : ℕ) → slice_get ps k ≡ Some (label l) → Contains (labels_in ps) l
label_listed ps k l at = in_flat_map labels_in_part ps k (label l) l at (first_in l [])

pub part_labelled : (ps : List CodePart) (k l : ℕ) → AreDistinct (labels_in ps) → slice_get ps k ≡ Some (label l) → label_place (expansion (all_items ps)) l ≡ part_place ps k
part_labelled [] k l distinct at = absurd cc
part_labelled (q ∷ ps) zero l distinct at =
    let e : label l ≡ q = cc in
    subst (λ r. label_place (expansion (items_of r ++ all_items ps)) l ≡ 0) e (place_of_cons (item.Label l) (expansion (all_items ps)) l true (eq-eqb l l refl))
part_labelled (q ∷ ps) (suc k) l distinct at =
    let apart = distinct_parts (labels_in_part q) (labels_in ps) distinct in
    let none = without q l (λ has. apart.1 l has (label_listed ps k l at)) in
    ap (λ is. label_place is l) (flat_map-append expanded (items_of q) (all_items ps))
    ∙ skipped (expanded_part q) (expansion (all_items ps)) l none
    ∙ ap (λ n. part_words q + n) (part_labelled ps k l apart.0 at)

-- ---- a part is a label, or has words and no label

pub data Sort (p : CodePart) : Type 0 where
  labels : (l : ℕ) → p ≡ label l → Sort p
  worded : labels_in_part p ≡ [] → 1 ≤ part_words p → Sort p

pub sort : (p : CodePart) → Sort p
sort (label l) = labels l refl
sort (mark Ret) = worded refl (omega arith)
sort _ = worded refl (omega arith)

word_behind_by : (p : CodePart) (ps : List CodePart) → Sort p → MayFollow true p → 1 ≤ all_words (p ∷ ps)
word_behind_by p ps (labels l e) may = absurd (true≢false (subst (MayFollow true) e may))
word_behind_by p ps (worded e some) may = omega arith

-- what waits for a word finds one
word_behind : (ps : List CodePart) → ArePaced true ps → 1 ≤ all_words ps
word_behind [] paced = absurd (true≢false paced)
word_behind (p ∷ ps) paced = word_behind_by p ps (sort p) paced.0

pub followed : (waiting : Bool) (ps : List CodePart) (k : ℕ) (p : CodePart) → ArePaced waiting ps → slice_get ps k ≡ Some p → waits p ≡ true → part_place ps (suc k) < all_words ps
followed waiting [] k p paced at waited = absurd cc
followed waiting (q ∷ ps) zero p paced at waited =
    let e : p ≡ q = cc in
    let open_ : waits q ≡ true = sym (ap waits e) ∙ waited in
    let some = word_behind ps (subst (λ w. ArePaced w ps) open_ paced.1) in
    omega arith
followed waiting (q ∷ ps) (suc k) p paced at waited =
    omega (arith, followed (waits q) ps k p paced.1 at waited)

at_most_one : (b : Bool) → one_if b ≤ 1
at_most_one true = omega arith
at_most_one false = omega arith

few_by : (waiting : Bool) (p : CodePart) (ps : List CodePart) → Sort p → MayFollow waiting p → length (labels_in ps) + one_if (waits p) ≤ all_words ps
    → length (labels_in (p ∷ ps)) + one_if waiting ≤ all_words (p ∷ ps)
few_by waiting p ps (labels l e) may rest =
    let closed : waiting ≡ false = subst (MayFollow waiting) e may in
    let none : one_if waiting ≡ 0 = ap one_if closed in
    let one : one_if (waits p) ≡ 1 = ap (λ q. one_if (waits q)) e in
    let many : length (labels_in (p ∷ ps)) ≡ suc (length (labels_in ps)) = ap (λ q. length (labels_in_part q ++ labels_in ps)) e in
    omega arith
few_by waiting p ps (worded e some) may rest =
    let many : length (labels_in (p ∷ ps)) ≡ length (labels_in ps) = ap (λ ls. length (ls ++ labels_in ps)) e in
    omega (arith, at_most_one waiting)

pub labels_few : (waiting : Bool) (ps : List CodePart) → ArePaced waiting ps → length (labels_in ps) + one_if waiting ≤ all_words ps
labels_few waiting [] paced = let none : one_if waiting ≡ 0 = ap one_if paced in omega arith
labels_few waiting (p ∷ ps) paced = few_by waiting p ps (sort p) paced.0 (labels_few (waits p) ps paced.1)

-- ---- the places of labels rise

abbrev pub ArePlaced : (ℕ → ℕ) → ℕ → List CodePart → Type 0
ArePlaced to here ps = (k l : ℕ) → slice_get ps k ≡ Some (label l) → to l ≡ here + part_place ps k

-- all labels stand at or above a place, and rise
abbrev pub AreAbove : (ℕ → ℕ) → ℕ → List ℕ → Type 0
AreAbove to low ls = (y : ℕ) → Contains ls y → low ≤ to y

placed_behind : (to : ℕ → ℕ) (here : ℕ) (p : CodePart) (ps : List CodePart) → ArePlaced to here (p ∷ ps) → ArePlaced to (here + part_words p) ps
placed_behind to here p ps placed k l at = let e = placed (suc k) l at in omega arith

abbrev pub Rise : (ℕ → ℕ) → ℕ → Bool → List CodePart → Type 0
Rise to here waiting ps = AreAbove to (here + one_if waiting) (labels_in ps) × Rises to (labels_in ps)

rise_by : (to : ℕ → ℕ) (here : ℕ) (waiting : Bool) (p : CodePart) (ps : List CodePart) → Sort p → ArePlaced to here (p ∷ ps) → MayFollow waiting p
    → Rise to (here + part_words p) (waits p) ps → Rise to here waiting (p ∷ ps)
rise_by to here waiting p ps (labels l e) placed may rest =
    let closed : waiting ≡ false = subst (MayFollow waiting) e may in
    let none : one_if waiting ≡ 0 = ap one_if closed in
    let one : one_if (waits p) ≡ 1 = ap (λ q. one_if (waits q)) e in
    let empty : part_words p ≡ 0 = ap part_words e in
    let first : to l ≡ here + 0 = placed 0 l (ap Some e) in
    let all : labels_in (p ∷ ps) ≡ l ∷ labels_in ps = ap (λ q. labels_in_part q ++ labels_in ps) e in
    subst (λ ls. AreAbove to (here + one_if waiting) ls × Rises to ls) (sym all) (
      λ y has. elim (cons_cases l (labels_in ps) y has) [
        | inl same ↦ let t : to l ≡ to y = ap to same in omega arith
        | inr later ↦ let up = rest.0 y later in omega arith
      ],
      (λ y has. let up = rest.0 y has in omega arith, rest.1),
    )
rise_by to here waiting p ps (worded e some) placed may rest =
    let all : labels_in (p ∷ ps) ≡ labels_in ps = ap (λ ls. ls ++ labels_in ps) e in
    subst (λ ls. AreAbove to (here + one_if waiting) ls × Rises to ls) (sym all)
    (λ y has. let up = rest.0 y has in omega (arith, at_most_one waiting), rest.1)

pub labels_rise : (to : ℕ → ℕ) (here : ℕ) (waiting : Bool) (ps : List CodePart) → ArePlaced to here ps → ArePaced waiting ps → Rise to here waiting ps
labels_rise to here waiting [] placed paced = (λ y has. absurd (not_in_none y has), tt)
labels_rise to here waiting (p ∷ ps) placed paced =
    rise_by to here waiting p ps (sort p) placed paced.0 (labels_rise to (here + part_words p) (waits p) ps (placed_behind to here p ps placed) paced.1)
