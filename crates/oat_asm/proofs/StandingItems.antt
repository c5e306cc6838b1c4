-- The items of a layout stand in the image that has its words.
use Rattle.std.proofs.Common.{◌≡◌, ℕ, suc, ◌+◌, ◌*◌, ◌/◌, ◌%◌, ◌^◌, List, [], ◌∷◌, ◌++◌, refl, sym, ap, subst, ◌∙◌, Some, arith, inl, inr}
use Rattle.std.specs.{Prelude.slice_get, Prelude.Contains, List.position_or_len}
use Rattle.std.proofs.lemmas.{List.Elements.Contains-push_cases, Option.slice_get_within, Option.get_or_from_slice_get}
use Rattle.oat_shape.specs.{Inst, Movz, Movk, IsInRange, word_of, FetchesByTheTable, code_base, Image, Groups.Stands, Groups.Branches}
use Rattle.oat_asm.specs.{declared.item.Item.Item, Items.item_words, Items.words_needed, Items.place, Items.label_place, Items.is_label, Layout.branch, Layout.distance, Layout.words_of_item}
use Rattle.oat_asm.specs.{Laws.code_of, Laws.item_address, Standing.ItemsStand, StandingLaws.CanBeAssembled, StandingLaws.LabelsStandOnce, StandingLaws.label_address, StandingLaws.RowsAreOver}
use Rattle.oat_asm.specs.{StandingLaws.LaidItemsStand, StandingLaws.WordsOfTwo, StandingLaws.ItemsStandInTwo, StandingLaws.IsEncoded, StandingLaws.LaidWordsEncode}
use Rattle.oat_asm.proofs.{Giving.before_within, Giving.before_next, Giving.GivenBy, Giving.given_by, Giving.gives-length, Ranges.branch_in_range, LayoutLaws.words_are_counted}
use Rattle.oat_asm.proofs.{LayoutLaws.instructions_stand, LayoutLaws.branch_stands, LayoutLaws.low_in_range, LayoutLaws.high_in_range, LayoutLaws.address_stands, LayoutLaws.label_placed}
use Rattle.oat_asm.proofs.{LayoutLaws.notes_listed}
use Rattle.oat_asm.specs.declared.item.Item.TheVariants as item

get_in : (items : List Item) (k : ℕ) (x : Item) → slice_get items k ≡ Some x → Contains items x
get_in items k x at = (k, slice_get_within items k x at, get_or_from_slice_get items k x x at)

-- ---- items

module _ (fetches : FetchesByTheTable) (i : Image) (items : List Item) (fit : CanBeAssembled items) (once : LabelsStandOnce items) (coded : i.code ≡ code_of items) (over : RowsAreOver i items) where
  abbrev at_label : ℕ → ℕ
  at_label l = label_address items l

  -- these items are those from k on
  abbrev AreFrom : ℕ → List Item → Type 0
  AreFrom k xs = (j : ℕ) (x : Item) → slice_get xs j ≡ Some x → slice_get items (k + j) ≡ Some x

  first : (k : ℕ) (x : Item) (xs : List Item) → AreFrom k (x ∷ xs) → slice_get items k ≡ Some x
  first k x xs from = let e : k + 0 ≡ k = omega arith in subst (λ (n : ℕ). slice_get items n ≡ Some x) e (from 0 x refl)

  behind : (k : ℕ) (x : Item) (xs : List Item) → AreFrom k (x ∷ xs) → AreFrom (suc k) xs
  behind k x xs from j y at = let e : k + suc j ≡ suc k + j = omega arith in subst (λ (n : ℕ). slice_get items n ≡ Some y) e (from (suc j) y at)

  next : (k : ℕ) (x : Item) (xs : List Item) (p q : ℕ) → AreFrom k (x ∷ xs) → item_address items k ≡ p → p + 4 * item_words x ≡ q → item_address items (suc k) ≡ q
  next k x xs p q from here there = omega (arith, before_next item_words items k x (first k x xs from))

  stands : (p q : ℕ) (x : Inst) → p ≡ q → Stands (code_of items) p x → Stands i.code q x
  stands p q x e there = subst (λ (code : List ℕ). Stands code q x) (sym coded) (subst (λ (a : ℕ). Stands (code_of items) a x) e there)

  stand_from : (k p : ℕ) (xs : List Item) → AreFrom k xs → item_address items k ≡ p → ItemsStand i at_label p xs
  stand_from k p [] from here = tt
  stand_from k p (item.Inst x ∷ xs) from here =
      let at = first k (item.Inst x) xs from in (
        stands (item_address items k) p x here (instructions_stand fetches items k x (fit.instructions x (get_in items k (item.Inst x) at)) at),
        stand_from (suc k) (p + 4) xs (behind k (item.Inst x) xs from) (next k (item.Inst x) xs p (p + 4) from here (omega arith)),
      )
  stand_from k p (item.Label l ∷ xs) from here =
      let at = first k (item.Label l) xs from in
      let placed = label_placed items k l (once l (get_in items k (item.Label l) at)) at in
      (omega arith, stand_from (suc k) p xs (behind k (item.Label l) xs from) (next k (item.Label l) xs p p from here (omega arith)))
  stand_from k p (item.BranchTo form l ∷ xs) from here =
      let at = first k (item.BranchTo form l) xs from in
      let leads = branch_stands fetches items k form l (fit.branches form l (get_in items k (item.BranchTo form l) at)) fit.few at in (
        subst (λ (a : ℕ). Branches i.code a (branch form) (at_label l)) here (leads.0, stands (item_address items k) (item_address items k) (branch form leads.0) refl leads.1, leads.2),
        stand_from (suc k) (p + 4) xs (behind k (item.BranchTo form l) xs from) (next k (item.BranchTo form l) xs p (p + 4) from here (omega arith)),
      )
  stand_from k p (item.AddressOf r l ∷ xs) from here =
      let at = first k (item.AddressOf r l) xs from in
      let put = address_stands fetches items k r l (fit.registers r l (get_in items k (item.AddressOf r l) at)) fit.few at in (
        (
          stands (item_address items k) p (Movz r 0 (at_label l % 2 ^ 16)) here put.0,
          stands (item_address items k + 4) (p + 4) (Movk r 1 (at_label l / 2 ^ 16)) (omega arith) put.1,
        ),
        stand_from (suc k) (p + 4 + 4) xs (behind k (item.AddressOf r l) xs from) (next k (item.AddressOf r l) xs p (p + 4 + 4) from here (omega arith)),
      )
  stand_from k p (item.Mark m ∷ xs) from here = absurd (fit.unmarked m (get_in items k (item.Mark m) (first k (item.Mark m) xs from)))
  stand_from k p (item.Note n ∷ xs) from here =
      let listed = (notes_listed items code_base p n).1 (k, first k (item.Note n) xs from, sym here) in
      (over n p listed, stand_from (suc k) p xs (behind k (item.Note n) xs from) (next k (item.Note n) xs p p from here (omega arith)))

pub laid_items_stand : FetchesByTheTable → LaidItemsStand
laid_items_stand fetches i items fit once coded over =
    stand_from fetches i items fit once coded over 0 code_base items (λ j x at. let e : j ≡ 0 + j = omega arith in subst (λ (n : ℕ). slice_get items n ≡ Some x) e at) (omega arith)

-- ---- two lists

pub words_of_two : WordsOfTwo
words_of_two [] ys = let e : words_needed ys ≡ 0 + words_needed ys = omega arith in e
words_of_two (x ∷ xs) ys = ap (λ (n : ℕ). item_words x + n) (words_of_two xs ys) ∙ grouped (item_words x) (words_needed xs) (words_needed ys) where
  grouped : (a b c : ℕ) → a + (b + c) ≡ a + b + c
  grouped a b c = omega arith

pub stand_in_two : ItemsStandInTwo
stand_in_two i label p [] ys stands = let e : p ≡ p + 4 * 0 = omega arith in (tt, subst (λ (a : ℕ). ItemsStand i label a ys) e stands)
stand_in_two i label p (x ∷ xs) ys stands = in_two p x xs ys stands (λ q s. stand_in_two i label q xs ys s) where
  moved : (a b : ℕ) (ys : List Item) → a ≡ b → ItemsStand i label a ys → ItemsStand i label b ys
  moved a b ys e there = subst (λ (q : ℕ). ItemsStand i label q ys) e there

  in_two : (p : ℕ) (x : Item) (xs ys : List Item) → ItemsStand i label p (x ∷ (xs ++ ys))
      → ((q : ℕ) → ItemsStand i label q (xs ++ ys) → ItemsStand i label q xs × ItemsStand i label (q + 4 * words_needed xs) ys)
      → ItemsStand i label p (x ∷ xs) × ItemsStand i label (p + 4 * words_needed (x ∷ xs)) ys
  in_two p (item.Inst y) xs ys stands rest = let r = rest (p + 4) stands.1 in ((stands.0, r.0), moved _ _ ys (omega arith) r.1)
  in_two p (item.Label l) xs ys stands rest = let r = rest p stands.1 in ((stands.0, r.0), moved _ _ ys (omega arith) r.1)
  in_two p (item.BranchTo form l) xs ys stands rest = let r = rest (p + 4) stands.1 in ((stands.0, r.0), moved _ _ ys (omega arith) r.1)
  in_two p (item.AddressOf k l) xs ys stands rest = let r = rest (p + 4 + 4) stands.1 in ((stands.0, r.0), moved _ _ ys (omega arith) r.1)
  in_two p (item.Mark m) xs ys stands rest = absurd stands
  in_two p (item.Note n) xs ys stands rest = let r = rest p stands.1 in ((stands.0, r.0), moved _ _ ys (omega arith) r.1)

-- ---- words

only_word : (x word : ℕ) → Contains (x ∷ []) word → x ≡ word
only_word x word has =
    elim (Contains-push_cases [] x word has) [
      | inl none ↦ absurd (omega (arith, none.1))
      | inr same ↦ same
    ]

encoded : (x : Inst) (word : ℕ) → IsInRange x → Contains (word_of x ∷ []) word → IsEncoded word
encoded x word range has = record { inst = x; range = range; is = only_word (word_of x) word has }

encoded_in : (items : List Item) → CanBeAssembled items → (k here : ℕ) (x : Item) (word : ℕ) → slice_get items k ≡ Some x → here ≡ 0 + place items k
    → Contains (words_of_item (label_place items) code_base here x) word → IsEncoded word
encoded_in items fit k here (item.Inst x) word at is has = encoded x word (fit.instructions x (get_in items k (item.Inst x) at)) has
encoded_in items fit k here (item.BranchTo form l) word at is has =
    let few = fit.few in
    let from = before_within item_words items k in
    let to = before_within item_words items (position_or_len (is_label l) items) in
    encoded (branch form (distance here (label_place items l))) word
    (branch_in_range form here (label_place items l) (fit.branches form l (get_in items k (item.BranchTo form l) at)) (omega arith) (omega arith)) has
encoded_in items fit k here (item.AddressOf r l) word at is has =
    let few = fit.few in
    let to = before_within item_words items (position_or_len (is_label l) items) in
    let low = fit.registers r l (get_in items k (item.AddressOf r l) at) in
    let one = Movz r 0 (label_address items l % 2 ^ 16) in
    let two = Movk r 1 (label_address items l / 2 ^ 16) in
    let two_range : IsInRange two = high_in_range r (label_place items l) low (omega arith) in
    elim (Contains-push_cases (word_of one ∷ []) (word_of two) word has) [
      | inl front ↦ encoded one word (low_in_range r (label_address items l) low) front
      | inr last ↦ record { inst = two; range = two_range; is = last }
    ]
encoded_in items fit k here (item.Label l) word at is has = absurd (omega (arith, has.1))
encoded_in items fit k here (item.Mark m) word at is has = absurd (omega (arith, has.1))
encoded_in items fit k here (item.Note n) word at is has = absurd (omega (arith, has.1))

pub laid_words_encode : LaidWordsEncode
laid_words_encode items fit = (
  gives-length item_words (words_of_item (label_place items) code_base) (words_are_counted (label_place items) code_base) 0 items,
  λ word has.
      let f : GivenBy item_words (words_of_item (label_place items) code_base) 0 items word = given_by item_words (words_of_item (label_place items) code_base) 0 items word has in
      encoded_in items fit f.k f.there f.thing word f.at f.is f.has,
)
