-- The rows of items: which of them have numbers, and where they stand.
use Rattle.std.proofs.Common.{◌≡◌, ℕ, ◌+◌, ◌<◌, ◌≤◌, List, [], ◌∷◌, ◌++◌, map, refl, sym, ap, ◌∙◌, subst, true, false, arith, inl, inr}
use Rattle.std.specs.{Prelude.Contains, Prelude.count_by, Prelude.⊤, List.AllByRecursion}
use Rattle.std.proofs.lemmas.{Bool.true≢false, List.map-append, List.Concat.flat_map-append, List.Elements.Contains-append_cases}
use Rattle.oat_asm.proofs.Giving.{gives-append}
use Rattle.oat_parts.specs.{code_base, Row, address_of, is_numbered, Ret, Check, NoteAt, Item, item_words, address, notes_of_item, items_give, expanded, expansion, row_of, Making.words_become}
use Rattle.oat_parts.proofs.{Lists.not_in_none, Lists.first_in, Lists.later_in, Lists.cons_cases, Making.words_add}
use Rattle.oat_symbols.specs.Names.{is_site_item}
use Rattle.oat_symbols.proofs.Counting.{count_both}
use Rattle.oat_asm.specs.declared.item.Item.TheVariants as item

abbrev pub rows_of : (ℕ → ℕ) → ℕ → List Item → List Row
rows_of at here items = map (λ n. row_of at n.at n.note) (items_give (notes_of_item code_base) here (expansion items))

pub rows_append : (at : ℕ → ℕ) (here : ℕ) (xs ys : List Item) → rows_of at here (xs ++ ys) ≡ rows_of at here xs ++ rows_of at (here + words_become xs) ys
rows_append at here xs ys =
    let row = λ (n : NoteAt). row_of at n.at n.note in
    ap (λ (is : List Item). map row (items_give (notes_of_item code_base) here is)) (flat_map-append expanded xs ys)
    ∙ ap (map row) (gives-append item_words (notes_of_item code_base) here (expansion xs) (expansion ys))
    ∙ map-append row (items_give (notes_of_item code_base) here (expansion xs)) (items_give (notes_of_item code_base) (here + words_become xs) (expansion ys))

-- a note is that of a check
abbrev pub HasFewNotes : Item → Type 0
HasFewNotes (item.Note n) = n ≡ Check
HasFewNotes _ = ⊤

-- an item has no row, or one, which has no number or stands over words
data Own (at : ℕ → ℕ) (here : ℕ) (x : Item) : Type 0 where
  none : rows_of at here (x ∷ []) ≡ [] → Own at here x
  uncounted : (row : Row) → rows_of at here (x ∷ []) ≡ row ∷ [] → is_numbered row ≡ false → Own at here x
  one : (row : Row) → rows_of at here (x ∷ []) ≡ row ∷ [] → address_of row ≡ address code_base here → 1 ≤ words_become (x ∷ []) → Own at here x

own : (at : ℕ → ℕ) (here : ℕ) (x : Item) → HasFewNotes x → Own at here x
own at here (item.Inst i) few = none refl
own at here (item.Label l) few = none refl
own at here (item.BranchTo form l) few = none refl
own at here (item.AddressOf r l) few = none refl
own at here (item.Note n) few = subst (λ m. Own at here (item.Note m)) (sym few) (uncounted _ refl refl)
own at here (item.Mark Ret) few = one _ refl refl (omega arith)
own at here (item.Mark _) few = one _ refl refl (omega arith)

own_sites : (at : ℕ → ℕ) (here : ℕ) (x : Item) → HasFewNotes x → count_by is_numbered (rows_of at here (x ∷ [])) ≡ count_by is_site_item (x ∷ [])
own_sites at here (item.Note n) few = subst (λ m. count_by is_numbered (rows_of at here (item.Note m ∷ [])) ≡ count_by is_site_item (item.Note m ∷ [])) (sym few) refl
own_sites at here (item.Mark Ret) few = refl
own_sites at here _ few = refl

pub all_sites : (at : ℕ → ℕ) (here : ℕ) (items : List Item) → AllByRecursion HasFewNotes items → count_by is_numbered (rows_of at here items) ≡ count_by is_site_item items
all_sites at here [] few = refl
all_sites at here (x ∷ xs) few =
    let split = ap (count_by is_numbered) (rows_append at here (x ∷ []) xs) in
    let rows = count_both is_numbered (rows_of at here (x ∷ [])) (rows_of at (here + words_become (x ∷ [])) xs) in
    omega (arith, split, rows, count_both is_site_item (x ∷ []) xs, own_sites at here x few.0, all_sites at (here + words_become (x ∷ [])) xs few.1)

-- a row with a number stands between the places of its items
abbrev pub IsBetween : ℕ → ℕ → Row → Type 0
IsBetween from to row = (address code_base from ≤ address_of row) × (address_of row < address code_base to)

own_between : (at : ℕ → ℕ) (here : ℕ) (x : Item) (row : Row) → Contains (rows_of at here (x ∷ [])) row → is_numbered row ≡ true → Own at here x → IsBetween here (here + words_become (x ∷ [])) row
own_between at here x row has counted (none e) = absurd (not_in_none row (subst (λ (rs : List Row). Contains rs row) e has))
own_between at here x row has counted (uncounted r e free) =
    elim (cons_cases r [] row (subst (λ (rs : List Row). Contains rs row) e has)) [
      | inl same ↦ absurd (true≢false (sym counted ∙ sym (ap is_numbered same) ∙ free))
      | inr later ↦ absurd (not_in_none row later)
    ]
own_between at here x row has counted (one r e there some) =
    elim (cons_cases r [] row (subst (λ (rs : List Row). Contains rs row) e has)) [
      | inl same ↦ let a : address_of r ≡ address_of row = ap address_of same in (omega arith, omega arith)
      | inr later ↦ absurd (not_in_none row later)
    ]

pub between : (at : ℕ → ℕ) (here : ℕ) (items : List Item) (row : Row) → AllByRecursion HasFewNotes items → Contains (rows_of at here items) row → is_numbered row ≡ true → IsBetween here (here + words_become items) row
between at here [] row few has counted = absurd (not_in_none row has)
between at here (x ∷ xs) row few has counted =
    let front = words_become (x ∷ []) in
    let sum : words_become (x ∷ xs) ≡ front + words_become xs = words_add (x ∷ []) xs in
    elim (Contains-append_cases (rows_of at here (x ∷ [])) (rows_of at (here + front) xs) row (subst (λ (rs : List Row). Contains rs row) (rows_append at here (x ∷ []) xs) has)) [
      | inl here_ ↦ let r = own_between at here x row here_ counted (own at here x few.0) in let a = r.0 in let b = r.1 in (omega arith, omega arith)
      | inr later ↦ let r = between at (here + front) xs row few.1 later counted in let a = r.0 in let b = r.1 in (omega arith, omega arith)
    ]

pub few_notes : (items : List Item) → ((x : Item) → Contains items x → HasFewNotes x) → AllByRecursion HasFewNotes items
few_notes [] each = tt
few_notes (x ∷ xs) each = (each x (first_in x xs), few_notes xs (λ y has. each y (later_in x xs y has)))
