-- Loops over items that carry the place: one item further, and bounds.
use Rattle.std.proofs.Common.{◌≡◌, ℕ, ◌+◌, ◌*◌, ◌<◌, ◌≤◌, List, [], ◌∷◌, ◌++◌, length, get_or, drop, sym, ap, ◌∙◌, arith, append_assoc}
use Rattle.std.proofs.lemmas.List.{at_drop_more}
use Rattle.oat_asm.specs.{declared.item.Item.Item, Items.item_words, Items.words_needed, Layout.items_give}
use Rattle.oat_asm.specs.declared.item.Item.TheVariants as item

at_most_two : (i : Item) → item_words i ≤ 2
at_most_two (item.Inst x) = omega arith
at_most_two (item.BranchTo x y) = omega arith
at_most_two (item.AddressOf x y) = omega arith
at_most_two _ = omega arith

pub needs_at_most_two : (items : List Item) → words_needed items ≤ 2 * length items
needs_at_most_two [] = omega arith
needs_at_most_two (i ∷ items) = omega (arith, at_most_two i, needs_at_most_two items)

-- the words before the next item and those from it on are all
pub words_on : (items : List Item) (i : ℕ) (d : Item) (here count all : ℕ) → i < length items → count ≡ item_words (get_or items i d) → here + words_needed (drop i items) ≡ all → here + count + words_needed (drop (i + 1) items) ≡ all
words_on items i d here count all within counted before =
    let rest : words_needed (drop i items) ≡ item_words (get_or items i d) + words_needed (drop (i + 1) items) = at_drop_more words_needed items i d within in
    omega arith

-- what is made and what the rest gives is all that the items give
pub gives_on : {A : Type 0} (gives : ℕ → Item → List A) (items : List Item) (i : ℕ) (d : Item) (here count : ℕ) (out new whole : List A)
    → i < length items → count ≡ item_words (get_or items i d) → out ++ items_give gives here (drop i items) ≡ whole → new ≡ out ++ gives here (get_or items i d)
    → new ++ items_give gives (here + count) (drop (i + 1) items) ≡ whole
gives_on gives items i d here count out new whole within counted before added =
    let x = get_or items i d in
    let rest = items_give gives (here + item_words x) (drop (i + 1) items) in
    let more : items_give gives here (drop i items) ≡ gives here x ++ rest = at_drop_more (items_give gives here) items i d within in
    ap (λ n. new ++ items_give gives (here + n) (drop (i + 1) items)) counted
    ∙ ap (λ s. s ++ rest) added
    ∙ append_assoc out (gives here x) rest
    ∙ ap (λ s. out ++ s) (sym more)
    ∙ before
