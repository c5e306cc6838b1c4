-- Where a label was seen last: a loop over the items finds the place of each label that stands once.
use Rattle.std.proofs.Common.{◌≡◌, ℕ, suc, ◌+◌, ◌≤◌, List, [], ◌∷◌, length, drop, refl, sym, ap, ◌∙◌, Bool, true, false, cond, Option, Some, None, arith}
use Rattle.std.specs.{Prelude.unwrap_or, List.count_by, List.position_or_len}
use Rattle.std.proofs.lemmas.{List.drop_all, List.Sums.sum_by-cons}
use Rattle.oat_asm.specs.{declared.item.Item.Item, Items.item_words, Items.place, Items.label_place, Items.is_label, Items.StandsOnce}

-- the place of the last item with the label, of those from here on; else what was known
abbrev pub seen : ℕ → List Item → ℕ → Option ℕ → Option ℕ
seen here [] label known = known
seen here (i ∷ items) label known = seen (here + item_words i) items label (cond (is_label label i) (Some here) known)

pub count_cons : (label : ℕ) (i : Item) (items : List Item) → count_by (is_label label) (i ∷ items) ≡ cond (is_label label i) 1 0 + count_by (is_label label) items
count_cons label i items = sum_by-cons (λ x. cond (is_label label x) 1 0) i items

-- the two ways in which the count of a list comes about
count_none : (b : Bool) (n : ℕ) → cond b 1 0 + n ≡ 0 → (b ≡ false) × (n ≡ 0)
count_none true n h = absurd (omega arith)
count_none false n h = (refl, omega arith)

none_seen : (here : ℕ) (items : List Item) (label : ℕ) (known : Option ℕ) → count_by (is_label label) items ≡ 0 → seen here items label known ≡ known
none_seen here [] label known none = refl
none_seen here (i ∷ items) label known none =
    let split = count_none (is_label label i) (count_by (is_label label) items) (sym (count_cons label i items) ∙ none) in
    rw split.0 (none_seen (here + item_words i) items label known split.1)

-- an item before the label, or the label itself
pub place_of_cons : (i : Item) (items : List Item) (label : ℕ) (b : Bool) → is_label label i ≡ b → label_place (i ∷ items) label ≡ cond b 0 (item_words i + label_place items label)
place_of_cons i items label true e = rw e refl
place_of_cons i items label false e =
    let p = position_or_len (is_label label) items in
    let n : 1 + p ≡ suc p = omega arith in
    rw e (ap (λ k. place (i ∷ items) k) n)

once_seen_by : (here : ℕ) (i : Item) (items : List Item) (label : ℕ) (known : Option ℕ) (b : Bool) → is_label label i ≡ b → cond b 1 0 + count_by (is_label label) items ≡ 1 → (StandsOnce items label → (known' : Option ℕ) → seen (here + item_words i) items label known' ≡ Some (here + item_words i + label_place items label)) → seen (here + item_words i) items label (cond b (Some here) known) ≡ Some (here + cond b 0 (item_words i + label_place items label))
once_seen_by here i items label known true e once later =
    none_seen (here + item_words i) items label (Some here) (omega arith)
    ∙ ap Some (omega arith)
once_seen_by here i items label known false e once later =
    later (omega arith) known ∙ ap Some (omega arith)

once_seen : (here : ℕ) (items : List Item) (label : ℕ) (known : Option ℕ) → StandsOnce items label → seen here items label known ≡ Some (here + label_place items label)
once_seen here [] label known once = absurd (omega arith)
once_seen here (i ∷ items) label known once =
    once_seen_by here i items label known (is_label label i) refl (sym (count_cons label i items) ∙ once) (λ h k. once_seen (here + item_words i) items label k h)
    ∙ ap (λ n. Some (here + n)) (sym (place_of_cons i items label (is_label label i) refl))

-- behind the last item, a label that stands once is known at its place
pub finds_place : (items : List Item) (i here label : ℕ) (known : Option ℕ) → length items ≤ i → seen here (drop i items) label known ≡ seen 0 items label None → StandsOnce items label → unwrap_or known 0 ≡ label_place items label
finds_place items i here label known past h once =
    let known_is : known ≡ seen 0 items label None = sym (ap (λ rest. seen here rest label known) (drop_all i items past)) ∙ h in
    ap (λ o. unwrap_or o 0) (known_is ∙ once_seen 0 items label None once) ∙ omega arith
