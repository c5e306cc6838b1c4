-- Numbers of sites in a built image.
use Rattle.std.proofs.Common.{◌≡◌, ℕ, ◌+◌, ◌<◌, ◌≤◌, List, [], ◌∷◌, ◌++◌, length, refl, sym, ap, ◌∙◌, subst, Bool, ◌&&◌, Option, Some, arith, inl, inr, append_assoc}
use Rattle.std.specs.{Prelude.slice_get, Prelude.Contains, Prelude.nat_lt, Prelude.count_by, Prelude.◌⊎◌, List.AllByRecursion, Option.option_and_then}
use Rattle.std.proofs.lemmas.{Bool.cases_Bool, Bool.eq-eqb, Bool.lt-ltb, Bool.le-ltb, Option.slice_get_within, List.Concat.flat_map-append, List.Elements.Contains-append_cases}
use Rattle.std.proofs.lemmas.{List.Elements.Contains-append_right, List.Elements.Contains-append_left}
use Rattle.oat_asm.proofs.{Giving.get_left, Giving.get_right, Giving.before_front, Giving.before_back, LayoutLaws.label_placed}
use Rattle.oat_parts.specs.{code_base, Map, Row, address_of, site, place_of, place_name, is_numbered, is_same_place, is_numbered_before, Mark, Ret, Item, item_words, place, label_place, address}
use Rattle.oat_parts.specs.{StandsOnce, expanded, expansion, Symbols.SymbolTable, Symbols.IsSymbolTable, Symbols.labels_of, Parts.AreInParts, Built.built_address, Built.built_map, Built.HasLabelsOf}
use Rattle.oat_parts.specs.{Making.words_become}
use Rattle.oat_parts.proofs.{Lists.first_in, Lists.cons_cases, Lists.in_get, Lists.in_flat_map, Assembling.parts_have_the_labels, Making.words_add}
use Rattle.oat_symbols.specs.Names.{HasItsNames, is_site_item, SitesAreCounted}
use Rattle.oat_symbols.proofs.{Names.built_maps_have_names, SiteRows.rows_of, SiteRows.rows_append, SiteRows.HasFewNotes, SiteRows.all_sites, SiteRows.between, SiteRows.few_notes, Counting.count_both}
use Rattle.oat_symbols.proofs.{Counting.count_more, Counting.count_same, Counting.count_none, Counting.three_false_first, Counting.three_false_middle, Counting.three_false_last, Counting.three_first}
use Rattle.oat_symbols.proofs.{Counting.below, Counting.other_place}
use Rattle.oat_asm.specs.declared.item.Item.TheVariants as item

module _ (t : SymbolTable) (before middle behind : List Item) (l : ℕ) (m : Mark) (unlabelled : (x : ℕ) → Contains middle (item.Label x) → ⊥) where
  abbrev tail : List Item
  tail = item.Mark m ∷ behind

  abbrev items : List Item
  items = before ++ item.Label l ∷ (middle ++ tail)

  abbrev at : ℕ → ℕ
  at x = built_address items x

  abbrev to : ℕ → ℕ
  to x = label_place (expansion items) x

  abbrev start : ℕ
  start = 0 + words_become before

  abbrev here : ℕ
  here = start + words_become (item.Label l ∷ middle)

  abbrev flow : Map
  flow = built_map t items

  module _ (own_labels : HasLabelsOf t items) (names : HasItsNames t flow at) where
    all_few : (x : Item) → Contains items x → HasFewNotes x
    all_few (item.Note n) has = own_labels.checks n has
    all_few (item.Inst i) has = tt
    all_few (item.Label k) has = tt
    all_few (item.BranchTo form k) has = tt
    all_few (item.AddressOf r k) has = tt
    all_few (item.Mark k) has = tt

    few_before : AllByRecursion HasFewNotes before
    few_before = few_notes before (λ x has. all_few x (Contains-append_left before (item.Label l ∷ (middle ++ tail)) x has))

    few_middle : AllByRecursion HasFewNotes (item.Label l ∷ middle)
    few_middle = few_notes (item.Label l ∷ middle) (λ x has. all_few x (Contains-append_right before (item.Label l ∷ (middle ++ tail)) x (Contains-append_left (item.Label l ∷ middle) tail x has)))

    few_tail : AllByRecursion HasFewNotes tail
    few_tail = few_notes tail (λ x has. all_few x (Contains-append_right before (item.Label l ∷ (middle ++ tail)) x (Contains-append_right (item.Label l ∷ middle) tail x has)))

    rows_are : flow.rows ≡ rows_of at 0 before ++ (rows_of at start (item.Label l ∷ middle) ++ rows_of at here tail)
    rows_are =
        rows_append at 0 before (item.Label l ∷ (middle ++ tail))
        ∙ ap (λ (rs : List Row). rows_of at 0 before ++ rs) (rows_append at start (item.Label l ∷ middle) tail)

    -- ---- places of labels

    once : (x : ℕ) → Contains items (item.Label x) → StandsOnce (expansion items) x
    once x has =
        let r = in_get items (item.Label x) has in
        own_labels.once x (in_flat_map expanded items r.0 (item.Label x) (item.Label x) r.1 (first_in (item.Label x) []))

    -- a label of the first or of the second of two lists of items
    in_front : (xs ys : List Item) (x : ℕ) → items ≡ xs ++ ys → Contains xs (item.Label x) → to x ≤ words_become xs
    in_front xs ys x is has =
        let r = in_get xs (item.Label x) has in
        let j = in_get (expansion xs) (item.Label x) (in_flat_map expanded xs r.0 (item.Label x) (item.Label x) r.1 (first_in (item.Label x) [])) in
        let split : expansion items ≡ expansion xs ++ expansion ys = ap (λ (zs : List Item). expansion zs) is ∙ flat_map-append expanded xs ys in
        let found = subst (λ (zs : List Item). slice_get zs j.0 ≡ Some (item.Label x)) (sym split) (get_left (expansion xs) (expansion ys) j.0 (item.Label x) j.1) in
        let placed = label_placed (expansion items) j.0 x (once x (subst (λ (zs : List Item). Contains zs (item.Label x)) (sym is) (Contains-append_left xs ys (item.Label x) has))) found in
        let moved = ap (λ (zs : List Item). place zs j.0) split in
        let inside = slice_get_within (expansion xs) j.0 (item.Label x) j.1 in
        omega (arith, placed, moved, before_front item_words (expansion xs) (expansion ys) j.0 (omega arith))

    in_back : (xs ys : List Item) (x : ℕ) → items ≡ xs ++ ys → Contains ys (item.Label x) → words_become xs ≤ to x
    in_back xs ys x is has =
        let r = in_get ys (item.Label x) has in
        let j = in_get (expansion ys) (item.Label x) (in_flat_map expanded ys r.0 (item.Label x) (item.Label x) r.1 (first_in (item.Label x) [])) in
        let k = length (expansion xs) + j.0 in
        let split : expansion items ≡ expansion xs ++ expansion ys = ap (λ (zs : List Item). expansion zs) is ∙ flat_map-append expanded xs ys in
        let found = subst (λ (zs : List Item). slice_get zs k ≡ Some (item.Label x)) (sym split) (get_right (expansion xs) (expansion ys) j.0 k refl ∙ j.1) in
        let placed = label_placed (expansion items) k x (once x (subst (λ (zs : List Item). Contains zs (item.Label x)) (sym is) (Contains-append_right xs ys (item.Label x) has))) found in
        let moved = ap (λ (zs : List Item). place zs k) split in
        omega (arith, placed, moved, before_back item_words (expansion xs) (expansion ys) k j.0 refl)

    label_here : to l ≡ start
    label_here =
        let join : items ≡ (before ++ (item.Label l ∷ [])) ++ (middle ++ tail) = sym (append_assoc before (item.Label l ∷ []) (middle ++ tail)) in
        let low = in_back before (item.Label l ∷ (middle ++ tail)) l refl (first_in (item.Label l) (middle ++ tail)) in
        let high = in_front (before ++ (item.Label l ∷ [])) (middle ++ tail) l join (Contains-append_right before (item.Label l ∷ []) (item.Label l) (first_in (item.Label l) [])) in
        let sum = words_add before (item.Label l ∷ []) in
        omega arith

    mark_words : (k : Mark) → 1 ≤ words_become (item.Mark k ∷ [])
    mark_words Ret = omega arith
    mark_words _ = omega arith

    -- a label is before it, it, or behind the mark
    label_where : (x : ℕ) → Contains (labels_of t) x → (to x ≤ to l) ⊎ (here + 1 ≤ to x)
    label_where x listed =
        let e = label_here in
        elim (Contains-append_cases before (item.Label l ∷ (middle ++ tail)) (item.Label x) (own_labels.has x listed)) [
          | inl front ↦ let low = in_front before (item.Label l ∷ (middle ++ tail)) x refl front in inl (omega arith)
          | inr rest ↦ elim (cons_cases (item.Label l) (middle ++ tail) (item.Label x) rest) [
            | inl same ↦ let k : l ≡ x = cc in let f : to l ≡ to x = ap to k in inl (omega arith)
            | inr more ↦ elim (Contains-append_cases middle tail (item.Label x) more) [
              | inl inside ↦ absurd (unlabelled x inside)
              | inr last ↦ elim (cons_cases (item.Mark m) behind (item.Label x) last) [
                | inl same ↦ absurd (cc)
                | inr back ↦
                    let group = item.Mark m ∷ [] in
                    let front = (item.Label l ∷ middle) ++ group in
                    let join : items ≡ (before ++ front) ++ behind =
                    ap (λ (zs : List Item). before ++ zs) (sym (append_assoc (item.Label l ∷ middle) group behind)) ∙ sym (append_assoc before front behind) in
                    let high = in_back (before ++ front) behind x join back in
                    let one = words_add before front in
                    let two = words_add (item.Label l ∷ middle) group in
                    let some = mark_words m in
                    inr (omega arith)
              ]
            ]
          ]
        ]

    listed : Contains (labels_of t) l
    listed = own_labels.only l (Contains-append_right before (item.Label l ∷ (middle ++ tail)) (item.Label l) (first_in (item.Label l) (middle ++ tail)))

    place_in : (a : ℕ) → address code_base start ≤ a → a < address code_base (here + 1) → place_of flow a ≡ Some (at l)
    place_in a low high =
        let e = label_here in
        names.places l a listed (omega arith) (λ x has small. elim (label_where x has) [
          | inl less ↦ omega arith
          | inr more ↦ absurd (omega arith)
        ])

    -- ---- counting

    abbrev target : ℕ
    target = address code_base here

    place_here : place_of flow target ≡ Some (at l)
    place_here = place_in target (omega arith) (omega arith)

    abbrev counts : Row → Bool
    counts = is_numbered_before flow target

    counts_by : (row : Row) (o : Option ℕ) → place_of flow target ≡ o → counts row ≡ (is_numbered row && nat_lt (address_of row) target && is_same_place (place_of flow (address_of row)) o)
    counts_by row o e = ap (λ (p : Option ℕ). is_numbered row && nat_lt (address_of row) target && is_same_place (place_of flow (address_of row)) p) e

    abbrev near : Row → Bool
    near row = nat_lt (address_of row) target

    abbrev same : Row → Bool
    same row = is_same_place (place_of flow (address_of row)) (Some (at l))

    none_before : count_by counts (rows_of at 0 before) ≡ 0
    none_before = count_none counts (rows_of at 0 before) (λ row has.
        counts_by row (Some (at l)) place_here ∙ elim (cases_Bool (is_numbered row)) [
          | inr free ↦ three_false_first (is_numbered row) (near row) (same row) free
          | inl counted ↦
              let r = (between at 0 before row few_before has counted).1 in
              let e = label_here in
              three_false_last (is_numbered row) (near row) (same row)
              (other_place (place_of flow (address_of row)) (at l) (λ q is. let low = below flow (address_of row) q is in omega arith))
        ])

    all_between : count_by counts (rows_of at start (item.Label l ∷ middle)) ≡ count_by is_numbered (rows_of at start (item.Label l ∷ middle))
    all_between = count_same counts is_numbered (rows_of at start (item.Label l ∷ middle)) (λ row has.
        counts_by row (Some (at l)) place_here ∙ elim (cases_Bool (is_numbered row)) [
          | inr free ↦ three_false_first (is_numbered row) (near row) (same row) free ∙ sym free
          | inl counted ↦
              let r = between at start (item.Label l ∷ middle) row few_middle has counted in
              let low = r.0 in
              let high = r.1 in
              three_first (is_numbered row) (near row) (same row) (lt-ltb (address_of row) target (omega arith))
              (ap (λ (o : Option ℕ). is_same_place o (Some (at l))) (place_in (address_of row) low (omega arith)) ∙ eq-eqb (at l) (at l) refl)
        ])

    none_behind : count_by counts (rows_of at here tail) ≡ 0
    none_behind = count_none counts (rows_of at here tail) (λ row has.
        counts_by row (Some (at l)) place_here ∙ elim (cases_Bool (is_numbered row)) [
          | inr free ↦ three_false_first (is_numbered row) (near row) (same row) free
          | inl counted ↦ three_false_middle (is_numbered row) (near row) (same row) (le-ltb (address_of row) target (between at here tail row few_tail has counted).0)
        ])

    number : count_by counts flow.rows ≡ count_by is_site_item middle
    number =
        let mid = rows_of at start (item.Label l ∷ middle) in
        let back = rows_of at here tail in
        let all = ap (count_by counts) rows_are in
        omega (arith, all, count_both counts (rows_of at 0 before) (mid ++ back), count_both counts mid back, none_before, all_between, none_behind, all_sites at start (item.Label l ∷ middle) few_middle, count_more is_site_item (item.Label l) middle)

    pub site_is : site flow target ≡ record { place = place_name flow (at l); number = count_by is_site_item middle }
    site_is =
        ap (λ (o : Option ℕ). record { place = option_and_then (place_name flow) o; number = count_by counts flow.rows }) place_here
        ∙ ap (λ (n : ℕ). record { place = place_name flow (at l); number = n }) number

pub sites_are_counted : SitesAreCounted
sites_are_counted t items before middle behind l m table made is unlabelled =
    let ys = before ++ item.Label l ∷ (middle ++ item.Mark m ∷ behind) in
    let made_so : AreInParts t ys = subst (λ (zs : List Item). AreInParts t zs) is made in
    let there : address code_base (0 + words_become before + words_become (item.Label l ∷ middle)) ≡ address code_base (words_become before + words_become middle) = omega arith in
    let found = site_is t before middle behind l m unlabelled (parts_have_the_labels t ys table made_so) (built_maps_have_names t ys table made_so) in
    subst (λ (zs : List Item). site (built_map t zs) (address code_base (words_become before + words_become middle)) ≡ record { place = place_name (built_map t zs) (built_address zs l); number = count_by is_site_item middle }) (sym is)
    (subst (λ (a : ℕ). site (built_map t ys) a ≡ record { place = place_name (built_map t ys) (built_address ys l); number = count_by is_site_item middle }) there found)

-- the label stands behind the words of the items before it
pub label_at : (t : SymbolTable) (items before middle behind : List Item) (l : ℕ) (m : Mark) → IsSymbolTable t → AreInParts t items → items ≡ before ++ item.Label l ∷ (middle ++ item.Mark m ∷ behind)
    → ((x : ℕ) → Contains middle (item.Label x) → ⊥) → built_address items l ≡ address code_base (words_become before)
label_at t items before middle behind l m table made is unlabelled =
    let ys = before ++ item.Label l ∷ (middle ++ item.Mark m ∷ behind) in
    let made_so : AreInParts t ys = subst (λ (zs : List Item). AreInParts t zs) is made in
    let here = label_here t before middle behind l m unlabelled (parts_have_the_labels t ys table made_so) (built_maps_have_names t ys table made_so) in
    ap (λ (zs : List Item). built_address zs l) is ∙ omega arith
