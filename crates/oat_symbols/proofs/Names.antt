-- Names of places in a built image.
use Rattle.std.proofs.Common.{◌≡◌, ℕ, zero, suc, ◌+◌, ◌<◌, ◌≤◌, List, [], ◌∷◌, ◌++◌, length, map, refl, sym, ap, ◌∙◌, subst, Option, Some, None, arith, inl, inr}
use Rattle.std.specs.{Prelude.slice_get, Prelude.Contains, Prelude.nat_le, Prelude.find, Prelude.◌==◌, Prelude.◌⊎◌, List.filter, Option.option_map, Option.option_or, Option.unwrap_or}
use Rattle.std.proofs.lemmas.{Bool.le-leb, Bool.leb-true, Option.slice_get_within, List.Elements.Contains-append_left, List.Elements.Contains-append_right, List.Elements.Contains-append_cases}
use Rattle.oat_parts.specs.{Map, Function, Block, Row, entries_of, starts_of, PlaceName, places, place_of, function_below, block_name, place_name, Symbols.FunctionSymbol, Symbols.SymbolTable}
use Rattle.oat_parts.specs.{Symbols.Rises, Symbols.own_labels, Symbols.function_labels, Symbols.block_labels, Symbols.labels_from, Symbols.labels_of, Symbols.IsFunctionLabel, Symbols.IsBlockLabel}
use Rattle.oat_parts.specs.{Symbols.function_at, Symbols.functions_of, Symbols.blocks_from, Symbols.blocks_of, Built.built_address, Built.built_map}
use Rattle.oat_parts.proofs.{Lists.not_in_none, Lists.first_in, Lists.later_in, Lists.cons_cases, Lists.get_in, Lists.in_get, Lists.in_map, Lists.of_map, Lists.map_get, Lists.get_map}
use Rattle.oat_parts.proofs.{Lists.in_up_from, Lists.in_flat_map, Lists.rises_parts, Orders.entries_are, Orders.starts_are, Orders.function_in_labels, Orders.block_in_labels, Orders.functions_rise}
use Rattle.oat_parts.proofs.{Orders.blocks_rise, Orders.kinds_apart, Building.built_labels_rise}
use Rattle.oat_symbols.specs.Names.{HasItsNames, BuiltMapsHaveNames}
use Rattle.oat_symbols.proofs.Finding.{find_risen, find_none, find_last, greatest, of_filter, in_filter}

-- ---- measures of maps

rises_of_map : {A : Type 0} (g : A → ℕ) (xs : List A) → Rises (λ n. n) (map g xs) → Rises g xs
rises_of_map g [] up = tt
rises_of_map g (x ∷ xs) up = (λ y has. up.0 (g y) (in_map g xs y has), rises_of_map g xs up.1)

-- ---- labels

label_kinds : (es : List FunctionSymbol) (x : ℕ) → Contains (labels_from es) x → Contains (function_labels es) x ⊎ Contains (block_labels es) x
label_kinds [] x has = absurd (not_in_none x has)
label_kinds (e ∷ es) x has =
    elim (cons_cases e.label (own_labels e ++ labels_from es) x has) [
      | inl same ↦ inl (subst (Contains (e.label ∷ function_labels es)) same (first_in e.label (function_labels es)))
      | inr behind ↦ elim (Contains-append_cases (own_labels e) (labels_from es) x behind) [
        | inl own ↦ inr (Contains-append_left (own_labels e) (block_labels es) x own)
        | inr later ↦ elim (label_kinds es x later) [
          | inl function ↦ inl (later_in e.label (function_labels es) x function)
          | inr block ↦ inr (Contains-append_right (own_labels e) (block_labels es) x block)
        ]
      ]
    ]

-- a block stands behind its function's label, and before the next functions'
owner_is : (to : ℕ → ℕ) (es : List FunctionSymbol) (k : ℕ) (e : FunctionSymbol) (y : ℕ) → Rises to (labels_from es) → slice_get es k ≡ Some e → Contains (own_labels e) y
    → (to e.label < to y) × ((j : ℕ) (d : FunctionSymbol) → k < j → slice_get es j ≡ Some d → to y < to d.label)
owner_is to [] k e y up at own = absurd cc
owner_is to (c ∷ es) zero e y up at own =
    let same : e ≡ c = cc in
    let here : Contains (own_labels c) y = subst (λ (b : FunctionSymbol). Contains (own_labels b) y) same own in
    let split = rises_parts to (own_labels c) (labels_from es) up.1 in (
      subst (λ (b : FunctionSymbol). to b.label < to y) (sym same) (up.0 y (Contains-append_left (own_labels c) (labels_from es) y here)),
      λ j d less has. later j d less has split.2 here,
    ) where
      later : (j : ℕ) (d : FunctionSymbol) → 0 < j → slice_get (c ∷ es) j ≡ Some d → ((x z : ℕ) → Contains (own_labels c) x → Contains (labels_from es) z → to x < to z) → Contains (own_labels c) y → to y < to d.label
      later zero d less has apart here = absurd (omega arith)
      later (suc j) d less has apart here = apart y d.label here (function_in_labels es d.label (in_map (λ (b : FunctionSymbol). b.label) es d (get_in es j d has)))
owner_is to (c ∷ es) (suc k) e y up at own =
    let r = owner_is to es k e y (rises_parts to (own_labels c) (labels_from es) up.1).1 at own in
    (r.0, λ j d less has. later j d less has r.1) where
      later : (j : ℕ) (d : FunctionSymbol) → suc k < j → slice_get (c ∷ es) j ≡ Some d → ((m : ℕ) (b : FunctionSymbol) → k < m → slice_get es m ≡ Some b → to y < to b.label) → to y < to d.label
      later zero d less has rest = absurd (omega arith)
      later (suc j) d less has rest = rest j d (omega arith) has

block_in : (at : ℕ → ℕ) (n b : ℕ) (names : List (List ℕ)) (name : List ℕ) → slice_get names b ≡ Some name → Contains (blocks_from at n names) (record { start = at (n + b); label = name })
block_in at n b [] name has = absurd cc
block_in at n zero (x ∷ names) name has =
    let same : x ≡ name = cc in
    let none : n ≡ n + 0 = omega arith in
    subst (λ (m : ℕ). Contains (record { start = at n; label = x } ∷ blocks_from at (n + 1) names) (record { start = at m; label = name })) none
    (subst (λ (l : List ℕ). Contains (record { start = at n; label = x } ∷ blocks_from at (n + 1) names) (record { start = at n; label = l })) same (first_in (record { start = at n; label = x }) (blocks_from at (n + 1) names)))
block_in at n (suc b) (x ∷ names) name has =
    let next : n + 1 + b ≡ n + suc b = omega arith in
    later_in (record { start = at n; label = x }) (blocks_from at (n + 1) names) (record { start = at (n + suc b); label = name })
    (subst (λ (m : ℕ). Contains (blocks_from at (n + 1) names) (record { start = at m; label = name })) next (block_in at (n + 1) b names name has))

-- ---- names

named : (f : Option Function) (fn : Function) (o : Option PlaceName) → f ≡ Some fn → option_or (option_map (λ (h : Function). record { function = h.name; block = None }) f) o ≡ Some (record { function = fn.name; block = None })
named f fn o e = ap (λ (h : Option Function). option_or (option_map (λ (c : Function). record { function = c.name; block = None }) h) o) e

-- a measure of what becomes of elements is one of them
rises_along : {A B : Type 0} (f : A → B) (g : B → ℕ) (xs : List A) → Rises (λ x. g (f x)) xs → Rises g (map f xs)
rises_along f g [] up = tt
rises_along f g (x ∷ xs) up = (λ y has. let r = of_map f xs y has in subst (λ z. g (f x) < g z) r.2 (up.0 r.0 r.1), rises_along f g xs up.1)

rises_numbers : (at : ℕ → ℕ) (ls : List ℕ) → Rises at ls → Rises (λ n. n) (map at ls)
rises_numbers at ls up = rises_along at (λ n. n) ls up

module _ (t : SymbolTable) (at : ℕ → ℕ) (rows : List Row) (up : Rises at (labels_of t)) where
  abbrev fs : List Function
  fs = functions_of at t.functions

  abbrev bs : List Block
  bs = blocks_of at t.functions

  abbrev flow : Map
  flow = record { functions = fs; blocks = bs; rows = rows }

  functions_up : Rises (λ (f : Function). f.entry) fs
  functions_up =
      rises_of_map (λ (f : Function). f.entry) fs
      (subst (λ (ns : List ℕ). Rises (λ n. n) ns) (sym (entries_are at t.functions)) (rises_numbers at (function_labels t.functions) (functions_rise at t.functions up)))

  blocks_up : Rises (λ (b : Block). b.start) bs
  blocks_up =
      rises_of_map (λ (b : Block). b.start) bs
      (subst (λ (ns : List ℕ). Rises (λ n. n) ns) (sym (starts_are at t.functions)) (rises_numbers at (block_labels t.functions) (blocks_rise at t.functions up)))

  entry_label : (a : ℕ) → Contains (entries_of fs) a → (l : ℕ) × IsFunctionLabel t l × (at l ≡ a)
  entry_label a has = of_map at (function_labels t.functions) a (subst (λ (ns : List ℕ). Contains ns a) (entries_are at t.functions) has)

  start_label : (a : ℕ) → Contains (starts_of bs) a → (l : ℕ) × IsBlockLabel t l × (at l ≡ a)
  start_label a has = of_map at (block_labels t.functions) a (subst (λ (ns : List ℕ). Contains ns a) (starts_are at t.functions) has)

  function_there : (k : ℕ) (e : FunctionSymbol) → slice_get t.functions k ≡ Some e → slice_get fs k ≡ Some (function_at at e)
  function_there k e found = map_get (function_at at) t.functions k e found

  function_named : (k : ℕ) (e : FunctionSymbol) → slice_get t.functions k ≡ Some e → place_name flow (at e.label) ≡ Some (record { function = e.name; block = None })
  function_named k e found =
      named (find (λ (f : Function). f.entry == at e.label) fs) (function_at at e) (block_name flow (at e.label))
      (find_risen (λ (f : Function). f.entry) fs k (function_at at e) (at e.label) functions_up (function_there k e found) refl)

  own_block : (k b : ℕ) (e : FunctionSymbol) (name : List ℕ) → slice_get t.functions k ≡ Some e → slice_get e.blocks b ≡ Some name → Contains (own_labels e) (e.first + b)
  own_block k b e name found has = in_up_from e.first (length e.blocks) (e.first + b) (omega arith) (let w = slice_get_within e.blocks b name has in omega arith)

  below_named : (k b : ℕ) (e : FunctionSymbol) (name : List ℕ) → slice_get t.functions k ≡ Some e → slice_get e.blocks b ≡ Some name → function_below flow (at (e.first + b)) ≡ e.name
  below_named k b e name found has =
      let own = owner_is at t.functions k e (e.first + b) up found (own_block k b e name found has) in
      ap (λ (o : Option Function). unwrap_or (option_map (λ (f : Function). f.name) o) [])
      (find_last (λ (f : Function). f.entry) fs k (function_at at e) (at (e.first + b)) (function_there k e found) own.0 (λ j f more there.
      let r = get_map (function_at at) t.functions j f there in
      let later = own.1 j r.0 more r.1 in
      let entry : at r.0.label ≡ f.entry = ap (λ (h : Function). h.entry) r.2 in
      omega arith))

  block_named : (k b : ℕ) (e : FunctionSymbol) (name : List ℕ) → slice_get t.functions k ≡ Some e → slice_get e.blocks b ≡ Some name → place_name flow (at (e.first + b)) ≡ Some (record { function = e.name; block = Some name })
  block_named k b e name found has =
      let here = at (e.first + b) in
      let listed : Contains (block_labels t.functions) (e.first + b) = in_flat_map own_labels t.functions k e (e.first + b) found (own_block k b e name found has) in
      let none = find_none (λ (f : Function). f.entry) fs here (λ f there same.
      let l = entry_label f.entry (in_map (λ (h : Function). h.entry) fs f there) in
      kinds_apart at t.functions l.0 (e.first + b) up l.1 listed (l.2 ∙ same)) in
      let there = in_get bs (record { start = here; label = name })
      (in_flat_map (λ (c : FunctionSymbol). blocks_from at c.first c.blocks) t.functions k e (record { start = here; label = name }) found (block_in at e.first b e.blocks name has)) in
      let seen = find_risen (λ (c : Block). c.start) bs there.0 (record { start = here; label = name }) here blocks_up there.1 refl in
      ap (λ (o : Option Function). option_or (option_map (λ (h : Function). record { function = h.name; block = None }) o) (block_name flow here)) none
      ∙ ap (λ (o : Option Block). option_map (λ (c : Block). record { function = function_below flow here; block = Some c.label }) o) seen
      ∙ ap (λ (n : List ℕ). Some (record { function = n; block = Some name })) (below_named k b e name found has)

  place_is : (l a : ℕ) → Contains (labels_of t) l → at l ≤ a → ((x : ℕ) → Contains (labels_of t) x → at x ≤ a → at x ≤ at l) → place_of flow a ≡ Some (at l)
  place_is l a listed low most =
      greatest (filter (λ p. nat_le p a) (places flow)) None (at l)
      (λ q has.
      let r = of_filter (λ p. nat_le p a) (places flow) q has in
      let small = leb-true q a r.1 in
      elim (Contains-append_cases (entries_of fs) (starts_of bs) q r.0) [
        | inl entry ↦ let x = entry_label q entry in let e = x.2 in let bound = most x.0 (function_in_labels t.functions x.0 x.1) (omega arith) in omega arith
        | inr start ↦ let x = start_label q start in let e = x.2 in let bound = most x.0 (block_in_labels t.functions x.0 x.1) (omega arith) in omega arith
      ])
      tt
      (inl (in_filter (λ p. nat_le p a) (places flow) (at l) (elim (label_kinds t.functions l listed) [
        | inl function ↦ Contains-append_left (entries_of fs) (starts_of bs) (at l) (subst (λ (ns : List ℕ). Contains ns (at l)) (sym (entries_are at t.functions)) (in_map at (function_labels t.functions) l function))
        | inr block ↦ Contains-append_right (entries_of fs) (starts_of bs) (at l) (subst (λ (ns : List ℕ). Contains ns (at l)) (sym (starts_are at t.functions)) (in_map at (block_labels t.functions) l block))
      ]) (le-leb (at l) a low)))

  pub has_names : HasItsNames t flow at
  has_names = record { functions = function_named; blocks = block_named; places = place_is }

pub built_maps_have_names : BuiltMapsHaveNames
built_maps_have_names t items table made =
    has_names t (built_address items) (built_map t items).rows (built_labels_rise t items table made)
