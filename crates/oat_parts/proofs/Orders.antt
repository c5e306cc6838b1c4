-- The labels of a program in their order, and the functions and blocks of its map.
use Rattle.std.proofs.Common.{◌≡◌, ℕ, zero, suc, ◌+◌, ◌-◌, ◌<◌, List, [], ◌∷◌, ◌++◌, length, map, refl, sym, ap, ◌∙◌, subst, Some, arith, inl, inr, length-append, get_or}
use Rattle.std.specs.{Prelude.slice_get, Prelude.Contains, List.AllByRecursion, List.Sorted.IsStrictlyIncreasing}
use Rattle.std.proofs.lemmas.{Bool.cases_lt, List.map-append, List.Elements.Contains-append_left, List.Elements.Contains-append_right, List.Elements.Contains-append_cases, Option.slice_get-get_or}
use Rattle.oat_asm.specs.{Function, Block}
use Rattle.oat_asm.proofs.Giving.{get_right}
use Rattle.oat_parts.specs.Symbols.{FunctionSymbol, AreDistinct, Rises, up_from, own_labels, function_labels, block_labels, blocks_in, labels_from, functions_of, blocks_from, blocks_of}
use Rattle.oat_parts.proofs.Lists.{not_in_none, first_in, later_in, cons_cases, get_in, get_map, map_length, distinct_get, get_before, rises_parts, rises_join, rises_get}

-- ---- the functions and blocks of the map by their labels

module _ (address : ℕ → ℕ) where
  pub entries_are : (es : List FunctionSymbol) → map (λ (f : Function). f.entry) (functions_of address es) ≡ map address (function_labels es)
  entries_are [] = refl
  entries_are (e ∷ es) = ap (λ (ns : List ℕ). address e.label ∷ ns) (entries_are es)

  starts_from : (n : ℕ) (names : List (List ℕ)) → map (λ (b : Block). b.start) (blocks_from address n names) ≡ map address (up_from n (length names))
  starts_from n [] = refl
  starts_from n (name ∷ names) = ap (λ (ns : List ℕ). address n ∷ ns) (starts_from (n + 1) names)

  pub starts_are : (es : List FunctionSymbol) → map (λ (b : Block). b.start) (blocks_of address es) ≡ map address (block_labels es)
  starts_are [] = refl
  starts_are (e ∷ es) =
      map-append (λ (b : Block). b.start) (blocks_from address e.first e.blocks) (blocks_of address es)
      ∙ ap (λ (ns : List ℕ). ns ++ map (λ (b : Block). b.start) (blocks_of address es)) (starts_from e.first e.blocks)
      ∙ ap (λ (ns : List ℕ). map address (own_labels e) ++ ns) (starts_are es)
      ∙ sym (map-append address (own_labels e) (block_labels es))

  names_from : (n : ℕ) (names : List (List ℕ)) → map (λ (b : Block). b.label) (blocks_from address n names) ≡ names
  names_from n [] = refl
  names_from n (name ∷ names) = ap (λ (ns : List (List ℕ)). name ∷ ns) (names_from (n + 1) names)

  pub block_names_are : (es : List FunctionSymbol) → map (λ (b : Block). b.label) (blocks_of address es) ≡ blocks_in es
  block_names_are [] = refl
  block_names_are (e ∷ es) =
      map-append (λ (b : Block). b.label) (blocks_from address e.first e.blocks) (blocks_of address es)
      ∙ ap (λ (ns : List (List ℕ)). ns ++ map (λ (b : Block). b.label) (blocks_of address es)) (names_from e.first e.blocks)
      ∙ ap (λ (ns : List (List ℕ)). e.blocks ++ ns) (block_names_are es)

  pub names_are : (es : List FunctionSymbol) → map (λ (f : Function). f.name) (functions_of address es) ≡ map (λ (e : FunctionSymbol). e.name) es
  names_are [] = refl
  names_are (e ∷ es) = ap (λ (ns : List (List ℕ)). e.name ∷ ns) (names_are es)

-- ---- labels of functions and of blocks

pub function_in_labels : (es : List FunctionSymbol) (x : ℕ) → Contains (function_labels es) x → Contains (labels_from es) x
function_in_labels [] x has = absurd (not_in_none x has)
function_in_labels (e ∷ es) x has =
    elim (cons_cases e.label (function_labels es) x has) [
      | inl same ↦ subst (Contains (e.label ∷ (own_labels e ++ labels_from es))) same (first_in e.label (own_labels e ++ labels_from es))
      | inr later ↦ later_in e.label (own_labels e ++ labels_from es) x (Contains-append_right (own_labels e) (labels_from es) x (function_in_labels es x later))
    ]

pub block_in_labels : (es : List FunctionSymbol) (x : ℕ) → Contains (block_labels es) x → Contains (labels_from es) x
block_in_labels [] x has = absurd (not_in_none x has)
block_in_labels (e ∷ es) x has =
    later_in e.label (own_labels e ++ labels_from es) x (elim (Contains-append_cases (own_labels e) (block_labels es) x has) [
      | inl own ↦ Contains-append_left (own_labels e) (labels_from es) x own
      | inr later ↦ Contains-append_right (own_labels e) (labels_from es) x (block_in_labels es x later)
    ])

up_from_length : (n k : ℕ) → length (up_from n k) ≡ k
up_from_length n zero = refl
up_from_length n (suc k) = ap suc (up_from_length (n + 1) k)

pub own_length : (e : FunctionSymbol) → length (own_labels e) ≡ length e.blocks
own_length e = up_from_length e.first (length e.blocks)

pub labels_length : (es : List FunctionSymbol) → length (labels_from es) ≡ length (function_labels es) + length (block_labels es)
labels_length [] = refl
labels_length (e ∷ es) =
    let one = length-append (own_labels e) (labels_from es) in
    let two = length-append (own_labels e) (block_labels es) in
    omega (arith, labels_length es, one, two)

-- ---- where labels rise

module _ (to : ℕ → ℕ) where
  pub functions_rise : (es : List FunctionSymbol) → Rises to (labels_from es) → Rises to (function_labels es)
  functions_rise [] rises = tt
  functions_rise (e ∷ es) rises = (
    λ y has. rises.0 y (Contains-append_right (own_labels e) (labels_from es) y (function_in_labels es y has)),
    functions_rise es (rises_parts to (own_labels e) (labels_from es) rises.1).1,
  )

  pub blocks_rise : (es : List FunctionSymbol) → Rises to (labels_from es) → Rises to (block_labels es)
  blocks_rise [] rises = tt
  blocks_rise (e ∷ es) rises =
      let split = rises_parts to (own_labels e) (labels_from es) rises.1 in
      rises_join to (own_labels e) (block_labels es) split.0 (blocks_rise es split.1) (λ x y has also. split.2 x y has (block_in_labels es y also))

  -- a function's label and a block's have two places
  pub kinds_apart : (es : List FunctionSymbol) (x y : ℕ) → Rises to (labels_from es) → Contains (function_labels es) x → Contains (block_labels es) y → to x ≡ to y → ⊥
  kinds_apart [] x y rises has also same = not_in_none x has
  kinds_apart (e ∷ es) x y rises has also same =
      let split = rises_parts to (own_labels e) (labels_from es) rises.1 in
      elim (cons_cases e.label (function_labels es) x has) [
        | inl here ↦
            let there : to e.label ≡ to x = ap to here in
            elim (Contains-append_cases (own_labels e) (block_labels es) y also) [
              | inl own ↦ let less : to e.label < to y = rises.0 y (Contains-append_left (own_labels e) (labels_from es) y own) in absurd (omega arith)
              | inr later ↦ let less : to e.label < to y = rises.0 y (Contains-append_right (own_labels e) (labels_from es) y (block_in_labels es y later)) in absurd (omega arith)
            ]
        | inr behind ↦ elim (Contains-append_cases (own_labels e) (block_labels es) y also) [
          | inl own ↦ let less : to y < to x = split.2 y x own (function_in_labels es x behind) in absurd (omega arith)
          | inr later ↦ kinds_apart es x y split.1 behind later same
        ]
      ]

  -- a function begins before a block
  pub owner : (es : List FunctionSymbol) (y : ℕ) → Rises to (labels_from es) → Contains (block_labels es) y → (x : ℕ) × Contains (function_labels es) x × (to x < to y)
  owner [] y rises has = absurd (not_in_none y has)
  owner (e ∷ es) y rises has =
      elim (Contains-append_cases (own_labels e) (block_labels es) y has) [
        | inl own ↦ (e.label, first_in e.label (function_labels es), rises.0 y (Contains-append_left (own_labels e) (labels_from es) y own))
        | inr later ↦
            let r = owner es y (rises_parts to (own_labels e) (labels_from es) rises.1).1 later in
            (r.0, later_in e.label (function_labels es) r.0 r.1, r.2)
      ]

  -- a function begins between two blocks of one name
  pub record Between (es : List FunctionSymbol) (y z : ℕ) : Type 0 where
    pub x : ℕ
    pub has : Contains (function_labels es) x
    pub above : to y < to x
    pub below : to x < to z

  pub between : (es : List FunctionSymbol) (j k y z : ℕ) (name : List ℕ) → Rises to (labels_from es) → AllByRecursion (λ (e : FunctionSymbol). AreDistinct e.blocks) es → j < k
      → slice_get (block_labels es) j ≡ Some y → slice_get (block_labels es) k ≡ Some z → slice_get (blocks_in es) j ≡ Some name → slice_get (blocks_in es) k ≡ Some name → Between es y z
  between [] j k y z name rises distinct less first second one two = absurd cc
  between (e ∷ es) j k y z name rises distinct less first second one two =
      let split = rises_parts to (own_labels e) (labels_from es) rises.1 in
      let n = length e.blocks in
      let own = own_length e in
      elim (cases_lt k n) [
        | inl inside ↦ absurd (distinct_get e.blocks j k name distinct.0 less (sym (get_before e.blocks (blocks_in es) j (omega arith)) ∙ one) (sym (get_before e.blocks (blocks_in es) k inside) ∙ two))
        | inr past ↦
            let at_k : k ≡ n + (k - n) = omega arith in
            let labelled_k : k ≡ length (own_labels e) + (k - n) = omega arith in
            let z_behind = sym (get_right (own_labels e) (block_labels es) (k - n) k labelled_k) ∙ second in
            elim (cases_lt j n) [
              | inl before ↦
                  let y_own = get_in (own_labels e) j y (sym (get_before (own_labels e) (block_labels es) j (omega arith)) ∙ first) in
                  let r = owner es z split.1 (get_in (block_labels es) (k - n) z z_behind) in
                  record { x = r.0; has = later_in e.label (function_labels es) r.0 r.1; above = split.2 y r.0 y_own (function_in_labels es r.0 r.1); below = r.2 }
              | inr behind ↦
                  let at_j : j ≡ n + (j - n) = omega arith in
                  let labelled_j : j ≡ length (own_labels e) + (j - n) = omega arith in
                  let r : Between es y z = between es (j - n) (k - n) y z name split.1 distinct.1 (omega arith)
                  (sym (get_right (own_labels e) (block_labels es) (j - n) j labelled_j) ∙ first) z_behind
                  (sym (get_right e.blocks (blocks_in es) (j - n) j at_j) ∙ one) (sym (get_right e.blocks (blocks_in es) (k - n) k at_k) ∙ two) in
                  record { x = r.x; has = later_in e.label (function_labels es) r.x r.has; above = r.above; below = r.below }
            ]
      ]

-- what rises gives addresses that rise
pub increasing : (f g : ℕ → ℕ) (xs : List ℕ) → ((x y : ℕ) → g x < g y → f x < f y) → Rises g xs → IsStrictlyIncreasing (map f xs)
increasing f g xs keeps rises k within =
    let long = map_length f xs in
    let one = get_map f xs k (get_or (map f xs) k 0) (slice_get-get_or (map f xs) k 0 (omega arith)) in
    let two = get_map f xs (k + 1) (get_or (map f xs) (k + 1) 0) (slice_get-get_or (map f xs) (k + 1) 0 within) in
    let less = keeps one.0 two.0 (rises_get g xs k (k + 1) one.0 two.0 rises (omega arith) one.1 two.1) in
    let a = one.2 in
    let b = two.2 in
    omega arith
