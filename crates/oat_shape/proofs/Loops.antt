-- What a loop over a list has seen: a set has the keys of the items so far.
use Rattle.std.proofs.Common.{◌≡◌, ℕ, ◌+◌, ◌<◌, ◌≤◌, Bool, true, false, List, [], length, get_or, take, Some, refl, sym, ◌∙◌, ap, inl, inr, arith, cond, Ordering}
use Rattle.std.specs.{Prelude.◌||◌, Prelude.IsTrue, Prelude.◌↔◌, Prelude.not, List.slice_get, List.list_any, BTreeMap.is_at, BTreeSet.BTreeSet, BTreeSet.contains, BTreeSet.Updates}
use Rattle.std.proofs.lemmas.{Bool.cases_Bool, Bool.both_ways, Bool.not-true, List.length-take-le, List.get_or-take, List.Folds.Any-from_list_any, List.Folds.list_any_at, List.Folds.list_any_more}
use Rattle.std.proofs.lemmas.{Option.slice_get_within, Option.slice_get_read, Option.get_or_from_slice_get}

pub same_item : {X : Type 0} (xs : List X) (i k : ℕ) (x y : X) → i ≡ k → slice_get xs i ≡ Some x → slice_get xs k ≡ Some y → x ≡ y
same_item xs i k x y here one other =
    let both : Some x ≡ Some y = sym one ∙ ap (slice_get xs) here ∙ other in
    cc

-- ---- a set has the keys of the items; `test q x` says that q compares as equal to the key of x

abbrev pub Seen : {K X : Type 0} → (K → K → Ordering) → (K → X → Bool) → List X → ℕ → BTreeSet K → Type 0
Seen {K} {X} cmp test xs i s = (q : K) → contains cmp s q ≡ list_any (test q) (take i xs)

pub Seen-none : {K X : Type 0} (cmp : K → K → Ordering) (test : K → X → Bool) (xs : List X) (s : BTreeSet K)
    → s.keys ≡ [] → Seen cmp test xs 0 s
Seen-none cmp test xs s empty q = ap (list_any (is_at (cmp q))) empty

pub Seen-more : {K X : Type 0} (cmp : K → K → Ordering) (test : K → X → Bool) (xs : List X) (i : ℕ) (x : X) (s n : BTreeSet K)
    → slice_get xs i ≡ Some x → ((q : K) → contains cmp n q ≡ (contains cmp s q || test q x))
    → Seen cmp test xs i s → Seen cmp test xs (i + 1) n
Seen-more cmp test xs i x s n here added seen q =
    let within = slice_get_within xs i x here in
    let read = get_or_from_slice_get xs i x x here in
    let more = list_any_more (test q) xs i x within in
    added q ∙ ap (λ b. b || test q x) (seen q) ∙ ap (λ y. list_any (test q) (take i xs) || test q y) (sym read) ∙ sym more

cond_or : (a b : Bool) → cond a true b ≡ (b || a)
cond_or true true = refl
cond_or true false = refl
cond_or false true = refl
cond_or false false = refl

-- what `insert` says of the set
pub added_key : {K X : Type 0} (cmp : K → K → Ordering) (test : K → X → Bool) (x : X) (k : K) (s n : BTreeSet K)
    → ((q : K) → is_at (cmp k) q ≡ test q x) → Updates cmp s n k true
    → (q : K) → contains cmp n q ≡ (contains cmp s q || test q x)
added_key cmp test x k s n same updates q =
    updates.0 q ∙ cond_or (is_at (cmp k) q) (contains cmp s q) ∙ ap (λ b. contains cmp s q || b) (same q)

pub Seen-found : {K X : Type 0} (cmp : K → K → Ordering) (test : K → X → Bool) (xs : List X) (i : ℕ) (s : BTreeSet K) (k : K)
    → i ≤ length xs → Seen cmp test xs i s → contains cmp s k ≡ true
    → (j : ℕ) × (x : X) × (j < i) × (slice_get xs j ≡ Some x) × (test k x ≡ true)
Seen-found cmp test xs i s k many seen there =
    let any = Any-from_list_any (test k) (take i xs) (sym (seen k) ∙ there) in
    let count = length-take-le i xs many in
    let below : any.0 < i = omega (arith, any.2, count) in
    let read : any.1 ≡ get_or xs any.0 any.1 = sym any.3 ∙ get_or-take i xs any.0 any.1 below in
    (any.0, any.1, below, slice_get_read xs (length xs) any.0 any.1 refl (omega arith) read, any.4)

pub Seen-fresh : {K X : Type 0} (cmp : K → K → Ordering) (test : K → X → Bool) (xs : List X) (i : ℕ) (s : BTreeSet K) (k : K)
    → i ≤ length xs → Seen cmp test xs i s → contains cmp s k ≡ false
    → (j : ℕ) (x : X) → j < i → slice_get xs j ≡ Some x → test k x ≡ true → ⊥
Seen-fresh cmp test xs i s k many seen absent j x below found passes =
    let count = length-take-le i xs many in
    let within : j < length (take i xs) = omega (arith, count) in
    let read : get_or (take i xs) j x ≡ x = get_or-take i xs j x below ∙ get_or_from_slice_get xs j x x found in
    let any = list_any_at (test k) (take i xs) j x within (ap (test k) read ∙ passes) in
    both_ways (contains cmp s k) absent (seen k ∙ any)

-- a key is new just where no item so far clashes
pub fresh_iff : {K X : Type 0} (cmp : K → K → Ordering) (test : K → X → Bool) (xs : List X) (i : ℕ) (s : BTreeSet K) (k : K) (fresh : Bool)
    (Clash : X → Type 0) → i ≤ length xs → Seen cmp test xs i s → fresh ≡ not (contains cmp s k)
    → ((x : X) → test k x ≡ true → Clash x) → ((x : X) → Clash x → test k x ≡ true)
    → IsTrue fresh ↔ ((j : ℕ) (x : X) → j < i → slice_get xs j ≡ Some x → Clash x → ⊥)
fresh_iff cmp test xs i s k fresh Clash many seen said clashes passes = (
  λ yes j x below found clash.
      Seen-fresh cmp test xs i s k many seen (not-true _ (sym said ∙ yes)) j x below found (passes x clash),
  λ none.
      elim (cases_Bool (contains cmp s k)) as (λ _. IsTrue fresh) [
        | inl there ↦
            let first = Seen-found cmp test xs i s k many seen there in
            absurd (none first.0 first.1 first.2 first.3 (clashes first.1 first.4))
        | inr absent ↦ said ∙ ap not absent
      ],
)
