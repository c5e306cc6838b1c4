-- Shape rule S8: keys of names and labels, the function of a place, and the rule from its three parts.
use Rattle.std.proofs.Common.{◌≡◌, ℕ, ◌+◌, ◌-◌, ◌<◌, ◌≤◌, Bool, true, List, length, get_or, Option, Some, refl, sym, ◌∙◌, ap, subst, inl, inr, arith, Bor, Ordering}
use Rattle.std.specs.{Prelude.Contains, Prelude.nat_le, List.slice_get, List.Sorted.IsStrictlyIncreasing, Ordering.nat_cmp, Ordering.is_eq, Ordering.ordering_then}
use Rattle.std.specs.{declared.cmp.Ordering.TheVariants.Less, declared.cmp.Ordering.TheVariants.Equal, declared.cmp.Ordering.TheVariants.Greater, Cmp.Lexicographic.slice_cmp}
use Rattle.std.proofs.lemmas.{Bool.cases_lt, Bool.false≢true, Bool.lt-leb, Bool.le-leb, Cmp.tied_itself, Cmp.nat_cmp_total, Cmp.nat_list_cmp_total, List.get_or-map, List.length-map}
use Rattle.std.proofs.lemmas.{List.Sums.position_or_len_is, Map.Lookups.exact_unsigned, Map.Lookups.exact_bytes, Option.slice_get_within, Option.slice_get_cases, Option.get_or_from_slice_get}
use Rattle.oat_image.specs.{Map, Function, Block, entries_of}
use Rattle.oat_shape.specs.{MapRules.S8, MapRules.IsFunctionOf, MapRules.IsPlaced, Parts.HaveOneName, Parts.HaveOneLabel, Parts.IsFirst, Parts.LiesInFunction, Parts.count_below, Lowest.Lowest}
use Rattle.oat_shape.specs.{Lowest.EachAt, Lowest.lower}
use Rattle.oat_shape.proofs.{Scans.lowest_same, Scans.lowest_both, Searches.rises_zero, Searches.before_count, Searches.is_counted, Searches.some_counted, Searches.count_within}

-- ---- keys

abbrev pub text_cmp : Bor (List ℕ) → Bor (List ℕ) → Ordering
text_cmp x y = slice_cmp nat_cmp x.now y.now

abbrev pub label_cmp : ℕ × Bor (List ℕ) → ℕ × Bor (List ℕ) → Ordering
label_cmp x y = ordering_then (nat_cmp x.0 y.0) (slice_cmp nat_cmp x.1.now y.1.now)

-- whether a key is that of the function, of the block
abbrev pub is_key_of : Bor (List ℕ) → Function → Bool
is_key_of q f = is_eq (slice_cmp nat_cmp f.name q.now)

abbrev pub is_label_key : List ℕ → ℕ × Bor (List ℕ) → Block → Bool
is_label_key entries q b = is_eq (ordering_then (nat_cmp (count_below entries b.start) q.0) (slice_cmp nat_cmp b.label q.1.now))

equal_from : (o : Ordering) → is_eq o ≡ true → o ≡ Equal
equal_from Less h = absurd (false≢true h)
equal_from Equal h = refl
equal_from Greater h = absurd (false≢true h)

both_equal : (o p : Ordering) → is_eq (ordering_then o p) ≡ true → (o ≡ Equal) × (p ≡ Equal)
both_equal Less p h = absurd (false≢true h)
both_equal Equal p h = (refl, equal_from p h)
both_equal Greater p h = absurd (false≢true h)

same_text : (x y : List ℕ) → x ≡ y → slice_cmp nat_cmp x y ≡ Equal
same_text x y same = ap (slice_cmp nat_cmp x) (sym same) ∙ tied_itself nat_list_cmp_total x

same_number : (x y : ℕ) → x ≡ y → nat_cmp x y ≡ Equal
same_number x y same = ap (nat_cmp x) (sym same) ∙ tied_itself nat_cmp_total x

pub name_at_key : (k : Bor (List ℕ)) (f g : Function) → k.now ≡ f.name → is_key_of k g ≡ true → HaveOneName g f
name_at_key k f g key passes = exact_bytes g.name k.now (equal_from _ passes) ∙ key

pub key_at_name : (k : Bor (List ℕ)) (f g : Function) → k.now ≡ f.name → HaveOneName g f → is_key_of k g ≡ true
key_at_name k f g key one = ap is_eq (same_text g.name k.now (one ∙ sym key))

pub key_of_name : (k q : Bor (List ℕ)) (f : Function) → k.now ≡ f.name → is_eq (text_cmp k q) ≡ is_key_of q f
key_of_name k q f key = ap (λ (t : List ℕ). is_eq (slice_cmp nat_cmp t q.now)) key

pub label_at_key : (entries : List ℕ) (k : ℕ × Bor (List ℕ)) (b c : Block) → k.0 ≡ count_below entries b.start → k.1.now ≡ b.label
    → is_label_key entries k c ≡ true → HaveOneLabel entries c b
label_at_key entries k b c number key passes =
    let both = both_equal _ _ passes in
    record { function = exact_unsigned (count_below entries c.start) k.0 both.0 ∙ number; label = exact_bytes c.label k.1.now both.1 ∙ key }

pub key_at_label : (entries : List ℕ) (k : ℕ × Bor (List ℕ)) (b c : Block) → k.0 ≡ count_below entries b.start → k.1.now ≡ b.label
    → HaveOneLabel entries c b → is_label_key entries k c ≡ true
key_at_label entries k b c number key one =
    ap (λ (o : Ordering). is_eq (ordering_then o (slice_cmp nat_cmp c.label k.1.now)))
    (same_number (count_below entries c.start) k.0 (one.function ∙ sym number))
    ∙ ap is_eq (same_text c.label k.1.now (one.label ∙ sym key))

pub key_of_label : (entries : List ℕ) (k q : ℕ × Bor (List ℕ)) (b : Block) → k.0 ≡ count_below entries b.start → k.1.now ≡ b.label
    → is_eq (label_cmp k q) ≡ is_label_key entries q b
key_of_label entries k q b number key =
    ap (λ (n : ℕ). is_eq (ordering_then (nat_cmp n q.0) (slice_cmp nat_cmp k.1.now q.1.now))) number
    ∙ ap (λ (t : List ℕ). is_eq (ordering_then (nat_cmp (count_below entries b.start) q.0) (slice_cmp nat_cmp t q.1.now))) key

-- ---- the function of a place

entry_at : (m : Map) (k : ℕ) (f : Function) → k < length m.functions → get_or m.functions k f ≡ f → get_or (entries_of m.functions) k 0 ≡ f.entry
entry_at m k f within read = get_or-map (λ (g : Function). g.entry) m.functions k f 0 within ∙ ap (λ (g : Function). g.entry) read

many_entries : (m : Map) → length (entries_of m.functions) ≡ length m.functions
many_entries m = rw length-map refl

-- of the entries below a place, the one of its function is the last
number_of : (m : Map) (place k : ℕ) (f : Function) → IsStrictlyIncreasing (entries_of m.functions)
    → k < length m.functions → get_or m.functions k f ≡ f → f.entry < place
    → ((g : Function) → Contains m.functions g → g.entry < place → g.entry ≤ f.entry)
    → count_below (entries_of m.functions) place ≡ k + 1
number_of m place k f rises within read below greatest =
    let many = many_entries m in
    let own = entry_at m k f within read in
    position_or_len_is (λ other. nat_le place other) (entries_of m.functions) (k + 1) 0 (omega arith)
    (λ j less.
    let far = rises_zero (entries_of m.functions) rises j k (omega arith) (omega arith) in
    lt-leb place (get_or (entries_of m.functions) j 0) (omega arith))
    (λ more.
    let next = rises k more in
    let item = slice_get_cases m.functions (k + 1) in
    elim item.1 as (λ _. nat_le place (get_or (entries_of m.functions) (k + 1) 0) ≡ true) [
      | inl found ↦
          let entry = entry_at m (k + 1) found.0 found.1 found.3 in
          elim (cases_lt found.0.entry place) as (λ _. nat_le place (get_or (entries_of m.functions) (k + 1) 0) ≡ true) [
            | inl low ↦ let under = greatest found.0 (k + 1, found.1, found.3) low in absurd (omega arith)
            | inr high ↦ le-leb place (get_or (entries_of m.functions) (k + 1) 0) (omega arith)
          ]
      | inr past ↦ let gone = past.0 in absurd (omega arith)
    ])

one_number : (m : Map) (place other : ℕ) (f : Function) → IsStrictlyIncreasing (entries_of m.functions)
    → IsFunctionOf m place f → IsFunctionOf m other f
    → count_below (entries_of m.functions) place ≡ count_below (entries_of m.functions) other
one_number m place other f rises here there =
    let one = number_of m place here.has.0 f rises here.has.1 here.has.2 here.below here.greatest in
    let two = number_of m other here.has.0 f rises here.has.1 here.has.2 there.below there.greatest in
    omega arith

-- the last of the entries below a place is that of its function
function_at : (m : Map) (place n : ℕ) (f : Function) → IsStrictlyIncreasing (entries_of m.functions)
    → count_below (entries_of m.functions) place ≡ n + 1 → slice_get m.functions n ≡ Some f → IsFunctionOf m place f
function_at m place n f rises number found =
    let many = many_entries m in
    let within = slice_get_within m.functions n f found in
    let read = get_or_from_slice_get m.functions n f f found in
    let own = entry_at m n f within read in
    let low = before_count (entries_of m.functions) place n (omega arith) in
    record {
      has = (n, within, read);
      below = omega arith;
      greatest = λ g has under.
          let entry = entry_at m has.0 g has.1 has.2 in
          let counted = is_counted (entries_of m.functions) place has.0 rises (omega arith) (omega arith) in
          let far = rises_zero (entries_of m.functions) rises has.0 n (omega arith) (omega arith) in
          omega arith;
    }

-- places with one number, which isn't 0, have one function
one_function : (m : Map) (place other : ℕ) → IsStrictlyIncreasing (entries_of m.functions)
    → (entry : ℕ) × Contains (entries_of m.functions) entry × (entry < place)
    → count_below (entries_of m.functions) other ≡ count_below (entries_of m.functions) place
    → (f : Function) × IsFunctionOf m other f × IsFunctionOf m place f
one_function m place other rises above same =
    let some = some_counted (entries_of m.functions) place rises above in
    let many = many_entries m in
    let few = count_within (entries_of m.functions) place in
    let item = slice_get_cases m.functions (count_below (entries_of m.functions) place - 1) in
    elim item.1 as (λ _. (f : Function) × IsFunctionOf m other f × IsFunctionOf m place f) [
      | inl found ↦ (
        found.0,
        function_at m other (count_below (entries_of m.functions) place - 1) found.0 rises (omega arith) found.2,
        function_at m place (count_below (entries_of m.functions) place - 1) found.0 rises (omega arith) found.2,
      )
      | inr past ↦ let gone = past.0 in absurd (omega arith)
    ]

-- ---- the rule

-- the parts of the rule for a block
pub placed_from : (m : Map) (k : ℕ) (b : Block) → IsStrictlyIncreasing (entries_of m.functions)
    → LiesInFunction (entries_of m.functions) b.start × IsFirst (HaveOneLabel (entries_of m.functions)) m.blocks k b → IsPlaced m k b
placed_from m k b rises (lies, first) = record {
  above = lies.above;
  apart = lies.apart;
  label = λ j c f before there one in_c in_b.
      first j c before there (record { function = one_number m c.start b.start f rises in_c in_b; label = one });
}

pub placed_to : (m : Map) (k : ℕ) (b : Block) → IsStrictlyIncreasing (entries_of m.functions)
    → IsPlaced m k b → LiesInFunction (entries_of m.functions) b.start × IsFirst (HaveOneLabel (entries_of m.functions)) m.blocks k b
placed_to m k b rises placed = (
  record { above = placed.above; apart = placed.apart },
  λ j c before there one.
      let both = one_function m b.start c.start rises placed.above one.function in
      placed.label j c both.0 before there one.label both.1 both.2,
)

-- S8 by its two halves
pub s8_from : (m : Map) (functions : List Function) (blocks : List Block) (entries : List ℕ) (first second : Option ℕ)
    → functions ≡ m.functions → blocks ≡ m.blocks → entries ≡ entries_of m.functions → IsStrictlyIncreasing entries
    → Lowest (EachAt functions (λ k f. f.entry) (λ k f. IsFirst HaveOneName functions k f)) first
    → Lowest (EachAt blocks (λ k b. b.start) (λ k b. LiesInFunction entries b.start × IsFirst (HaveOneLabel entries) blocks k b)) second
    → Lowest (S8 m) (lower first second)
s8_from m functions blocks entries first second same_functions same_blocks same_entries rises one two =
    let rise : IsStrictlyIncreasing (entries_of m.functions) = subst IsStrictlyIncreasing same_entries rises in
    let Names = λ (fs : List Function). EachAt fs (λ k f. f.entry) (λ k f. IsFirst HaveOneName fs k f) in
    let Labels = λ (es : List ℕ) (bs : List Block). EachAt bs (λ k b. b.start) (λ k b. LiesInFunction es b.start × IsFirst (HaveOneLabel es) bs k b) in
    let names : Lowest (Names m.functions) first = subst (λ (fs : List Function). Lowest (Names fs) first) same_functions one in
    let labels : Lowest (Labels (entries_of m.functions) m.blocks) second =
    subst (λ (es : List ℕ). Lowest (Labels es m.blocks) second) same_entries
    (subst (λ (bs : List Block). Lowest (Labels entries bs) second) same_blocks two) in
    lowest_same (λ a. Names m.functions a × Labels (entries_of m.functions) m.blocks a) (S8 m) (lower first second)
    (λ a both. record {
      functions = both.0;
      blocks = λ k b found at. placed_from m k b rise (both.1 k b found at);
    })
    (λ a rule. (rule.functions, λ k b found at. placed_to m k b rise (rule.blocks k b found at)))
    (lowest_both (Names m.functions) (Labels (entries_of m.functions) m.blocks) first second names labels)
