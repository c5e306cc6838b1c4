-- Shape rules S2, S4 and S7, from what the loops over the rows saw.
use Rattle.std.proofs.Common.{◌≡◌, ℕ, ◌+◌, ◌-◌, ◌<◌, ◌≤◌, Bool, true, false, leb, List, length, get_or, Option, Some, refl, sym, ◌∙◌, ap, subst, inl, inr, arith}
use Rattle.std.specs.{Prelude.IsTrue, Prelude.◌↔◌, List.slice_get, List.list_any, BTreeSet.BTreeSet, BTreeSet.contains, Ordering.nat_cmp}
use Rattle.std.proofs.lemmas.{Bool.cases_lt, Bool.cases_Bool, Bool.false≢true, Bool.eqb-true, Bool.eq-eqb, Bool.leb-true, Bool.le-leb, List.Folds.Any-from_list_any, List.Folds.list_any_at}
use Rattle.std.proofs.lemmas.{Option.slice_get-get_or, Option.slice_get_read}
use Rattle.oat_image.specs.{Map, Row, Jump, Begin, End, address_of, after, begins, entries_of, starts_of}
use Rattle.oat_shape.specs.{Lowest.Lowest, Lowest.EachAt, MapRules.S2, MapRules.S4, MapRules.S7, MapRules.LeadsToPlaces, MapRules.IsPaired, Parts.IsBehind, Parts.BeginsFirst, Parts.EndIsBegun}
use Rattle.oat_shape.specs.{Parts.EndIsIn, Parts.IsFresh}
use Rattle.oat_shape.proofs.{Loops.Seen, Loops.Seen-found, Loops.Seen-fresh, Loops.same_item, Scans.lowest_same, Scans.at_contains, Scans.contains_at}

-- ---- S2

-- the end of the row before the i-th, or 0
pub record EndsBefore (rows : List Row) (i end : ℕ) : Type 0 where
  pub first : i ≡ 0 → end ≡ 0
  pub later : (j : ℕ) (before : Row) → j + 1 ≡ i → slice_get rows j ≡ Some before → after before ≡ end

pub ends_at_first : (rows : List Row) → EndsBefore rows 0 0
ends_at_first rows = record { first = λ _. refl; later = λ j before there found. absurd (omega arith) }

pub ends_at_next : (rows : List Row) (i : ℕ) (row : Row) (end : ℕ) → slice_get rows i ≡ Some row → end ≡ after row → EndsBefore rows (i + 1) end
ends_at_next rows i row end here is = record {
  first = λ none. absurd (omega arith);
  later = λ j before there found.
      let last : i ≡ j = omega arith in
      ap after (sym (same_item rows i j row before last here found)) ∙ sym is;
}

pub behind_iff : (rows : List Row) (i : ℕ) (row : Row) (end at : ℕ) → i < length rows → at ≡ address_of row → EndsBefore rows i end
    → IsTrue (leb end at) ↔ IsBehind rows i row
behind_iff rows i row end at within there ends = (
  λ yes j before next found.
      let low : end ≤ at = leb-true end at yes in
      let last : after before ≡ end = ends.later j before next found in
      omega arith,
  λ behind.
      elim (cases_lt 0 i) as (λ _. leb end at ≡ true) [
        | inl some ↦
            let next : i - 1 + 1 ≡ i = omega arith in
            let found = slice_get-get_or rows (i - 1) (Jump 0 0) (omega arith) in
            let low : after (get_or rows (i - 1) (Jump 0 0)) ≤ address_of row = behind (i - 1) (get_or rows (i - 1) (Jump 0 0)) next found in
            let last : after (get_or rows (i - 1) (Jump 0 0)) ≡ end = ends.later (i - 1) (get_or rows (i - 1) (Jump 0 0)) next found in
            le-leb end at (omega arith)
        | inr none ↦ let zero_end : end ≡ 0 = ends.first (omega arith) in le-leb end at (omega arith)
      ],
)

pub s2_from : (m : Map) (rows : List Row) (lowest : Option ℕ) → rows ≡ m.rows
    → Lowest (EachAt rows (λ k row. address_of row) (IsBehind rows)) lowest → Lowest (S2 m) lowest
s2_from m rows lowest same h =
    lowest_same (EachAt m.rows (λ k row. address_of row) (IsBehind m.rows)) (S2 m) lowest
    (λ a each k before row found next at.
    subst (λ (n : ℕ). after before ≤ n) at (each (k + 1) row next at k before refl found))
    (λ a rule k row found at j before next there.
    let here : slice_get m.rows (j + 1) ≡ Some row = ap (slice_get m.rows) next ∙ found in
    subst (λ (n : ℕ). after before ≤ n) (sym at) (rule j before row there here at))
    (subst (λ (rs : List Row). Lowest (EachAt rs (λ k row. address_of row) (IsBehind rs)) lowest) same h)

-- ---- S4

pub s4_from : (m : Map) (rows : List Row) (entries starts : List ℕ) (lowest : Option ℕ) → rows ≡ m.rows
    → entries ≡ entries_of m.functions → starts ≡ starts_of m.blocks
    → Lowest (EachAt rows (λ k row. address_of row) (λ k row. LeadsToPlaces entries starts row)) lowest → Lowest (S4 m) lowest
s4_from m rows entries starts lowest same same_entries same_starts h =
    let Leads = λ (es ss : List ℕ) (rs : List Row). EachAt rs (λ k row. address_of row) (λ k row. LeadsToPlaces es ss row) in
    let in_rows : Lowest (Leads entries starts m.rows) lowest = subst (λ (rs : List Row). Lowest (Leads entries starts rs) lowest) same h in
    let by_entries : Lowest (Leads (entries_of m.functions) starts m.rows) lowest =
    subst (λ (es : List ℕ). Lowest (Leads es starts m.rows) lowest) same_entries in_rows in
    let by_starts : Lowest (Leads (entries_of m.functions) (starts_of m.blocks) m.rows) lowest =
    subst (λ (ss : List ℕ). Lowest (Leads (entries_of m.functions) ss m.rows) lowest) same_starts by_entries in
    lowest_same (Leads (entries_of m.functions) (starts_of m.blocks) m.rows) (S4 m) lowest
    (λ a each row has at. let found = at_contains m.rows row has in each found.0 row found.1 at)
    (λ a rule k row found at. rule row (contains_at m.rows k row found) at)
    by_starts

-- ---- S7

pub begins-true : (op : ℕ) (row : Row) → begins op row ≡ true → (at : ℕ) × (row ≡ Begin at op)
begins-true op (Begin at begun) h = (at, ap (Begin at) (eqb-true begun op h))
begins-true op _ h = absurd (false≢true h)

pub begins-itself : (op at : ℕ) (row : Row) → row ≡ Begin at op → begins op row ≡ true
begins-itself op at row is = ap (begins op) is ∙ eq-eqb op op refl

-- a row is fresh just where it begins no operation of the rows before
fresh_first : (rows : List Row) (i : ℕ) (row : Row) (begun : BTreeSet ℕ) → i ≤ length rows
    → Seen nat_cmp begins rows i begun → IsFresh begun row → BeginsFirst rows i row
fresh_first rows i row begun many seen fresh j x below found alike =
    let absent : IsFresh begun (Begin alike.other alike.op) = subst (IsFresh begun) alike.again fresh in
    Seen-fresh nat_cmp begins rows i begun alike.op many seen absent j x below found (begins-itself alike.op alike.at x alike.one)

first_fresh : (rows : List Row) (i : ℕ) (row : Row) (begun : BTreeSet ℕ) → i ≤ length rows
    → Seen nat_cmp begins rows i begun → BeginsFirst rows i row → IsFresh begun row
first_fresh rows i (Begin at op) begun many seen none =
    elim (cases_Bool (contains nat_cmp begun op)) as (λ _. contains nat_cmp begun op ≡ false) [
      | inl there ↦
          let first = Seen-found nat_cmp begins rows i begun op many seen there in
          let begin = begins-true op first.1 first.4 in
          absurd (none first.0 first.1 first.2 first.3
          (record { at = begin.0; other = at; op = op; one = begin.1; again = refl }))
      | inr absent ↦ absent
    ]
first_fresh rows i _ begun many seen none = tt

pub first_iff : (rows : List Row) (i : ℕ) (row : Row) (begun : BTreeSet ℕ) (fresh : Bool) → i ≤ length rows
    → Seen nat_cmp begins rows i begun → (IsTrue fresh ↔ IsFresh begun row) → IsTrue fresh ↔ BeginsFirst rows i row
first_iff rows i row begun fresh many seen tells =
    (λ yes. fresh_first rows i row begun many seen (tells.0 yes), λ none. tells.1 (first_fresh rows i row begun many seen none))

end_begun : (rows : List Row) (row : Row) (begun : BTreeSet ℕ) → ((op : ℕ) → contains nat_cmp begun op ≡ list_any (begins op) rows)
    → EndIsIn begun row → EndIsBegun rows row
end_begun rows row begun all is_in at op is =
    let there : contains nat_cmp begun op ≡ true = subst (EndIsIn begun) is is_in in
    let any = Any-from_list_any (begins op) rows (sym (all op) ∙ there) in
    let begin = begins-true op any.1 any.4 in
    let reads : slice_get rows any.0 ≡ Some any.1 = slice_get_read rows (length rows) any.0 any.1 refl any.2 (sym any.3) in
    (begin.0, contains_at rows any.0 (Begin begin.0 op) (reads ∙ ap Some begin.1))

begun_end : (rows : List Row) (row : Row) (begun : BTreeSet ℕ) → ((op : ℕ) → contains nat_cmp begun op ≡ list_any (begins op) rows)
    → EndIsBegun rows row → EndIsIn begun row
begun_end rows (End at op) begun all ends =
    let begin = ends at op refl in
    let passes : begins op (get_or rows begin.1.0 (Begin begin.0 op)) ≡ true = begins-itself op begin.0 _ begin.1.2 in
    all op ∙ list_any_at (begins op) rows begin.1.0 (Begin begin.0 op) begin.1.1 passes
begun_end rows _ begun all ends = tt

pub end_iff : (rows : List Row) (row : Row) (begun : BTreeSet ℕ) (kept : Bool) → ((op : ℕ) → contains nat_cmp begun op ≡ list_any (begins op) rows)
    → (IsTrue kept ↔ EndIsIn begun row) → IsTrue kept ↔ EndIsBegun rows row
end_iff rows row begun kept all tells =
    (λ yes. end_begun rows row begun all (tells.0 yes), λ ends. tells.1 (begun_end rows row begun all ends))

pairs : (rows : List Row) (k : ℕ) (row : Row) → BeginsFirst rows k row × EndIsBegun rows row → IsPaired rows k row
pairs rows k (Begin at op) h = λ j b before there.
    h.0 j (Begin b op) before there (record { at = b; other = at; op = op; one = refl; again = refl })
pairs rows k (End at op) h = h.1 at op refl
pairs rows k _ h = tt

of_pairs : (rows : List Row) (k : ℕ) (row : Row) → IsPaired rows k row → BeginsFirst rows k row × EndIsBegun rows row
of_pairs rows k row paired = (
  λ j before below found alike.
      let begins : IsPaired rows k (Begin alike.other alike.op) = subst (IsPaired rows k) alike.again paired in
      begins j alike.at below (found ∙ ap Some alike.one),
  λ at op is. subst (IsPaired rows k) is paired,
)

pub s7_from : (m : Map) (rows : List Row) (lowest : Option ℕ) → rows ≡ m.rows
    → Lowest (EachAt rows (λ k row. address_of row) (λ k row. BeginsFirst rows k row × EndIsBegun rows row)) lowest → Lowest (S7 m) lowest
s7_from m rows lowest same h =
    let Pairs = λ (rs : List Row). EachAt rs (λ k row. address_of row) (λ k row. BeginsFirst rs k row × EndIsBegun rs row) in
    lowest_same (Pairs m.rows) (S7 m) lowest
    (λ a each k row found at. pairs m.rows k row (each k row found at))
    (λ a rule k row found at. of_pairs m.rows k row (rule k row found at))
    (subst (λ (rs : List Row). Lowest (Pairs rs) lowest) same h)
