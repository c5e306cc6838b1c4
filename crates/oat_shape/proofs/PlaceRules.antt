-- Shape rules S3, S5 and S6, from what the loops over words, rows and places saw; and what well-formed images keep.
use Rattle.std.proofs.Common.{◌≡◌, ℕ, zero, suc, ◌+◌, ◌-◌, ◌*◌, ◌/◌, ◌%◌, ◌^◌, ◌<◌, ◌≤◌, Bool, true, false, cond, ◌&&◌, eqb, leb, List, [], ◌∷◌, map, Option, Some, None, refl, sym, ◌∙◌, ap, subst}
use Rattle.std.proofs.Common.{inl, inr, arith, eqb-true, eq-eqb}
use Rattle.std.specs.{Prelude.◌⊎◌, Prelude.Contains, List.slice_get, List.filter, List.AllByRecursion, Option.option_and_then}
use Rattle.std.proofs.lemmas.{Bool.cases_Bool, Bool.leb-true, Bool.le-leb, List.Elements.All-contains, List.Elements.All-from_recursion}
use Rattle.oat_a64.specs.{declared.inst.Inst.Inst, Fetch.inst_of, Step.code_base, Step.word_at, Step.instruction_at}
use Rattle.oat_image.specs.{Map, Row, Ret, Check, address_of, after, entries_of, starts_of, is_call, declared.image.Image.Image, Grammar.IsWellFormedImage, Grammar.IsRow}
use Rattle.oat_shape.specs.{Groups.IsGroup, MapRules.S2, Shape.Everywhere, Shape.IsReturnSite, Shape.IsPlaceOrSite, Shape.S3, Lowest.Lowest, Lowest.EachAt, Lowest.lower, Parts.AreApart}
use Rattle.oat_shape.specs.{Parts.AreIndices, Parts.AreWithin, Parts.IsCovered, Parts.StandsInGroup}
use Rattle.oat_shape.proofs.Scans.{lowest_same, lowest_both, at_contains, contains_at}

pub of_each : {X : Type 0} (P : X → Type 0) (xs : List X) → AllByRecursion P xs → (x : X) → Contains xs x → P x
of_each P xs each x has = All-contains P xs x (All-from_recursion P xs each) has

-- ---- words of code

abbrev pub Fetched : List ℕ → ℕ → ℕ → Type 0
Fetched code address word = (k : ℕ) × (slice_get code k ≡ Some word) × (code_base + 4 * k ≡ address)

fetched_from : (code : List ℕ) (address word : ℕ) (whole above : Bool) → whole ≡ eqb (address % 4) 0 → above ≡ leb code_base address
    → cond (whole && above) (slice_get code ((address - code_base) / 4)) None ≡ Some word → Fetched code address word
fetched_from code address word true true is_whole is_above read =
    let multiple : address % 4 ≡ 0 = eqb-true (address % 4) 0 (sym is_whole) in
    let high : code_base ≤ address = leb-true code_base address (sym is_above) in
    ((address - code_base) / 4, read, omega arith)
fetched_from code address word true false is_whole is_above read = absurd (cc)
fetched_from code address word false above is_whole is_above read = absurd (cc)

pub fetched : (code : List ℕ) (address word : ℕ) → word_at code address ≡ Some word → Fetched code address word
fetched code address word read = fetched_from code address word (eqb (address % 4) 0) (leb code_base address) refl refl read

fetches : (code : List ℕ) (k : ℕ) → word_at code (code_base + 4 * k) ≡ slice_get code k
fetches code k =
    let whole : eqb ((code_base + 4 * k) % 4) 0 ≡ true = eq-eqb _ 0 (omega arith) in
    let above : leb code_base (code_base + 4 * k) ≡ true = le-leb _ _ (omega arith) in
    let back : (code_base + 4 * k - code_base) / 4 ≡ k = omega arith in
    ap (λ (b : Bool). cond (b && leb code_base (code_base + 4 * k)) (slice_get code ((code_base + 4 * k - code_base) / 4)) None) whole
    ∙ ap (λ (b : Bool). cond (true && b) (slice_get code ((code_base + 4 * k - code_base) / 4)) None) above
    ∙ ap (slice_get code) back

pub decoded : (o : Option ℕ) (inst : Inst) → option_and_then inst_of o ≡ Some inst → (word : ℕ) × (o ≡ Some word) × (inst_of word ≡ Some inst)
decoded None inst h = absurd (cc)
decoded (Some word) inst h = (word, refl, h)

-- ---- S3

abbrev Transfers : List ℕ → List Row → ℕ → Type 0
Transfers code rows = EachAt code (λ k word. code_base + 4 * k) (λ k word. StandsInGroup rows (code_base + 4 * k) word)

abbrev Groups : List ℕ → List ℕ → List Row → ℕ → Type 0
Groups code cells rows = EachAt rows (λ k row. address_of row) (λ k row. IsGroup code cells row)

s3_to : (i : Image) (a : ℕ) → Transfers i.code i.map.rows a × Groups i.code i.cells i.map.rows a → S3 i a
s3_to i a both = record {
  transfers = λ inst here needs.
      let word = decoded (word_at i.code a) inst here in
      let from = fetched i.code a word.0 word.1 in
      subst (IsCovered i.map.rows) from.2 (both.0 from.0 word.0 from.1 from.2 inst word.2 needs);
  groups = λ row has at. let found = at_contains i.map.rows row has in both.1 found.0 row found.1 at;
}

s3_of : (i : Image) (a : ℕ) → S3 i a → Transfers i.code i.map.rows a × Groups i.code i.cells i.map.rows a
s3_of i a rule = (
  λ k word found at inst is needs.
      let read : word_at i.code a ≡ Some word = ap (word_at i.code) (sym at) ∙ fetches i.code k ∙ found in
      let here : instruction_at i.code a ≡ Some inst = ap (option_and_then inst_of) read ∙ is in
      subst (IsCovered i.map.rows) (sym at) (rule.transfers inst here needs),
  λ k row found at. rule.groups row (contains_at i.map.rows k row found) at,
)

pub s3_from : (i : Image) (code cells : List ℕ) (rows : List Row) (first second : Option ℕ) → code ≡ i.code → cells ≡ i.cells → rows ≡ i.map.rows
    → Lowest (EachAt code (λ k word. code_base + 4 * k) (λ k word. StandsInGroup rows (code_base + 4 * k) word)) first
    → Lowest (EachAt rows (λ k row. address_of row) (λ k row. IsGroup code cells row)) second → Lowest (S3 i) (lower first second)
s3_from i code cells rows first second same_code same_cells same_rows one two =
    let transfers : Lowest (Transfers i.code i.map.rows) first =
    subst (λ (rs : List Row). Lowest (Transfers i.code rs) first) same_rows
    (subst (λ (ws : List ℕ). Lowest (Transfers ws rows) first) same_code one) in
    let groups : Lowest (Groups i.code i.cells i.map.rows) second =
    subst (λ (rs : List Row). Lowest (Groups i.code i.cells rs) second) same_rows
    (subst (λ (cs : List ℕ). Lowest (Groups i.code cs rows) second) same_cells
    (subst (λ (ws : List ℕ). Lowest (Groups ws cells rows) second) same_code two)) in
    lowest_same (λ a. Transfers i.code i.map.rows a × Groups i.code i.cells i.map.rows a) (S3 i) (lower first second)
    (s3_to i) (s3_of i)
    (lowest_both (Transfers i.code i.map.rows) (Groups i.code i.cells i.map.rows) first second transfers groups)

-- ---- return sites

site_in : (rows : List Row) (row : Row) (k : ℕ) → slice_get rows k ≡ Some row → is_call row ≡ true
    → Contains (map (λ r. after r) (filter (λ r. is_call r) rows)) (after row)
site_in [] row k found call = absurd (cc)
site_in (x ∷ rows) row zero found call =
    let same : x ≡ row = cc in
    let is_one : is_call x ≡ true = ap (λ (r : Row). is_call r) same ∙ call in
    rw is_one (0, omega arith, ap (λ (r : Row). after r) same)
site_in (x ∷ rows) row (suc k) found call =
    let further = site_in rows row k found call in
    elim (cases_Bool (is_call x)) as (λ _. Contains (map (λ r. after r) (filter (λ r. is_call r) (x ∷ rows))) (after row)) [
      | inl is_one ↦ rw is_one (suc further.0, omega (arith, further.1), further.2)
      | inr is_none ↦ rw is_none further
    ]

first_or_later : (y : ℕ) (ys : List ℕ) (a : ℕ) → Contains (y ∷ ys) a → (y ≡ a) ⊎ Contains ys a
first_or_later y ys a (zero, within, read) = inl read
first_or_later y ys a (suc k, within, read) = inr (k, omega (arith, within), read)

later_site : (x : Row) (rows : List Row) (a : ℕ) → IsReturnSite rows a → IsReturnSite (x ∷ rows) a
later_site x rows a (row, has, call, at) = (row, (suc has.0, omega (arith, has.1), has.2), call, at)

site_out : (rows : List Row) (a : ℕ) → Contains (map (λ r. after r) (filter (λ r. is_call r) rows)) a → IsReturnSite rows a
site_out [] a has = absurd (omega (arith, has.1))
site_out (x ∷ rows) a has =
    elim (cases_Bool (is_call x)) as (λ _. IsReturnSite (x ∷ rows) a) [
      | inl is_one ↦
          elim (first_or_later (after x) (map (λ r. after r) (filter (λ r. is_call r) rows)) a (rw is_one at has)) as (λ _. IsReturnSite (x ∷ rows) a) [
            | inl here ↦ (x, (0, omega arith, refl), is_one, here)
            | inr later ↦ later_site x rows a (site_out rows a later)
          ]
      | inr is_none ↦ later_site x rows a (site_out rows a (rw is_none at has))
    ]

-- ---- S5 and S6

each_place : (Good : ℕ → Type 0) (xs : List ℕ) (lowest : Option ℕ) → Lowest (EachAt xs (λ k x. x) (λ k x. Good x)) lowest
    → Lowest (λ a. Contains xs a → Good a) lowest
each_place Good xs lowest h =
    lowest_same (EachAt xs (λ k x. x) (λ k x. Good x)) (λ a. Contains xs a → Good a) lowest
    (λ a each has. let found = at_contains xs a has in each found.0 a found.1 refl)
    (λ a rule k x found at. subst Good (sym at) (rule (subst (Contains xs) at (contains_at xs k x found))))
    h

-- a fact of each place and return site, from its three lists
pub places_from : (m : Map) (Good : ℕ → Type 0) (rows : List Row) (entries starts sites : List ℕ) (one two three : Option ℕ) → rows ≡ m.rows
    → entries ≡ entries_of m.functions → starts ≡ starts_of m.blocks → sites ≡ map (λ r. after r) (filter (λ r. is_call r) rows)
    → Lowest (EachAt entries (λ k x. x) (λ k x. Good x)) one
    → Lowest (EachAt starts (λ k x. x) (λ k x. Good x)) two
    → Lowest (EachAt sites (λ k x. x) (λ k x. Good x)) three
    → Lowest (λ a. IsPlaceOrSite m a → Good a) (lower one (lower two three))
places_from m Good rows entries starts sites one two three same is_entries is_starts is_sites h1 h2 h3 =
    let Entries = λ (a : ℕ). Contains entries a → Good a in
    let Starts = λ (a : ℕ). Contains starts a → Good a in
    let Sites = λ (a : ℕ). Contains sites a → Good a in
    let calls : sites ≡ map (λ r. after r) (filter (λ r. is_call r) m.rows) =
    is_sites ∙ ap (λ (rs : List Row). map (λ r. after r) (filter (λ r. is_call r) rs)) same in
    lowest_same (λ a. Entries a × (Starts a × Sites a)) (λ a. IsPlaceOrSite m a → Good a) (lower one (lower two three))
    (λ a all place.
    elim place as (λ _. Good a) [
      | inl entry ↦ all.0 (subst (λ (xs : List ℕ). Contains xs a) (sym is_entries) entry)
      | inr other ↦
          elim other as (λ _. Good a) [
            | inl start ↦ all.1.0 (subst (λ (xs : List ℕ). Contains xs a) (sym is_starts) start)
            | inr site ↦
                let found = at_contains m.rows site.0 site.1 in
                let is_in = site_in m.rows site.0 found.0 found.1 site.2 in
                all.1.1 (subst (λ (xs : List ℕ). Contains xs a) (sym calls)
                (subst (Contains (map (λ r. after r) (filter (λ r. is_call r) m.rows))) site.3 is_in))
          ]
    ])
    (λ a rule. (
      λ entry. rule (inl (subst (λ (xs : List ℕ). Contains xs a) is_entries entry)),
      (
        λ start. rule (inr (inl (subst (λ (xs : List ℕ). Contains xs a) is_starts start))),
        λ site. rule (inr (inr (site_out m.rows a (subst (λ (xs : List ℕ). Contains xs a) calls site)))),
      ),
    ))
    (lowest_both Entries (λ a. Starts a × Sites a) one (lower two three)
    (each_place Good entries one h1)
    (lowest_both Starts Sites two three (each_place Good starts two h2) (each_place Good sites three h3)))

-- ---- well-formed images

low_row : (row : Row) → IsRow row → address_of row < 2 ^ 32
low_row (Ret at) h = h
low_row (Check at) h = h
low_row _ h = h.0

pub are_within : (i : Image) (rows : List Row) → rows ≡ i.map.rows → IsWellFormedImage i → AreWithin rows
are_within i rows same well row has =
    low_row row (of_each IsRow i.map.rows well.rows.each row (subst (λ (rs : List Row). Contains rs row) same has))

pub are_indices : (i : Image) (cells : List ℕ) → cells ≡ i.cells → IsWellFormedImage i → AreIndices cells
are_indices i cells same well index has =
    of_each (λ n. n ≤ 65535) i.cells well.cells.each index (subst (λ (cs : List ℕ). Contains cs index) same has)

pub are_apart : (i : Image) (rows : List Row) → rows ≡ i.map.rows → Everywhere (S2 i.map) → AreApart rows
are_apart i rows same rises k row found j before next there =
    let here : slice_get i.map.rows (j + 1) ≡ Some row = ap (λ rs. slice_get rs (j + 1)) (sym same) ∙ ap (slice_get rows) next ∙ found in
    rises (address_of row) j before row (ap (λ rs. slice_get rs j) (sym same) ∙ there) here refl
