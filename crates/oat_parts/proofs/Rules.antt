-- The rules of shape, of an image that is built of parts.
use Rattle.std.proofs.Common.{◌≡◌, ℕ, zero, suc, ◌+◌, ◌*◌, ◌%◌, ◌^◌, ◌<◌, ◌≤◌, List, [], ◌∷◌, ◌++◌, refl, sym, ap, ◌∙◌, subst, true, false, Some, arith, inl, inr}
use Rattle.std.specs.{Prelude.slice_get, Prelude.Contains, Prelude.IsTrue, Prelude.IsSome, Prelude.◌||◌, List.flat_map, Option.is_some}
use Rattle.std.proofs.lemmas.Bool.{cases_lt, false≢true}
use Rattle.oat_asm.specs.{Inst, is_transfer, is_measured, FetchesByTheTable, code_base, word_at, Row, address_of, word_count as row_words, after, entries_of, starts_of, is_call, IsOperation, Image}
use Rattle.oat_asm.specs.{Giving.gives_from, StandingLaws.IsEncoded, Stands, Items.address, Items.code_limit, S1, S3, S5, S6, Everywhere, IsPlaceOrSite, Covers, S2, S4, S7, IsPaired, LeadsToPlaces}
use Rattle.oat_asm.proofs.Giving.{before_next, before_grows}
use Rattle.oat_parts.specs.{Symbols.SymbolTable, Symbols.AreDistinct, Symbols.IsFunctionLabel, Symbols.IsBlockLabel, Symbols.function_labels, Symbols.block_labels, Symbols.operations_in}
use Rattle.oat_parts.specs.{Symbols.labels_of, Parts.CodePart, Parts.label, Parts.part_words, Parts.waits, Parts.IsLoose, Parts.labels_in_part, Parts.begun_by}
use Rattle.oat_parts.proofs.{Lists.not_in_none, Lists.first_in, Lists.only_in, Lists.get_in, Lists.all_in, Lists.in_map, Lists.of_map, Lists.of_flat_map, Lists.in_flat_map, Lists.distinct_parts}
use Rattle.oat_parts.proofs.{Views.all_words, Views.part_place, Views.part_at, Views.label_at, Views.rows_in, Views.Kind, Views.loose, Views.grouped, Views.kind, Views.loose_there, Spacing.followed}
use Rattle.oat_parts.proofs.{Orders.entries_are, Orders.starts_are, Orders.function_in_labels, Orders.block_in_labels, Grounds.Ground, Grounds.fetched, Grounds.RowIs, Grounds.row_is}
use Rattle.oat_parts.proofs.{Grounds.row_there, Grounds.part_is, Grounds.part_stands, Grounds.word_within, Rows.calls, Rows.call_waits, Rows.row_leads, Rows.begun_by_row, Rows.begun_by_rows}
use Rattle.oat_parts.proofs.{Rows.rows_begin, Rows.begun_has_row, Rows.EndsOneOf, Rows.row_ends}
use Rattle.oat_map.specs.declared.row.Row.TheVariants as rows

-- ---- groups lie one behind the other

abbrev pub AreBehind : ℕ → List Row → Type 0
AreBehind low [] = Unit {0}
AreBehind low (r ∷ rs) = (low ≤ address_of r) × AreBehind (address_of r + 4 * row_words r) rs

lower_still : (low lower : ℕ) (rs : List Row) → lower ≤ low → AreBehind low rs → AreBehind lower rs
lower_still low lower [] less behind = tt
lower_still low lower (r ∷ rs) less behind = (let b = behind.0 in omega arith, behind.1)

-- where the k-th group ends, the next ones begin or above
pub behind_next : (low : ℕ) (rs : List Row) (j k : ℕ) (before row : Row) → AreBehind low rs → j < k → slice_get rs j ≡ Some before → slice_get rs k ≡ Some row
    → address_of before + 4 * row_words before ≤ address_of row
behind_next low [] j k before row behind less one two = absurd cc
behind_next low (r ∷ rs) j zero before row behind less one two = absurd (omega arith)
behind_next low (r ∷ rs) zero (suc k) before row behind less one two =
    let same : r ≡ before = cc in
    subst (λ (s : Row). address_of s + 4 * row_words s ≤ address_of row) same (above (address_of r + 4 * row_words r) rs k behind.1 two) where
      above : (from : ℕ) (ss : List Row) (n : ℕ) → AreBehind from ss → slice_get ss n ≡ Some row → from ≤ address_of row
      above from [] n b at = absurd cc
      above from (s ∷ ss) zero b at = let same : s ≡ row = cc in subst (λ (u : Row). from ≤ address_of u) same b.0
      above from (s ∷ ss) (suc n) b at = let a = b.0 in let c = above (address_of s + 4 * row_words s) ss n b.1 at in omega arith
behind_next low (r ∷ rs) (suc j) (suc k) before row behind less one two =
    behind_next (address_of r + 4 * row_words r) rs j k before row behind.1 (omega arith) one two

one_more : (to : ℕ → ℕ) (here : ℕ) (p : CodePart) (rest : List Row) → Kind to here p → AreBehind (address code_base (here + part_words p)) rest → AreBehind (address code_base here) (rows_in to here p ++ rest)
one_more to here p rest (loose none all) behind =
    subst (λ (rs : List Row). AreBehind (address code_base here) (rs ++ rest)) (sym none) (lower_still (address code_base (here + part_words p)) (address code_base here) rest (omega arith) behind)
one_more to here p rest (grouped r one at many) behind =
    let end : address code_base (here + part_words p) ≡ address_of r + 4 * row_words r = omega arith in
    subst (λ (rs : List Row). AreBehind (address code_base here) (rs ++ rest)) (sym one) (omega arith, subst (λ n. AreBehind n rest) end behind)

pub rows_behind : (to : ℕ → ℕ) (here : ℕ) (ps : List CodePart) → AreBehind (address code_base here) (gives_from part_words (rows_in to) here ps)
rows_behind to here [] = tt
rows_behind to here (p ∷ ps) =
    one_more to here p (gives_from part_words (rows_in to) (here + part_words p) ps) (kind to here p) (rows_behind to (here + part_words p) ps)

-- a boundary of parts, with a word behind it
pub record Boundary (ps : List CodePart) (a : ℕ) : Type 0 where
  pub j : ℕ
  pub is : address code_base (part_place ps j) ≡ a
  pub below : part_place ps j < all_words ps

pub found_label : (ps : List CodePart) (l k : ℕ) (p : CodePart) → slice_get ps k ≡ Some p → Contains (labels_in_part p) l → (slice_get ps k ≡ Some (label l)) × (waits p ≡ true)
found_label ps l k (label m) at has =
    let same : m ≡ l = only_in m l has.0 has.1 has.2 in
    (at ∙ ap (λ n. Some (label n)) same, refl)
found_label ps l k _ at has = absurd (not_in_none l has)

distinct_flat : {A B : Type 0} (f : A → List B) (xs : List A) (j k : ℕ) (x y : A) (z : B) → AreDistinct (flat_map f xs) → j < k → slice_get xs j ≡ Some x → slice_get xs k ≡ Some y
    → Contains (f x) z → Contains (f y) z → ⊥
distinct_flat f [] j k x y z d less one two has also = absurd cc
distinct_flat f (w ∷ ws) j zero x y z d less one two has also = absurd (omega arith)
distinct_flat f (w ∷ ws) zero (suc k) x y z d less one two has also =
    let same : x ≡ w = cc in
    (distinct_parts (f w) (flat_map f ws) d).1 z (subst (λ v. Contains (f v) z) same has) (in_flat_map f ws k y z two also)
distinct_flat f (w ∷ ws) (suc j) (suc k) x y z d less one two has also =
    distinct_flat f ws j k x y z (distinct_parts (f w) (flat_map f ws) d).0 (omega arith) one two has also

loose_or : (x : Inst) → IsLoose x → IsTrue (is_transfer x || is_measured x) → ⊥
loose_or x loosely needs = false≢true (sym loosely ∙ needs)

module _ (t : SymbolTable) (i : Image) (to : ℕ → ℕ) (ps : List CodePart) (g : Ground t i to ps) where
  row_of_part : (row : Row) → Contains i.map.rows row → RowIs i to ps row
  row_of_part row has = row_is t i to ps g row has

  pub s1 : FetchesByTheTable → Everywhere (S1 i)
  s1 fetches a k word at e =
      let x : IsEncoded word = g.encoded word (get_in i.code k word at) in
      ap is_some ((fetches x.inst word).1 (x.range, sym x.is))

  pub behind : AreBehind (address code_base 0) i.map.rows
  behind = subst (λ (rs : List Row). AreBehind (address code_base 0) rs) (sym g.rows) (rows_behind to 0 ps)

  pub s2 : Everywhere (S2 i.map)
  s2 a k before row one two at =
      let next = behind_next (address code_base 0) i.map.rows k (k + 1) before row behind (omega arith) one two in
      omega arith

  covered : (k r a : ℕ) (p : CodePart) (x : Inst) → slice_get ps k ≡ Some p → r < part_words p → address code_base (part_place ps k + r) ≡ a → Stands i.code a x
      → IsTrue (is_transfer x || is_measured x) → Kind to (part_place ps k) p → (row : Row) × Contains i.map.rows row × Covers row a
  covered k r a p x at within e stands needs (loose none free) =
      absurd (loose_or x (loose_there t i to (part_place ps k) p r x free (part_is t i to ps g k p at) (part_stands t i to ps g k p at) within (subst (λ (q : ℕ). Stands i.code q x) (sym e) stands)) needs)
  covered k r a p x at within e stands needs (grouped row one here many) =
      (row, row_there t i to ps g k p row at (subst (λ (rs : List Row). Contains rs row) (sym one) (first_in row [])), (omega arith, omega arith))

  pub s3 : Everywhere (S3 i)
  s3 a = record {
    transfers = λ x stands needs.
        let f = fetched i.code a x stands in
        let inside = f.1 in
        let long = g.long in
        let r = part_at ps f.0 (omega arith) in
        covered r.0 r.2 a r.1 x r.3 r.5 (ap (address code_base) (sym r.4) ∙ f.2) stands needs (kind to (part_place ps r.0) r.1);
    groups = λ row has at. (row_of_part row has).group;
  }

  -- ---- places and sites

  pub label_boundary : (l : ℕ) → Contains (labels_of t) l → Boundary ps (label_at to l)
  label_boundary l has =
      let r = of_flat_map labels_in_part ps l (subst (λ (ls : List ℕ). Contains ls l) (sym g.labels) has) in
      let found = found_label ps l r.0 r.1 r.2 r.3 in
      let at = g.placed r.0 l found.0 in
      let more = followed false ps r.0 r.1 g.paced r.2 found.1 in
      let grows = before_grows part_words ps r.0 (suc r.0) (omega arith) in
      record { j = r.0; is = ap (address code_base) (sym at); below = omega arith }

  pub entry_label : (a : ℕ) → Contains (entries_of i.map.functions) a → (l : ℕ) × IsFunctionLabel t l × (label_at to l ≡ a)
  entry_label a has =
      of_map (label_at to) (function_labels t.functions) a (subst (λ (ns : List ℕ). Contains ns a) (ap entries_of g.functions ∙ entries_are (label_at to) t.functions) has)

  pub start_label : (a : ℕ) → Contains (starts_of i.map.blocks) a → (l : ℕ) × IsBlockLabel t l × (label_at to l ≡ a)
  start_label a has =
      of_map (label_at to) (block_labels t.functions) a (subst (λ (ns : List ℕ). Contains ns a) (ap starts_of g.blocks ∙ starts_are (label_at to) t.functions) has)

  pub function_listed : (l : ℕ) → IsFunctionLabel t l → Contains (labels_of t) l
  function_listed l is = function_in_labels t.functions l is

  pub block_listed : (l : ℕ) → IsBlockLabel t l → Contains (labels_of t) l
  block_listed l is = block_in_labels t.functions l is

  site_boundary : (a : ℕ) (row : Row) → Contains i.map.rows row → IsTrue (is_call row) → after row ≡ a → Boundary ps a
  site_boundary a row has called e =
      let r = row_of_part row has in
      let waited = call_waits to (part_place ps r.k) r.part (ap calls r.is ∙ called) in
      let more = followed false ps r.k r.part g.paced r.at waited in
      let next = before_next part_words ps r.k r.part r.at in
      let h = r.here in
      let m = r.many in
      let few = g.few in
      record { j = suc r.k; is = site (address_of row) (row_words row) (part_place ps r.k) (part_words r.part) (part_place ps (suc r.k)) h m next (omega arith) ∙ e; below = more } where
        site : (at count from many to' : ℕ) → at ≡ address code_base from → count ≡ many → to' ≡ from + many → to' ≤ code_limit → address code_base to' ≡ (at + 4 * count) % 2 ^ 64
        site at count from many to' one two three four = omega arith

  boundary : (a : ℕ) → IsPlaceOrSite i.map a → Boundary ps a
  boundary a (inl has) =
      let l = entry_label a has in
      subst (Boundary ps) l.2 (label_boundary l.0 (function_listed l.0 l.1))
  boundary a (inr (inl has)) =
      let l = start_label a has in
      subst (Boundary ps) l.2 (label_boundary l.0 (block_listed l.0 l.1))
  boundary a (inr (inr site)) = site_boundary a site.0 site.1 site.2 site.3

  pub s5 : Everywhere (S5 i)
  s5 a place_or_site row has lower =
      let b : Boundary ps a = boundary a place_or_site in
      let r = row_of_part row has in
      let e = b.is in
      let h = r.here in
      let m = r.many in
      let next = before_next part_words ps r.k r.part r.at in
      elim (cases_lt r.k b.j) [
        | inl less ↦ let grows = before_grows part_words ps (suc r.k) b.j (omega arith) in omega arith
        | inr most ↦ let grows = before_grows part_words ps b.j r.k most in absurd (omega arith)
      ]

  pub s6 : Everywhere (S6 i)
  s6 a place_or_site =
      let b : Boundary ps a = boundary a place_or_site in
      subst (λ p. IsSome (word_at i.code p)) b.is (word_within t i to ps g (part_place ps b.j) b.below)

  -- ---- targets

  pub entry_there : (l : ℕ) → IsFunctionLabel t l → Contains (entries_of i.map.functions) (label_at to l)
  entry_there l is =
      subst (λ (ns : List ℕ). Contains ns (label_at to l)) (sym (ap entries_of g.functions ∙ entries_are (label_at to) t.functions)) (in_map (label_at to) (function_labels t.functions) l is)

  pub start_there : (l : ℕ) → IsBlockLabel t l → Contains (starts_of i.map.blocks) (label_at to l)
  start_there l is =
      subst (λ (ns : List ℕ). Contains ns (label_at to l)) (sym (ap starts_of g.blocks ∙ starts_are (label_at to) t.functions)) (in_map (label_at to) (block_labels t.functions) l is)

  pub s4 : Everywhere (S4 i.map)
  s4 a row has at =
      let r = row_of_part row has in
      let all = row_leads t to (part_place ps r.k) r.part (entries_of i.map.functions) (starts_of i.map.blocks) (part_is t i to ps g r.k r.part r.at) entry_there start_there in
      all_in (LeadsToPlaces (entries_of i.map.functions) (starts_of i.map.blocks)) (rows_in to (part_place ps r.k) r.part) row all (subst (λ (rs : List Row). Contains rs row) (sym r.is) (first_in row []))

  -- ---- operations

  pub operation_begins : (op : ℕ) → Contains (operations_in t.functions) op → IsOperation i.map op
  operation_begins op has =
      let r = of_flat_map begun_by ps op (subst (λ (os : List ℕ). Contains os op) (sym g.begun) has) in
      (address code_base (part_place ps r.0), row_there t i to ps g r.0 r.1 (rows.Begin (address code_base (part_place ps r.0)) op) r.2 (begun_has_row to (part_place ps r.0) r.1 op r.3))

  begun_part : (row : Row) (r : RowIs i to ps row) → begun_by r.part ≡ begun_by_row row
  begun_part row r = rows_begin to (part_place ps r.k) r.part ∙ ap begun_by_rows r.is

  pub begin_is_operation : (op : ℕ) → IsOperation i.map op → Contains (operations_in t.functions) op
  begin_is_operation op begun =
      let r = row_of_part (rows.Begin begun.0 op) begun.1 in
      subst (λ (os : List ℕ). Contains os op) g.begun (in_flat_map begun_by ps r.k r.part op r.at (subst (λ (os : List ℕ). Contains os op) (sym (begun_part (rows.Begin begun.0 op) r)) (first_in op [])))

  pub begins_once : (j k : ℕ) (b a op : ℕ) → j < k → slice_get i.map.rows j ≡ Some (rows.Begin b op) → slice_get i.map.rows k ≡ Some (rows.Begin a op) → ⊥
  begins_once j k b a op less one two =
      let next = behind_next (address code_base 0) i.map.rows j k (rows.Begin b op) (rows.Begin a op) behind less one two in
      let first = row_of_part (rows.Begin b op) (get_in i.map.rows j (rows.Begin b op) one) in
      let second = row_of_part (rows.Begin a op) (get_in i.map.rows k (rows.Begin a op) two) in
      let h = first.here in
      let e = second.here in
      elim (cases_lt first.k second.k) [
        | inl before ↦ distinct_flat begun_by ps first.k second.k first.part second.part op (subst (λ (os : List ℕ). AreDistinct os) (sym g.begun) g.table.operations) before first.at second.at
            (subst (λ (os : List ℕ). Contains os op) (sym (begun_part (rows.Begin b op) first)) (first_in op []))
            (subst (λ (os : List ℕ). Contains os op) (sym (begun_part (rows.Begin a op) second)) (first_in op []))
        | inr most ↦ let grows = before_grows part_words ps second.k first.k most in absurd (omega arith)
      ]

  paired : (k : ℕ) (row : Row) → slice_get i.map.rows k ≡ Some row → EndsOneOf (operations_in t.functions) row → IsPaired i.map.rows k row
  paired k (rows.Begin a op) at ends = λ j b less one. begins_once j k b a op less one at
  paired k (rows.End a op) at ends = operation_begins op ends
  paired k _ at ends = tt

  pub s7 : Everywhere (S7 i.map)
  s7 a k row at e =
      let r = row_of_part row (get_in i.map.rows k row at) in
      let all = row_ends t to (part_place ps r.k) r.part (part_is t i to ps g r.k r.part r.at) in
      paired k row at (all_in (EndsOneOf (operations_in t.functions)) (rows_in to (part_place ps r.k) r.part) row all (subst (λ (rs : List Row). Contains rs row) (sym r.is) (first_in row [])))
