-- What is known of an image that is built of parts: what stands at each part, and which part each row and each word is of.
use Rattle.std.proofs.Common.{◌≡◌, ℕ, zero, suc, ◌+◌, ◌-◌, ◌*◌, ◌/◌, ◌%◌, ◌<◌, ◌≤◌, List, [], ◌∷◌, length, refl, sym, ap, ◌∙◌, subst, Bool, true, false, cond, Option, Some, None, arith, inl, inr, eqb}
use Rattle.std.proofs.Common.{leb, eqb-true}
use Rattle.std.specs.{Prelude.slice_get, Prelude.Contains, Prelude.IsSome, Prelude.◌&&◌, List.AllByRecursion, List.flat_map, Option.option_and_then}
use Rattle.std.proofs.lemmas.{Bool.leb-true, Option.slice_get_within}
use Rattle.oat_asm.specs.{Inst, inst_of, code_base, word_at, Row, address_of, word_count, Image, Giving.gives_from, Items.address, Items.code_limit, Standing.ItemsStand, StandingLaws.IsEncoded}
use Rattle.oat_asm.specs.{Stands, IsGroup}
use Rattle.oat_asm.proofs.{Giving.before_next, Giving.before_within, Giving.GivenBy, Giving.given_by, Giving.gives_at, LayoutLaws.word_at_place, StandingItems.stand_in_two}
use Rattle.oat_parts.specs.{Symbols.SymbolTable, Symbols.IsSymbolTable, Symbols.operations_in, Symbols.labels_of, Symbols.functions_of, Symbols.blocks_of, Parts.CodePart, Parts.label}
use Rattle.oat_parts.specs.{Parts.expanded_part, Parts.part_words, Parts.IsCodePart, Parts.ArePaced, Parts.labels_in, Parts.begun_in}
use Rattle.oat_parts.proofs.{Lists.not_in_none, Lists.cons_cases, Lists.all_get, Lists.all_in, Views.all_words, Views.part_place, Views.label_at, Views.rows_in, Views.Kind, Views.loose, Views.grouped}
use Rattle.oat_parts.proofs.{Views.kind, Views.PartStands, Views.group_stands}

pub record Ground (t : SymbolTable) (i : Image) (to : ℕ → ℕ) (ps : List CodePart) : Type 0 where
  pub table : IsSymbolTable t
  pub each : AllByRecursion (IsCodePart t) ps
  pub paced : ArePaced false ps
  pub labels : labels_in ps ≡ labels_of t
  pub begun : begun_in ps ≡ operations_in t.functions
  pub few : all_words ps ≤ code_limit
  pub within : (l : ℕ) → to l ≤ code_limit
  pub placed : (k l : ℕ) → slice_get ps k ≡ Some (label l) → to l ≡ part_place ps k
  pub long : length i.code ≡ all_words ps
  pub encoded : (word : ℕ) → Contains i.code word → IsEncoded word
  pub stands : ItemsStand i (label_at to) code_base (flat_map expanded_part ps)
  pub rows : i.map.rows ≡ gives_from part_words (rows_in to) 0 ps
  pub functions : i.map.functions ≡ functions_of (label_at to) t.functions
  pub blocks : i.map.blocks ≡ blocks_of (label_at to) t.functions
  pub cells : i.cells ≡ t.cells
  pub data_words : i.words ≡ t.words

-- ---- words at addresses

abbrev pub Fetched : List ℕ → ℕ → ℕ → Type 0
Fetched code a word = (k : ℕ) × (slice_get code k ≡ Some word) × (address code_base k ≡ a)

fetched_from : (code : List ℕ) (a word : ℕ) (whole above : Bool) → whole ≡ eqb (a % 4) 0 → above ≡ leb code_base a
    → cond (whole && above) (slice_get code ((a - code_base) / 4)) None ≡ Some word → Fetched code a word
fetched_from code a word true true is_whole is_above read =
    let multiple : a % 4 ≡ 0 = eqb-true (a % 4) 0 (sym is_whole) in
    let high : code_base ≤ a = leb-true code_base a (sym is_above) in
    ((a - code_base) / 4, read, omega arith)
fetched_from code a word true false is_whole is_above read = absurd (cc)
fetched_from code a word false above is_whole is_above read = absurd (cc)

-- an instruction stands at the address of a word
pub fetched : (code : List ℕ) (a : ℕ) (x : Inst) → Stands code a x → (k : ℕ) × (k < length code) × (address code_base k ≡ a)
fetched code a x stands =
    let word = decoded (word_at code a) stands in
    let from = fetched_from code a word.0 (eqb (a % 4) 0) (leb code_base a) refl refl word.1 in
    (from.0, slice_get_within code from.0 word.0 from.1, from.2) where
      decoded : (o : Option ℕ) → option_and_then inst_of o ≡ Some x → (word : ℕ) × (o ≡ Some word)
      decoded None h = absurd (cc)
      decoded (Some word) h = (word, refl)

some_there : (xs : List ℕ) (n : ℕ) → n < length xs → IsSome (slice_get xs n)
some_there [] n h = absurd (omega arith)
some_there (x ∷ xs) zero h = refl
some_there (x ∷ xs) (suc n) h = some_there xs n (omega arith)

-- where all parts stand, each stands
stands_at : (i : Image) (to : ℕ → ℕ) (p : ℕ) (ps : List CodePart) (k : ℕ) (q : CodePart) → ItemsStand i to p (flat_map expanded_part ps) → slice_get ps k ≡ Some q → ItemsStand i to (p + 4 * part_place ps k) (expanded_part q)
stands_at i to p [] k q stands at = absurd cc
stands_at i to p (r ∷ ps) zero q stands at =
    let same : r ≡ q = cc in
    let here : p ≡ p + 4 * 0 = omega arith in
    subst (λ (s : CodePart). ItemsStand i to (p + 4 * 0) (expanded_part s)) same
    (subst (λ (a : ℕ). ItemsStand i to a (expanded_part r)) here (stand_in_two i to p (expanded_part r) (flat_map expanded_part ps) stands).0)
stands_at i to p (r ∷ ps) (suc k) q stands at =
    let there : p + 4 * part_words r + 4 * part_place ps k ≡ p + 4 * (part_words r + part_place ps k) = omega arith in
    subst (λ (a : ℕ). ItemsStand i to a (expanded_part q)) there
    (stands_at i to (p + 4 * part_words r) ps k q (stand_in_two i to p (expanded_part r) (flat_map expanded_part ps) stands).1 at)

-- ---- the row of a part

pub record RowIs (i : Image) (to : ℕ → ℕ) (ps : List CodePart) (row : Row) : Type 0 where
  pub k : ℕ
  pub part : CodePart
  pub at : slice_get ps k ≡ Some part
  pub is : rows_in to (part_place ps k) part ≡ row ∷ []
  pub here : address_of row ≡ address code_base (part_place ps k)
  pub many : word_count row ≡ part_words part
  pub group : IsGroup i.code i.cells row

module _ (t : SymbolTable) (i : Image) (to : ℕ → ℕ) (ps : List CodePart) (g : Ground t i to ps) where
  pub part_is : (k : ℕ) (p : CodePart) → slice_get ps k ≡ Some p → IsCodePart t p
  part_is k p at = all_get (IsCodePart t) ps k p g.each at

  pub near : (k : ℕ) (p : CodePart) → slice_get ps k ≡ Some p → part_place ps k + part_words p ≤ all_words ps
  near k p at = omega (arith, before_next part_words ps k p at, before_within part_words ps (suc k))

  pub part_stands : (k : ℕ) (p : CodePart) → slice_get ps k ≡ Some p → PartStands t i to (part_place ps k) p
  part_stands k p at = stands_at i (label_at to) code_base ps k p g.stands at

  pub word_within : (n : ℕ) → n < all_words ps → IsSome (word_at i.code (address code_base n))
  word_within n less =
      let long = g.long in
      subst (λ (o : Option ℕ). IsSome o) (sym (word_at_place i.code n)) (some_there i.code n (omega arith))

  row_by : (k : ℕ) (p : CodePart) (row : Row) → slice_get ps k ≡ Some p → Contains (rows_in to (part_place ps k) p) row → Kind to (part_place ps k) p → RowIs i to ps row
  row_by k p row at has (loose none free) = absurd (not_in_none row (subst (λ (rs : List Row). Contains rs row) none has))
  row_by k p row at has (grouped r one here many) =
      let same : r ≡ row = elim (cons_cases r [] row (subst (λ (rs : List Row). Contains rs row) one has)) [
        | inl e ↦ e
        | inr later ↦ absurd (not_in_none row later)
      ] in
      record {
        k = k;
        part = p;
        at = at;
        is = one ∙ ap (λ (s : Row). s ∷ []) same;
        here = sym (ap address_of same) ∙ here;
        many = sym (ap word_count same) ∙ many;
        group = all_in (IsGroup i.code i.cells) (rows_in to (part_place ps k) p) row (group_stands t i to (part_place ps k) p (sym g.cells) (part_is k p at) (part_stands k p at)) has;
      }

  -- each row is that of a part
  pub row_is : (row : Row) → Contains i.map.rows row → RowIs i to ps row
  row_is row has =
      let r : GivenBy part_words (rows_in to) 0 ps row = given_by part_words (rows_in to) 0 ps row (subst (λ (rs : List Row). Contains rs row) g.rows has) in
      let there = r.is in
      let e : r.there ≡ part_place ps r.k = omega arith in
      row_by r.k r.thing row r.at (subst (λ (h : ℕ). Contains (rows_in to h r.thing) row) e r.has) (kind to (part_place ps r.k) r.thing)

  pub row_there : (k : ℕ) (p : CodePart) (row : Row) → slice_get ps k ≡ Some p → Contains (rows_in to (part_place ps k) p) row → Contains i.map.rows row
  row_there k p row at has =
      subst (λ (rs : List Row). Contains rs row) (sym g.rows) (gives_at part_words (rows_in to) 0 ps k p (part_place ps k) row at (omega arith) has)
