-- The image of items in parts stands on its parts. So its items stand in it, it is well formed, and it has the shape.
use Rattle.std.proofs.Common.{◌≡◌, ℕ, zero, suc, ◌+◌, ◌*◌, ◌<◌, ◌≤◌, List, [], ◌∷◌, ◌++◌, map, refl, sym, ap, ◌∙◌, subst, Bool, true, false, cond, Some, arith}
use Rattle.std.specs.{Prelude.slice_get, Prelude.find, Prelude.nat_le, Prelude.nat_lt, List.flat_map, List.position_or_len}
use Rattle.std.proofs.lemmas.{Bool.le-leb, Bool.lt-ltb, Bool.le-ltb, Bool.and_from, Bool.and_right, List.map-append}
use Rattle.oat_asm.specs.{FetchesByTheTable, code_base, Row, address_of, word_count, is_over, row_over, declared.assembled.NoteAt.NoteAt, declared.item.Item.Item, Giving.gives_from, Items.item_words}
use Rattle.oat_asm.specs.{Items.words_needed, Items.label_place, Items.address, Items.is_label, Items.code_limit, Layout.notes_of_item, Layout.items_give, Layout.layout, Expansion.expansion}
use Rattle.oat_asm.specs.{Standing.ItemsStand, StandingLaws.RowsAreOver, NoteRows.row_of}
use Rattle.oat_asm.proofs.{Giving.before_within, Giving.words-flat, Giving.gives-flat, StandingItems.laid_items_stand, StandingItems.laid_words_encode}
use Rattle.oat_parts.specs.{Symbols.FunctionSymbol, Symbols.SymbolTable, Symbols.IsSymbolTable, Symbols.AreDistinct, Symbols.Rises, Symbols.labels_of, Symbols.functions_of, Parts.CodePart}
use Rattle.oat_parts.specs.{Parts.label, Parts.expanded_part, Parts.part_words, Parts.labels_in, Parts.AreInParts, Built.built_address, Built.row_at, Built.built_image, Built.Signature, Built.in_map}
use Rattle.oat_parts.specs.{Built.in_table, Built.BuiltImagesAreShaped, Built.BuiltItemsStand, Built.BuiltLabelsRise}
use Rattle.oat_parts.proofs.{Lists.in_get, Lists.in_map as in_mapped, Views.all_words, Views.part_place, Views.label_at, Views.rows_in, Views.rows_given, Views.expanded_parts, Spacing.part_labelled}
use Rattle.oat_parts.proofs.{Spacing.labels_rise, Assembling.can_be_assembled, Assembling.labels_once, Grounds.Ground, Rules.AreBehind, Rules.behind_next, Rules.rows_behind, Rules.s1, Rules.s2}
use Rattle.oat_parts.proofs.{Rules.s3, Rules.s4, Rules.s5, Rules.s6, Rules.s7, Rules.operation_begins, Rules.begin_is_operation, Naming.s8, Naming.well_formed}

-- ---- one row is over an address

over_more : (p : ℕ) (r : Row) (rs : List Row) (b : Bool) → is_over p r ≡ b → cond b (Some r) (find (is_over p) rs) ≡ row_over (r ∷ rs) p
over_more p r rs b e = ap (λ (t : Bool). cond t (Some r) (find (is_over p) rs)) (sym e)

over_by : (low : ℕ) (rows : List Row) (row : Row) (k p : ℕ) → AreBehind low rows → slice_get rows k ≡ Some row → address_of row ≤ p → p < address_of row + 4 * word_count row → row_over rows p ≡ Some row
over_by low [] row k p behind at above below = absurd cc
over_by low (r ∷ rs) row zero p behind at above below =
    let same : row ≡ r = cc in
    let lower : address_of r ≤ p = subst (λ (s : Row). address_of s ≤ p) same above in
    let upper : p < address_of r + 4 * word_count r = subst (λ (s : Row). p < address_of s + 4 * word_count s) same below in
    let found : is_over p r ≡ true = and_from (nat_le (address_of r) p) (nat_lt p (address_of r + 4 * word_count r)) (le-leb (address_of r) p lower) (lt-ltb p (address_of r + 4 * word_count r) upper) in
    sym (over_more p r rs true found) ∙ ap Some (sym same)
over_by low (r ∷ rs) row (suc k) p behind at above below =
    let next = behind_next low (r ∷ rs) 0 (suc k) r row behind (omega arith) refl at in
    let none : is_over p r ≡ false = and_right (nat_le (address_of r) p) (nat_lt p (address_of r + 4 * word_count r)) (le-ltb p (address_of r + 4 * word_count r) (omega arith)) in
    sym (over_more p r rs false none) ∙ over_by (address_of r + 4 * word_count r) rs row k p behind.1 at above below

-- ---- parts of the items

rows_of_parts : (to : ℕ → ℕ) (here : ℕ) (ps : List CodePart)
    → map (λ n. row_of (label_at to) n.at n.note) (gives_from part_words (λ h p. items_give (notes_of_item code_base) h (expanded_part p)) here ps) ≡ gives_from part_words (rows_in to) here ps
rows_of_parts to here [] = refl
rows_of_parts to here (p ∷ ps) =
    map-append (λ (n : NoteAt). row_of (label_at to) n.at n.note) (items_give (notes_of_item code_base) here (expanded_part p)) (gives_from part_words (λ h q. items_give (notes_of_item code_base) h (expanded_part q)) (here + part_words p) ps)
    ∙ ap (λ (front : List Row). front ++ map (λ (n : NoteAt). row_of (label_at to) n.at n.note) (gives_from part_words (λ h q. items_give (notes_of_item code_base) h (expanded_part q)) (here + part_words p) ps)) (rows_given to here p)
    ∙ ap (λ (rest : List Row). rows_in to here p ++ rest) (rows_of_parts to (here + part_words p) ps)

signatures : (to : ℕ → ℕ) (es : List FunctionSymbol) → map in_map (functions_of (label_at to) es) ≡ map in_table es
signatures to [] = refl
signatures to (e ∷ es) = ap (λ (ss : List Signature). in_table e ∷ ss) (signatures to es)

rises_as : (f g : ℕ → ℕ) (xs : List ℕ) → ((x y : ℕ) → g x < g y → f x < f y) → Rises g xs → Rises f xs
rises_as f g [] keeps rises = tt
rises_as f g (x ∷ xs) keeps rises = (λ y has. keeps x y (rises.0 y has), rises_as f g xs keeps rises.1)

module _ (t : SymbolTable) (items : List Item) (table : IsSymbolTable t) (made : AreInParts t items) where
  abbrev ps : List CodePart
  ps = made.parts

  -- where each label stands
  abbrev to : ℕ → ℕ
  to l = label_place (expansion items) l

  become : expansion items ≡ flat_map expanded_part ps
  become = ap (λ (is : List Item). expansion is) made.are ∙ expanded_parts ps

  total : words_needed (expansion items) ≡ all_words ps
  total = ap (λ (is : List Item). words_needed is) become ∙ words-flat item_words expanded_part ps

  distinct : AreDistinct (labels_in ps)
  distinct = subst (λ (ls : List ℕ). AreDistinct ls) (sym made.labelled) table.labels

  placed : (k l : ℕ) → slice_get ps k ≡ Some (label l) → to l ≡ part_place ps k
  placed k l at = ap (λ (is : List Item). label_place (expansion is) l) made.are ∙ part_labelled ps k l distinct at

  rows_are : map (row_at items) (layout (expansion items) code_base).notes ≡ gives_from part_words (rows_in to) 0 ps
  rows_are =
      ap (λ (is : List Item). map (row_at items) (items_give (notes_of_item code_base) 0 is)) become
      ∙ ap (map (row_at items)) (gives-flat item_words expanded_part (notes_of_item code_base) 0 ps)
      ∙ rows_of_parts to 0 ps

  over : RowsAreOver (built_image t items) (expansion items)
  over note at has p above below =
      let row = row_of (built_address items) at note in
      let rows = map (row_at items) (layout (expansion items) code_base).notes in
      let listed = in_get rows row (in_mapped (row_at items) (layout (expansion items) code_base).notes (record { note = note; at = at }) has) in
      over_by (address code_base 0) rows row listed.0 p (subst (λ (rs : List Row). AreBehind (address code_base 0) rs) (sym rows_are) (rows_behind to 0 ps)) listed.1 above below

  rise : Rises (built_address items) (labels_of t)
  rise =
      let r = labels_rise to 0 false ps (λ k l at. let e = placed k l at in omega arith) made.paced in
      rises_as (built_address items) to (labels_of t) (λ x y less. omega arith) (subst (λ (ls : List ℕ). Rises to ls) made.labelled r.1)

  module _ (fetches : FetchesByTheTable) (few : words_needed (expansion items) ≤ code_limit) where
    stand : ItemsStand (built_image t items) (built_address items) code_base (expansion items)
    stand = laid_items_stand fetches (built_image t items) (expansion items) (can_be_assembled t items table made few) (labels_once t items table made) refl over

    pub ground : Ground t (built_image t items) to ps
    ground =
        let encode = laid_words_encode (expansion items) (can_be_assembled t items table made few) in
        let sum = total in
        record {
          table = table;
          each = made.each;
          paced = made.paced;
          labels = made.labelled;
          begun = made.begins;
          few = omega arith;
          within = λ l. omega (arith, before_within item_words (expansion items) (position_or_len (is_label l) (expansion items)));
          placed = placed;
          long = encode.0 ∙ total;
          encoded = encode.1;
          stands = subst (λ (is : List Item). ItemsStand (built_image t items) (built_address items) code_base is) become stand;
          rows = rows_are;
          functions = refl;
          blocks = refl;
          cells = refl;
          data_words = refl;
        }

pub built_images_are_shaped : FetchesByTheTable → BuiltImagesAreShaped
built_images_are_shaped fetches t items table made few =
    let i = built_image t items in
    let to = λ (l : ℕ). label_place (expansion items) l in
    let ps = made.parts in
    let g : Ground t i to ps = ground t items table made fetches few in
    record {
      well_formed = well_formed t i to ps g;
      functions = signatures to t.functions;
      shaped = record {
        decodes = s1 t i to ps g fetches;
        rises = s2 t i to ps g;
        grouped = s3 t i to ps g;
        leads = s4 t i to ps g;
        apart = s5 t i to ps g;
        coded = s6 t i to ps g;
        paired = s7 t i to ps g;
        named = s8 t i to ps g;
      };
      operations = λ op. (begin_is_operation t i to ps g op, operation_begins t i to ps g op);
    }

pub built_items_stand : FetchesByTheTable → BuiltItemsStand
built_items_stand fetches t items table made few = stand t items table made fetches few

pub built_labels_rise : BuiltLabelsRise
built_labels_rise t items table made = rise t items table made
