-- The rule of names, and that the image is well formed.
use Rattle.std.proofs.Common.{◌≡◌, ℕ, suc, ◌+◌, ◌^◌, ◌<◌, ◌≤◌, List, [], ◌∷◌, ◌++◌, length, map, refl, sym, ap, ◌∙◌, subst, false, Some, arith}
use Rattle.std.specs.{Prelude.slice_get, Prelude.Contains, List.AllByRecursion, List.Sorted.IsStrictlyIncreasing}
use Rattle.oat_asm.specs.{Giving.gives_from, StandingLaws.IsEncoded, Function, Block, Row, IsName, entries_of, starts_of, word_count as row_words, InitWord, Image, IsWellFormedImage, IsWord}
use Rattle.oat_asm.specs.{IsFunction, IsBlock, IsRow, IsInitWord, IsIndex, IsSection, Everywhere, S8, HasOwnName, IsPlaced}
use Rattle.oat_parts.specs.{Symbols.FunctionSymbol, Symbols.SymbolTable, Symbols.IsFunctionSymbol, Symbols.AreDistinct, Symbols.Rises, Symbols.function_labels, Symbols.block_labels, Symbols.blocks_in}
use Rattle.oat_parts.specs.{Symbols.labels_of, Symbols.function_at, Parts.CodePart, Parts.part_words}
use Rattle.oat_parts.proofs.{Lists.first_in, Lists.get_in, Lists.get_map, Lists.map_get, Lists.of_map, Lists.all_join, Lists.map_length, Lists.all_get, Lists.all_in, Lists.distinct_get}
use Rattle.oat_parts.proofs.{Views.all_words, Views.part_place, Views.label_at, Views.rows_in, Views.Kind, Views.loose, Views.grouped, Views.kind, Spacing.labels_rise, Spacing.labels_few}
use Rattle.oat_parts.proofs.{Orders.entries_are, Orders.starts_are, Orders.block_names_are, Orders.names_are, Orders.labels_length, Orders.functions_rise, Orders.blocks_rise, Orders.kinds_apart}
use Rattle.oat_parts.proofs.{Orders.owner, Orders.Between, Orders.between, Orders.increasing, Assembling.cells_fit, Grounds.Ground, Grounds.row_is, Grounds.part_is, Grounds.near, Rows.row_range}
use Rattle.oat_parts.proofs.{Rules.label_boundary, Rules.entry_label, Rules.entry_there, Rules.function_listed, WordBounds.word_fits}

own_names : (es : List FunctionSymbol) → AllByRecursion IsFunctionSymbol es → AllByRecursion (λ (e : FunctionSymbol). AreDistinct e.blocks) es
own_names [] each = tt
own_names (e ∷ es) each = (each.0.distinct, own_names es each.1)

names_of : (es : List FunctionSymbol) → AllByRecursion IsFunctionSymbol es → AllByRecursion IsName (blocks_in es)
names_of [] each = tt
names_of (e ∷ es) each = all_join IsName e.blocks (blocks_in es) each.0.labels (names_of es each.1)

all_from_get : {A : Type 0} (P : A → Type 0) (xs : List A) → ((k : ℕ) (x : A) → slice_get xs k ≡ Some x → P x) → AllByRecursion P xs
all_from_get P [] each = tt
all_from_get P (x ∷ xs) each = (each 0 x refl, all_from_get P xs (λ k y at. each (suc k) y at))

few_more : (to : ℕ → ℕ) (here : ℕ) (p : CodePart) (rest : List Row) → Kind to here p → length (rows_in to here p ++ rest) ≤ part_words p + length rest
few_more to here p rest (loose none free) = let e = ap (λ (rs : List Row). length (rs ++ rest)) none in omega arith
few_more to here p rest (grouped r one at many) =
    let e = ap (λ (rs : List Row). length (rs ++ rest)) one in
    omega (arith, some r) where
      some : (s : Row) → 1 ≤ row_words s
      some s = grind arith

rows_few : (to : ℕ → ℕ) (here : ℕ) (ps : List CodePart) → length (gives_from part_words (rows_in to) here ps) ≤ all_words ps
rows_few to here [] = omega arith
rows_few to here (p ∷ ps) =
    let more = few_more to here p (gives_from part_words (rows_in to) (here + part_words p) ps) (kind to here p) in
    omega (arith, rows_few to (here + part_words p) ps)

module _ (t : SymbolTable) (i : Image) (to : ℕ → ℕ) (ps : List CodePart) (g : Ground t i to ps) where
  pub rises : Rises to (labels_of t)
  rises =
      let r = labels_rise to 0 false ps (λ k l at. let e = g.placed k l at in omega arith) g.paced in
      subst (λ (ls : List ℕ). Rises to ls) g.labels r.1

  own_name : (k : ℕ) (f : Function) → slice_get i.map.functions k ≡ Some f → HasOwnName i.map k f
  own_name k f at j h less one same =
      let all = ap (map (λ (c : Function). c.name)) g.functions ∙ names_are (label_at to) t.functions in
      let here = subst (λ (ns : List (List ℕ)). slice_get ns k ≡ Some f.name) all (map_get (λ (c : Function). c.name) i.map.functions k f at) in
      let there = subst (λ (ns : List (List ℕ)). slice_get ns j ≡ Some h.name) all (map_get (λ (c : Function). c.name) i.map.functions j h one) in
      distinct_get (map (λ (e : FunctionSymbol). e.name) t.functions) j k f.name g.table.names less (there ∙ ap Some same) here

  record BlockIs (k : ℕ) (b : Block) : Type 0 where
    l : ℕ
    at : slice_get (block_labels t.functions) k ≡ Some l
    start : label_at to l ≡ b.start
    name : slice_get (blocks_in t.functions) k ≡ Some b.label

  block_is : (k : ℕ) (b : Block) → slice_get i.map.blocks k ≡ Some b → BlockIs k b
  block_is k b at =
      let starts = subst (λ (ns : List ℕ). slice_get ns k ≡ Some b.start) (ap starts_of g.blocks ∙ starts_are (label_at to) t.functions) (map_get (λ (c : Block). c.start) i.map.blocks k b at) in
      let r = get_map (label_at to) (block_labels t.functions) k b.start starts in
      record {
        l = r.0;
        at = r.1;
        start = r.2;
        name = subst (λ (ns : List (List ℕ)). slice_get ns k ≡ Some b.label) (ap (map (λ (c : Block). c.label)) g.blocks ∙ block_names_are (label_at to) t.functions) (map_get (λ (c : Block). c.label) i.map.blocks k b at);
      }

  placed_block : (k : ℕ) (b : Block) → slice_get i.map.blocks k ≡ Some b → IsPlaced i.map k b
  placed_block k b at =
      let is : BlockIs k b = block_is k b at in
      let listed = get_in (block_labels t.functions) k is.l is.at in
      let start = is.start in
      let o = owner to t.functions is.l rises listed in
      let lower = o.2 in
      record {
        above = (label_at to o.0, entry_there t i to ps g o.0 o.1, omega arith);
        apart = λ has.
            let l = entry_label t i to ps g b.start has in
            let even = l.2 in
            kinds_apart to t.functions l.0 is.l rises l.1 listed (omega arith);
        label = λ j c f less one same of_c of_b.
            let other : BlockIs j c = block_is j c one in
            let begins = other.start in
            let n : Between to t.functions other.l is.l = between to t.functions j k other.l is.l b.label rises (own_names t.functions g.table.each) less other.at is.at (other.name ∙ ap Some same) is.name in
            let r = of_map (λ (h : Function). h.entry) i.map.functions (label_at to n.x) (entry_there t i to ps g n.x n.has) in
            let entry = r.2 in
            let after = n.above in
            let before = n.below in
            let most = of_b.greatest r.0 r.1 (omega arith) in
            let least = of_c.below in
            absurd (omega arith);
      }

  pub s8 : Everywhere (S8 i.map)
  s8 a = record {
    functions = λ k f at e. own_name k f at;
    blocks = λ k b at e. placed_block k b at;
  }

  -- ---- ranges and orders

  label_fits : (l : ℕ) → label_at to l < 2 ^ 32
  label_fits l = let w = g.within l in omega arith

  function_fits : (k : ℕ) (f : Function) → slice_get i.map.functions k ≡ Some f → IsFunction f
  function_fits k f at =
      let r = get_map (function_at (label_at to)) t.functions k f (subst (λ (fs : List Function). slice_get fs k ≡ Some f) g.functions at) in
      let e : IsFunctionSymbol r.0 = all_get IsFunctionSymbol t.functions k r.0 g.table.each r.1 in
      subst IsFunction r.2 (record { entry = label_fits r.0.label; name = e.name; params = e.params })

  block_fits : (k : ℕ) (b : Block) → slice_get i.map.blocks k ≡ Some b → IsBlock b
  block_fits k b at =
      let is : BlockIs k b = block_is k b at in
      let high = label_fits is.l in
      let start = is.start in
      record { start = omega arith; label = all_get IsName (blocks_in t.functions) k b.label (names_of t.functions g.table.each) is.name }

  code_words : (n word : ℕ) → slice_get i.code n ≡ Some word → IsWord word
  code_words n word at =
      let x : IsEncoded word = g.encoded word (get_in i.code n word at) in
      let fits = word_fits x.inst x.range in
      let e = x.is in
      omega arith

  row_fits : (k : ℕ) (row : Row) → slice_get i.map.rows k ≡ Some row → IsRow row
  row_fits k row at =
      let r = row_is t i to ps g row (get_in i.map.rows k row at) in
      let few = g.few in
      let all = row_range t to (part_place ps r.k) r.part (cells_fit t g.table) (part_is t i to ps g r.k r.part r.at) (let n = near t i to ps g r.k r.part r.at in omega arith) g.within in
      all_in IsRow (rows_in to (part_place ps r.k) r.part) row all (subst (λ (rs : List Row). Contains rs row) (sym r.is) (first_in row []))

  rise_by_label : (x y : ℕ) → to x < to y → label_at to x < label_at to y
  rise_by_label x y less = omega arith

  pub well_formed : IsWellFormedImage i
  well_formed =
      let few = g.few in
      let many = g.long in
      let entries = ap entries_of g.functions ∙ entries_are (label_at to) t.functions in
      let starts = ap starts_of g.blocks ∙ starts_are (label_at to) t.functions in
      let functions = sym (map_length (λ (f : Function). f.entry) i.map.functions) ∙ ap length entries ∙ map_length (label_at to) (function_labels t.functions) in
      let blocks = sym (map_length (λ (b : Block). b.start) i.map.blocks) ∙ ap length starts ∙ map_length (label_at to) (block_labels t.functions) in
      let listed = ap length g.labels ∙ labels_length t.functions in
      let bound = labels_few false ps g.paced in
      let rows = ap length g.rows in
      let rows_bound = rows_few to 0 ps in
      let below = some_word t.functions refl g.table.some in
      record {
        code = record { each = all_from_get IsWord i.code code_words; enough = omega arith; limited = omega arith };
        words = subst (λ (ws : List InitWord). IsSection IsInitWord 0 65536 ws) (sym g.data_words) g.table.words;
        words_rise = subst (λ (ws : List InitWord). IsStrictlyIncreasing (map (λ w. w.index) ws)) (sym g.data_words) g.table.words_rise;
        cells = subst (λ (cs : List ℕ). IsSection IsIndex 0 65536 cs) (sym g.cells) g.table.cells;
        cells_rise = subst (λ (cs : List ℕ). IsStrictlyIncreasing cs) (sym g.cells) g.table.cells_rise;
        functions = record { each = all_from_get IsFunction i.map.functions function_fits; enough = omega arith; limited = omega arith };
        functions_rise = subst (λ (ns : List ℕ). IsStrictlyIncreasing ns) (sym entries) (increasing (label_at to) to (function_labels t.functions) rise_by_label (functions_rise to t.functions rises));
        blocks = record { each = all_from_get IsBlock i.map.blocks block_fits; enough = omega arith; limited = omega arith };
        blocks_rise = subst (λ (ns : List ℕ). IsStrictlyIncreasing ns) (sym starts) (increasing (label_at to) to (block_labels t.functions) rise_by_label (blocks_rise to t.functions rises));
        rows = record { each = all_from_get IsRow i.map.rows row_fits; enough = omega arith; limited = omega arith };
      } where
        some_word : (es : List FunctionSymbol) → es ≡ t.functions → 1 ≤ length es → 1 ≤ all_words ps
        some_word [] same some = absurd (omega arith)
        some_word (e ∷ es) same some =
            let first = label_boundary t i to ps g e.label (function_listed t i to ps g e.label (subst (λ (fs : List FunctionSymbol). Contains (function_labels fs) e.label) same (first_in e.label (function_labels es)))) in
            let below = first.below in
            omega arith
