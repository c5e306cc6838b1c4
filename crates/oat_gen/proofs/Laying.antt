-- The items of a program are those of main, and those of the others in their order.
use Rattle.std.proofs.Common.{◌≡◌, ℕ, zero, suc, ◌+◌, ◌<◌, Bool, cond, List, [], ◌∷◌, ◌++◌, length, map, take, drop, refl, sym, ap, ◌∙◌, Some, arith, append_assoc, length-append}
use Rattle.std.specs.Prelude.{slice_get}
use Rattle.std.proofs.lemmas.{Bool.eq-eqb, Bool.ne_eqb, List.length-map, List.take_at}
use Rattle.oat_globals.specs.{Item, Program, Func, BlockIr, operation_number, is_leaf}
use Rattle.oat_symbols.specs.{FunctionSymbol, FunctionCode, blocks_code, code_from, Programs.block_names, Programs.symbol_for, Programs.symbols_from, Programs.label_of_block, Programs.main_at}
use Rattle.oat_symbols.specs.{Codes.codes_from}
use Rattle.oat_gen.specs.{declared.globals.GlobalPlace.GlobalPlace, GlobalPlaces.global_places, Marked.marked_start, Code.block_code, Code.function_code, Code.program_items, Steps.function_items}
use Rattle.oat_gen.specs.{Steps.others_items, Steps.block_total}
use Rattle.oat_gen.proofs.Bounds.{block_total_cons, block_total_both}
use Rattle.oat_asm.specs.declared.item.Item.TheVariants as item

-- functions behind f others, whose first block has label n
record IsReached (p : Program) (f n : ℕ) (funcs : List Func) : Type 0 where
  before : List Func
  whole : p.funcs ≡ before ++ funcs
  count : length before ≡ f
  labels : length p.funcs + block_total before ≡ n

names_of : (g : Func) → length (block_names g) ≡ length g.blocks
names_of g = length-map g.blocks (λ (b : BlockIr). b.label)

reach_on : (p : Program) (f n : ℕ) (g : Func) (gs : List Func) → IsReached p f n (g ∷ gs) → IsReached p (f + 1) (n + length (block_names g)) gs
reach_on p f n g gs r =
    let one : block_total (g ∷ []) ≡ length g.blocks + block_total [] = block_total_cons g [] in
    record {
      before = r.before ++ g ∷ [];
      whole = r.whole ∙ sym (append_assoc r.before (g ∷ []) gs);
      count = omega (arith, length-append r.before (g ∷ []), r.count);
      labels = omega (arith, r.labels, block_total_both r.before (g ∷ []), one, names_of g);
    }

label_is : (p : Program) (f n : ℕ) (funcs : List Func) → IsReached p f n funcs → label_of_block p f 0 ≡ n
label_is p f n funcs r =
    let front : take f p.funcs ≡ r.before = ap (take f) r.whole ∙ take_at r.before funcs f r.count in
    let blocks : block_total (take f p.funcs) ≡ block_total r.before = ap block_total front in
    omega (arith, blocks, r.labels)

module _ (p : Program) where
  abbrev places : List GlobalPlace
  places = global_places p

  abbrev code : ℕ → Func → FunctionCode
  code = function_code p

  -- a symbol and its code before others
  one : (f n : ℕ) (g : Func) (es : List FunctionSymbol) (cs : List FunctionCode) → label_of_block p f 0 ≡ n
      → code_from (symbol_for p f n g ∷ es) (code f g ∷ cs) ≡ function_items places f n g ++ code_from es cs
  one f n g es cs is =
      let start : List Item = item.Label f ∷ marked_start (is_leaf g) g.params (length g.locals) (operation_number g.role) in
      ap (λ (l : ℕ). start ++ (blocks_code n (map (block_code places l g) g.blocks) ++ code_from es cs)) is
      ∙ sym (append_assoc start (blocks_code n (map (block_code places n g) g.blocks)) (code_from es cs))

  -- behind main are all functions
  behind : (m f n : ℕ) (funcs : List Func) → IsReached p f n funcs → m < f → code_from (symbols_from p f n funcs) (codes_from code f funcs) ≡ others_items places m f n funcs
  behind m f n [] r past = refl
  behind m f n (g ∷ gs) r past =
      let own = function_items places f n g in
      one f n g (symbols_from p (f + 1) (n + length (block_names g)) gs) (codes_from code (f + 1) gs) (label_is p f n (g ∷ gs) r)
      ∙ ap (λ (is : List Item). own ++ is) (behind m (f + 1) (n + length (block_names g)) gs (reach_on p f n g gs r) (omega arith))
      ∙ ap (λ (k : ℕ). own ++ others_items places m (f + 1) (n + k) gs) (names_of g)
      ∙ ap (λ (b : Bool). cond b [] own ++ others_items places m (f + 1) (n + length g.blocks) gs) (sym (ne_eqb f m (λ same. absurd (omega (arith, same, past)))))

  -- all but the k-th
  others : (k f n : ℕ) (funcs : List Func) → IsReached p f n funcs → k < length funcs
      → code_from (take k (symbols_from p f n funcs) ++ drop (k + 1) (symbols_from p f n funcs)) (take k (codes_from code f funcs) ++ drop (k + 1) (codes_from code f funcs)) ≡ others_items places (f + k) f n funcs
  others k f n [] r low = absurd (omega (arith, low))
  others zero f n (g ∷ gs) r low =
      let own = function_items places f n g in
      behind (f + 0) (f + 1) (n + length (block_names g)) gs (reach_on p f n g gs r) (omega arith)
      ∙ ap (λ (k : ℕ). others_items places (f + 0) (f + 1) (n + k) gs) (names_of g)
      ∙ ap (λ (b : Bool). cond b [] own ++ others_items places (f + 0) (f + 1) (n + length g.blocks) gs) (sym (eq-eqb f (f + 0) (omega arith)))
  others (suc k) f n (g ∷ gs) r low =
      let own = function_items places f n g in
      let e = symbol_for p f n g in
      let c = code f g in
      let es = symbols_from p (f + 1) (n + length (block_names g)) gs in
      let cs = codes_from code (f + 1) gs in
      let next : suc k + 1 ≡ suc (k + 1) = omega arith in
      let main : f + 1 + k ≡ f + suc k = omega arith in
      ap (λ (j : ℕ). code_from (take (suc k) (e ∷ es) ++ drop j (e ∷ es)) (take (suc k) (c ∷ cs) ++ drop j (c ∷ cs))) next
      ∙ one f n g (take k es ++ drop (k + 1) es) (take k cs ++ drop (k + 1) cs) (label_is p f n (g ∷ gs) r)
      ∙ ap (λ (is : List Item). own ++ is) (others k (f + 1) (n + length (block_names g)) gs (reach_on p f n g gs r) (omega (arith, low)))
      ∙ ap (λ (m : ℕ). own ++ others_items places m (f + 1) (n + length (block_names g)) gs) main
      ∙ ap (λ (j : ℕ). own ++ others_items places (f + suc k) (f + 1) (n + j) gs) (names_of g)
      ∙ ap (λ (b : Bool). cond b [] own ++ others_items places (f + suc k) (f + 1) (n + length g.blocks) gs) (sym (ne_eqb f (f + suc k) (λ same. absurd (omega (arith, same)))))

  -- the k-th by itself
  symbol_alone : (k f n : ℕ) (funcs : List Func) (g : Func) → IsReached p f n funcs → slice_get funcs k ≡ Some g
      → take 1 (drop k (symbols_from p f n funcs)) ≡ symbol_for p (f + k) (label_of_block p (f + k) 0) g ∷ []
  symbol_alone k f n [] g r at = absurd cc
  symbol_alone zero f n (h ∷ hs) g r at =
      let same : h ≡ g = cc in
      let here : f ≡ f + 0 = omega arith in
      ap (λ (x : Func). symbol_for p f n x ∷ []) same
      ∙ ap (λ (l : ℕ). symbol_for p f l g ∷ []) (sym (label_is p f n (h ∷ hs) r))
      ∙ ap (λ (i : ℕ). symbol_for p i (label_of_block p i 0) g ∷ []) here
  symbol_alone (suc k) f n (h ∷ hs) g r at =
      let main : f + 1 + k ≡ f + suc k = omega arith in
      symbol_alone k (f + 1) (n + length (block_names h)) hs g (reach_on p f n h hs r) at ∙ ap (λ (i : ℕ). symbol_for p i (label_of_block p i 0) g ∷ []) main

  code_alone : (k f : ℕ) (funcs : List Func) (g : Func) → slice_get funcs k ≡ Some g → take 1 (drop k (codes_from code f funcs)) ≡ code (f + k) g ∷ []
  code_alone k f [] g at = absurd cc
  code_alone zero f (h ∷ hs) g at =
      let same : h ≡ g = cc in
      let here : f ≡ f + 0 = omega arith in
      ap (λ (x : Func). code f x ∷ []) same ∙ ap (λ (i : ℕ). code i g ∷ []) here
  code_alone (suc k) f (h ∷ hs) g at =
      let main : f + 1 + k ≡ f + suc k = omega arith in
      code_alone k (f + 1) hs g at ∙ ap (λ (i : ℕ). code i g ∷ []) main

  from_first : IsReached p 0 (length p.funcs) p.funcs
  from_first = record { before = []; whole = refl; count = refl; labels = omega arith }

  laid : (m : ℕ) (main : Func) → m ≡ main_at p → m < length p.funcs → slice_get p.funcs m ≡ Some main
      → function_items places m (label_of_block p m 0) main ++ others_items places m 0 (length p.funcs) p.funcs ≡ program_items p
  laid m main is low at =
      let n = length p.funcs in
      let es = symbols_from p 0 n p.funcs in
      let cs = codes_from code 0 p.funcs in
      let none : 0 + m ≡ m = omega arith in
      let e = symbol_for p m (label_of_block p m 0) main in
      let c = code m main in
      let symbols : take 1 (drop m es) ≡ e ∷ [] = symbol_alone m 0 n p.funcs main from_first at ∙ ap (λ (i : ℕ). symbol_for p i (label_of_block p i 0) main ∷ []) none in
      let codes : take 1 (drop m cs) ≡ c ∷ [] = code_alone m 0 p.funcs main at ∙ ap (λ (i : ℕ). code i main ∷ []) none in
      let es_rest = take m es ++ drop (m + 1) es in
      let cs_rest = take m cs ++ drop (m + 1) cs in
      let all : code_from (take 1 (drop m es) ++ es_rest) (take 1 (drop m cs) ++ cs_rest) ≡ program_items p = ap (λ (k : ℕ). code_from (take 1 (drop k es) ++ (take k es ++ drop (k + 1) es)) (take 1 (drop k cs) ++ (take k cs ++ drop (k + 1) cs))) is in
      ap (λ (is : List Item). function_items places m (label_of_block p m 0) main ++ is)
      (ap (λ (k : ℕ). others_items places k 0 n p.funcs) (sym none) ∙ sym (others m 0 n p.funcs from_first low))
      ∙ sym (one m (label_of_block p m 0) main es_rest cs_rest refl)
      ∙ ap (λ (xs : List FunctionCode). code_from (e ∷ es_rest) (xs ++ cs_rest)) (sym codes)
      ∙ ap (λ (xs : List FunctionSymbol). code_from (xs ++ es_rest) (take 1 (drop m cs) ++ cs_rest)) (sym symbols)
      ∙ all

  -- by the places and the label at hand
  pub laid_by : (at : List GlobalPlace) (m first : ℕ) (main : Func) → at ≡ global_places p → first ≡ label_of_block p m 0 → m ≡ main_at p → m < length p.funcs → slice_get p.funcs m ≡ Some main
      → function_items at m first main ++ others_items at m 0 (length p.funcs) p.funcs ≡ program_items p
  laid_by at m first main same is here low found =
      ap (λ (ps : List GlobalPlace). function_items ps m first main ++ others_items ps m 0 (length p.funcs) p.funcs) same
      ∙ ap (λ (l : ℕ). function_items places m l main ++ others_items places m 0 (length p.funcs) p.funcs) is
      ∙ laid m main here low found
