-- The symbol table of a checked program is one.
use Rattle.std.proofs.Common.{◌≡◌, ℕ, zero, suc, ◌+◌, ◌<◌, ◌≤◌, List, [], ◌∷◌, ◌++◌, length, map, take, drop, refl, sym, ap, ◌∙◌, subst, Bool, true, false, Option, Some, arith, inl, inr}
use Rattle.std.specs.{Prelude.Contains, Prelude.slice_get, List.AllByRecursion, List.flat_map, List.sum_by, List.list_any, List.position_or_len, Option.option_to_list}
use Rattle.std.proofs.lemmas.{Bool.true≢false, List.map-append, List.Concat.flat_map-append, List.Elements.Contains-append_left, List.Elements.Contains-append_right}
use Rattle.std.proofs.lemmas.{List.Elements.Contains-append_cases, List.Elements.All-contains}
use Rattle.oat_parts.specs.{IsName, InitWord, IsInitWord, IsIndex, Symbols.FunctionSymbol, Symbols.SymbolTable, Symbols.IsFunctionSymbol, Symbols.IsSymbolTable, Symbols.AreDistinct}
use Rattle.oat_parts.specs.{Symbols.own_labels, Symbols.function_labels, Symbols.operations_in}
use Rattle.oat_parts.proofs.Lists.{first_in, later_in, cons_cases, get_in, in_get, in_map, of_map, in_flat_map, of_flat_map, distinct_parts, distinct_join}
use Rattle.oat_check.specs.{Program, Func, BlockIr, have_one_name, have_one_label, IsProgram, IsFunc, Globals.size_in_words, Globals.cell_words, Rules.is_main, Rules.IsChecked, RuleLaws.KeepsRules}
use Rattle.oat_check.specs.{Steps.operation_number}
use Rattle.oat_check.proofs.Checking.{keeps_rules}
use Rattle.oat_symbols.specs.Programs.{block_names, symbol_for, symbols_from, all_symbols, label_of_block, with_first, main_at, words_from, symbols_of, HasValidNames, ProgramsHaveSymbols}
use Rattle.oat_symbols.specs.Programs.{ProgramsHaveTheirLabels}
use Rattle.oat_symbols.proofs.{Distinct.distinct_texts, Distinct.ids, Distinct.distinct_ids, Labels.functions_labelled, Labels.blocks_labelled, Labels.labels_distinct, Globals.words_between}
use Rattle.oat_symbols.proofs.{Globals.words_set, Globals.cells_between, Globals.all_by, Globals.rises_map, Globals.rising}

-- ---- the functions

module _ (program : Program) where
  names_same : (f n : ℕ) (funcs : List Func) → map (λ (e : FunctionSymbol). e.name) (symbols_from program f n funcs) ≡ map (λ (g : Func). g.name) funcs
  names_same f n [] = refl
  names_same f n (g ∷ gs) = ap (λ (ns : List (List ℕ)). g.name ∷ ns) (names_same (f + 1) (n + length (block_names g)) gs)

  ids_same : (f n : ℕ) (funcs : List Func) → operations_in (symbols_from program f n funcs) ≡ ids funcs
  ids_same f n [] = refl
  ids_same f n (g ∷ gs) = ap (λ (ns : List ℕ). option_to_list (operation_number g.role) ++ ns) (ids_same (f + 1) (n + length (block_names g)) gs)

  pub lengths_same : (f n : ℕ) (funcs : List Func) → length (symbols_from program f n funcs) ≡ length funcs
  lengths_same f n [] = refl
  lengths_same f n (g ∷ gs) = ap suc (lengths_same (f + 1) (n + length (block_names g)) gs)

  labels_named : (blocks : List BlockIr) → ((block : BlockIr) → Contains blocks block → IsName block.label) → AllByRecursion IsName (map (λ (b : BlockIr). b.label) blocks)
  labels_named [] named = tt
  labels_named (b ∷ bs) named = (named b (first_in b bs), labels_named bs (λ c has. named c (later_in b bs c has)))

  symbols_are : (f n : ℕ) (funcs : List Func) → ((func : Func) → Contains funcs func → IsFunc program func) → ((func : Func) → Contains funcs func → IsName func.name)
      → ((func : Func) (block : BlockIr) → Contains funcs func → Contains func.blocks block → IsName block.label) → AllByRecursion IsFunctionSymbol (symbols_from program f n funcs)
  symbols_are f n [] are named labelled = tt
  symbols_are f n (g ∷ gs) are named labelled =
      let own : IsFunc program g = are g (first_in g gs) in (
        record {
          name = named g (first_in g gs);
          params = own.few_params;
          labels = labels_named g.blocks (λ b has. labelled g b (first_in g gs) has);
          distinct = distinct_texts have_one_label (λ (b : BlockIr). b.label) g.blocks (λ x y. refl) own.labels;
        },
        symbols_are (f + 1) (n + length (block_names g)) gs (λ h has. are h (later_in g gs h has)) (λ h has. named h (later_in g gs h has)) (λ h b has also. labelled h b (later_in g gs h has) also),
      )

-- ---- main first

-- what stands in the middle may stand first
moved : {A : Type 0} (xs ms ys : List A) → AreDistinct (xs ++ (ms ++ ys)) → AreDistinct (ms ++ (xs ++ ys))
moved xs ms ys distinct =
    let outer = distinct_parts xs (ms ++ ys) distinct in
    let inner = distinct_parts ms ys outer.0 in
    distinct_join ms (xs ++ ys) (distinct_front ms ys outer.0) (distinct_join xs ys (distinct_front xs (ms ++ ys) distinct) inner.0 (λ x has also. outer.1 x has (Contains-append_right ms ys x also))) (λ x has also.
    elim (Contains-append_cases xs ys x also) [
      | inl first ↦ outer.1 x first (Contains-append_left ms ys x has)
      | inr last ↦ inner.1 x has last
    ]) where
      distinct_front : {B : Type 0} (us vs : List B) → AreDistinct (us ++ vs) → AreDistinct us
      distinct_front [] vs d = tt
      distinct_front (u ∷ us) vs d = (λ has. d.0 (Contains-append_left us vs u has), distinct_front us vs d.1)

moved_flat : {A B : Type 0} (f : A → List B) (xs : List A) (m : A) (ys : List A) → AreDistinct (flat_map f (xs ++ m ∷ ys)) → AreDistinct (flat_map f (m ∷ (xs ++ ys)))
moved_flat f xs m ys distinct =
    subst (λ bs. AreDistinct (f m ++ bs)) (sym (flat_map-append f xs ys))
    (moved (flat_map f xs) (f m) (flat_map f ys) (subst AreDistinct (flat_map-append f xs (m ∷ ys)) distinct))

moved_map : {A B : Type 0} (f : A → B) (xs : List A) (m : A) (ys : List A) → AreDistinct (map f (xs ++ m ∷ ys)) → AreDistinct (map f (m ∷ (xs ++ ys)))
moved_map f xs m ys distinct =
    subst (λ bs. AreDistinct (f m ∷ bs)) (sym (map-append f xs ys))
    (moved (map f xs) (f m ∷ []) (map f ys) (subst AreDistinct (map-append f xs (m ∷ ys)) distinct))

moved_all : {A : Type 0} (P : A → Type 0) (xs : List A) (m : A) (ys : List A) → AllByRecursion P (xs ++ m ∷ ys) → AllByRecursion P (m ∷ (xs ++ ys))
moved_all P [] m ys all = all
moved_all P (x ∷ xs) m ys all =
    let rest = moved_all P xs m ys all.1 in
    (rest.0, (all.0, rest.1))

abbrev with_functions : SymbolTable → List FunctionSymbol → SymbolTable
with_functions t es = record t { functions = es }

main_first : (t : SymbolTable) (before behind : List FunctionSymbol) (main : FunctionSymbol) → IsSymbolTable (with_functions t (before ++ main ∷ behind)) → IsSymbolTable (with_functions t (main ∷ (before ++ behind)))
main_first t before behind main table = record {
  some = omega arith;
  each = moved_all IsFunctionSymbol before main behind table.each;
  labels = moved_flat (λ (e : FunctionSymbol). e.label ∷ own_labels e) before main behind table.labels;
  names = moved_map (λ (e : FunctionSymbol). e.name) before main behind table.names;
  operations = moved_flat (λ (e : FunctionSymbol). option_to_list e.operation) before main behind table.operations;
  words = table.words;
  words_rise = table.words_rise;
  cells = table.cells;
  cells_rise = table.cells_rise;
}

pub split_at : {A : Type 0} (m : ℕ) (xs : List A) → m < length xs → (x : A) × (xs ≡ take m xs ++ x ∷ drop (m + 1) xs) × (take 1 (drop m xs) ≡ x ∷ [])
split_at m [] less = absurd (omega arith)
split_at zero (x ∷ xs) less = (x, refl, refl)
split_at (suc m) (x ∷ xs) less =
    let r = split_at m xs (omega arith) in
    let next : suc m + 1 ≡ suc (m + 1) = omega arith in
    (r.0, ap (λ ys. x ∷ ys) r.1 ∙ ap (λ k. x ∷ (take m xs ++ r.0 ∷ drop k (x ∷ xs))) (sym next), r.2)

found_main : (funcs : List Func) → list_any is_main funcs ≡ true → position_or_len is_main funcs < length funcs
found_main [] none = absurd (true≢false (sym none))
found_main (g ∷ gs) some = by (is_main g) refl some (λ rest. found_main gs rest) where
  by : (b : Bool) → is_main g ≡ b → list_any is_main (g ∷ gs) ≡ true → (list_any is_main gs ≡ true → position_or_len is_main gs < length gs) → position_or_len is_main (g ∷ gs) < suc (length gs)
  by true e some rest = rw e (omega arith)
  by false e some rest = rw e (omega (arith, rest (rw e at some)))

pub main_within : (program : Program) → IsChecked program → main_at program < length program.funcs
main_within program ok = let k : KeepsRules program = keeps_rules program ok.accepted in found_main program.funcs k.main

pub symbols_many : (program : Program) (f n : ℕ) (funcs : List Func) → length (symbols_from program f n funcs) ≡ length funcs
symbols_many program f n [] = refl
symbols_many program f n (g ∷ gs) = ap suc (symbols_many program (f + 1) (n + length (block_names g)) gs)

in_order : (program : Program) → IsChecked program → HasValidNames program
    → IsSymbolTable (record { functions = all_symbols program; words = words_from 0 program.globals; cells = cell_words program.globals })
in_order program ok named =
    let formed : IsProgram program = ok.well_formed in
    let rules : KeepsRules program = keeps_rules program ok.accepted in
    let n = length program.funcs in
    let many = symbols_many program 0 n program.funcs in
    let main = main_within program ok in
    let ws = words_between 0 program.globals in
    let cs = cells_between program.globals in
    let few : sum_by size_in_words program.globals ≤ 65536 = rules.words in
    let words_few = ws.few in
    let cells_few_ = cs.few in
    record {
      some = omega arith;
      each = symbols_are program 0 n program.funcs (λ func has. All-contains (IsFunc program) program.funcs func formed.funcs has) named.functions named.blocks;
      labels = labels_distinct program 0 n program.funcs (omega arith);
      names = subst (λ (ns : List (List ℕ)). AreDistinct ns) (sym (names_same program 0 n program.funcs)) (distinct_texts have_one_name (λ (g : Func). g.name) program.funcs (λ x y. refl) formed.func_names);
      operations = subst (λ (ns : List ℕ). AreDistinct ns) (sym (ids_same program 0 n program.funcs)) (distinct_ids program.funcs formed.operations);
      words = record {
        each = all_by IsInitWord (words_from 0 program.globals) (λ w has. let r = words_set 0 program.globals w has in let p = (ws.are w has).1 in record { index = omega arith; set = r.0; value = r.1 });
        enough = omega arith;
        limited = omega arith;
      };
      words_rise = rising (map (λ (w : InitWord). w.index) (words_from 0 program.globals)) (rises_map (λ (w : InitWord). w.index) (words_from 0 program.globals) ws.rise);
      cells = record {
        each = all_by IsIndex (cell_words program.globals) (λ c has. let p = (cs.are c has).1 in omega arith);
        enough = omega arith;
        limited = omega arith;
      };
      cells_rise = rising (cell_words program.globals) cs.rise;
    }

pub programs_have_symbols : ProgramsHaveSymbols
programs_have_symbols program ok named =
    let many = symbols_many program 0 (length program.funcs) program.funcs in
    let main = main_within program ok in
    let m = main_at program in
    let s = split_at m (all_symbols program) (omega arith) in
    let t = symbols_of program in
    let ordered = subst (λ (es : List FunctionSymbol). IsSymbolTable (with_functions t es)) s.1 (in_order program ok named) in
    subst (λ (es : List FunctionSymbol). IsSymbolTable (with_functions t es)) (sym (ap (λ (h : List FunctionSymbol). h ++ (take m (all_symbols program) ++ drop (m + 1) (all_symbols program))) s.2))
    (main_first t (take m (all_symbols program)) (drop (m + 1) (all_symbols program)) s.0 ordered)

pub first_has : {A : Type 0} (m : ℕ) (xs : List A) (x : A) → m < length xs → Contains xs x → Contains (with_first m xs) x
first_has m xs x less has =
    let s = split_at m xs less in
    let front = take m xs in
    let back = drop (m + 1) xs in
    let moved : Contains (s.0 ∷ (front ++ back)) x = elim (Contains-append_cases front (s.0 ∷ back) x (subst (λ ys. Contains ys x) s.1 has)) [
      | inl before ↦ later_in s.0 (front ++ back) x (Contains-append_left front back x before)
      | inr from ↦ elim (cons_cases s.0 back x from) [
        | inl same ↦ subst (Contains (s.0 ∷ (front ++ back))) same (first_in s.0 (front ++ back))
        | inr behind ↦ later_in s.0 (front ++ back) x (Contains-append_right front back x behind)
      ]
    ] in
    subst (λ ys. Contains (ys ++ (front ++ back)) x) (sym s.2) moved

-- the symbol of a function has the number of its operation
with_number : (program : Program) (f n : ℕ) (funcs : List Func) (k : ℕ) (func : Func) → slice_get funcs k ≡ Some func
    → (e : FunctionSymbol) × Contains (symbols_from program f n funcs) e × (e.operation ≡ operation_number func.role)
with_number program f n [] k func at = absurd cc
with_number program f n (g ∷ gs) zero func at =
    let same : g ≡ func = cc in
    (symbol_for program f n g, first_in (symbol_for program f n g) (symbols_from program (f + 1) (n + length (block_names g)) gs), ap (λ (h : Func). operation_number h.role) same)
with_number program f n (g ∷ gs) (suc k) func at =
    let rest = symbols_from program (f + 1) (n + length (block_names g)) gs in
    let r = with_number program (f + 1) (n + length (block_names g)) gs k func at in
    (r.0, later_in (symbol_for program f n g) rest r.0 r.1, r.2)

-- the number of each function and block is a label of the table
pub programs_have_their_labels : ProgramsHaveTheirLabels
programs_have_their_labels program ok =
    let n = length program.funcs in
    let m = main_at program in
    let es = all_symbols program in
    let many = symbols_many program 0 n program.funcs in
    let main = main_within program ok in
    let has_first = λ (e : FunctionSymbol) (has : Contains es e). first_has m es e (omega arith) has in
    record {
      functions = λ f less.
          let r = of_map (λ (e : FunctionSymbol). e.label) es f (functions_labelled program 0 n program.funcs f (omega arith) (omega arith)) in
          subst (Contains (function_labels (with_first m es))) r.2 (in_map (λ (e : FunctionSymbol). e.label) (with_first m es) r.0 (has_first r.0 r.1));
      blocks = λ f b func at less.
          let r = of_flat_map own_labels es (label_of_block program f b) (blocks_labelled program 0 n program.funcs f b (label_of_block program f b) func at less refl) in
          let there = in_get (with_first m es) r.1 (has_first r.1 (get_in es r.0 r.1 r.2)) in
          in_flat_map own_labels (with_first m es) there.0 r.1 (label_of_block program f b) there.1 r.3;
      operations = λ f op func at is.
          let r = with_number program 0 n program.funcs f func at in
          let there = in_get (with_first m es) r.0 (has_first r.0 r.1) in
          let number : r.0.operation ≡ Some op = r.2 ∙ is in
          let own : Contains (option_to_list r.0.operation) op = subst (λ (o : Option ℕ). Contains (option_to_list o) op) (sym number) (first_in op []) in
          in_flat_map (λ (e : FunctionSymbol). option_to_list e.operation) (with_first m es) there.0 r.0 op there.1 own;
    }
