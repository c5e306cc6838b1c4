-- From a program and the code of its functions to the image.
use Rattle.std.proofs.Common.{◌≡◌, ℕ, zero, suc, ◌+◌, ◌<◌, List, [], ◌∷◌, ◌++◌, length, take, drop, refl, sym, ap, ◌∙◌, subst, Some, arith}
use Rattle.std.specs.{Prelude.slice_get, List.position_or_len}
use Rattle.oat_asm.proofs.Giving.{before_within}
use Rattle.oat_parts.specs.{FetchesByTheTable, code_base, Image, item_words, is_label, expansion, ItemsStand, Symbols.FunctionSymbol, Symbols.SymbolTable, Symbols.IsSymbolTable, Parts.AreInParts}
use Rattle.oat_parts.specs.{Built.built_address, Built.built_image, Making.FunctionCode, Making.code_from, Making.AreCodes}
use Rattle.oat_parts.proofs.{Lists.map_length, Assembling.parts_can_be_expanded as expand, Building.built_images_are_shaped as shaped, Building.built_items_stand as stand}
use Rattle.oat_parts.proofs.{Making.codes_are_in_parts as in_parts}
use Rattle.oat_check.specs.{Program, Func, BlockIr, Rules.IsChecked}
use Rattle.oat_symbols.specs.{Programs.block_names, Programs.symbol_for, Programs.symbols_from, Programs.all_symbols, Programs.main_at, Programs.symbols_of, Codes.codes_from, Codes.IsCodeOf}
use Rattle.oat_symbols.specs.{Codes.CodesAreOfTheProgram, Codes.items_for, Codes.ProgramsAreBuilt}
use Rattle.oat_symbols.proofs.{Programs.programs_have_symbols, Programs.main_within, Programs.symbols_many, Places.first_code}

-- ---- codes

are_take : (t : SymbolTable) (k : ℕ) (es : List FunctionSymbol) (cs : List FunctionCode) → AreCodes t es cs → AreCodes t (take k es) (take k cs)
are_take t zero es cs are = tt
are_take t (suc k) [] [] are = tt
are_take t (suc k) [] (c ∷ cs) are = absurd are
are_take t (suc k) (e ∷ es) [] are = absurd are
are_take t (suc k) (e ∷ es) (c ∷ cs) are = (are.0, are_take t k es cs are.1)

are_drop : (t : SymbolTable) (k : ℕ) (es : List FunctionSymbol) (cs : List FunctionCode) → AreCodes t es cs → AreCodes t (drop k es) (drop k cs)
are_drop t zero es cs are = are
are_drop t (suc k) [] [] are = tt
are_drop t (suc k) [] (c ∷ cs) are = absurd are
are_drop t (suc k) (e ∷ es) [] are = absurd are
are_drop t (suc k) (e ∷ es) (c ∷ cs) are = are_drop t k es cs are.1

are_join : (t : SymbolTable) (es ds : List FunctionSymbol) (cs bs : List FunctionCode) → AreCodes t es cs → AreCodes t ds bs → AreCodes t (es ++ ds) (cs ++ bs)
are_join t [] ds [] bs one two = two
are_join t [] ds (c ∷ cs) bs one two = absurd one
are_join t (e ∷ es) ds [] bs one two = absurd one
are_join t (e ∷ es) ds (c ∷ cs) bs one two = (one.0, are_join t es ds cs bs one.1 two)

in_order : (t : SymbolTable) (program : Program) (code : ℕ → Func → FunctionCode) (f n : ℕ) (funcs : List Func) → ((k : ℕ) (func : Func) → slice_get funcs k ≡ Some func → IsCodeOf t func (code (f + k) func))
    → AreCodes t (symbols_from program f n funcs) (codes_from code f funcs)
in_order t program code f n [] each = tt
in_order t program code f n (g ∷ gs) each =
    let here : f + 0 ≡ f = omega arith in
    let own : IsCodeOf t g (code f g) = subst (λ (k : ℕ). IsCodeOf t g (code k g)) here (each 0 g refl) in
    let count = own.count in
    let named = map_length (λ (b : BlockIr). b.label) g.blocks in (
      record { prologue = own.prologue; blocks = own.blocks; count = omega arith },
      in_order t program code (f + 1) (n + length (block_names g)) gs (λ k func at.
          let next : f + suc k ≡ f + 1 + k = omega arith in
          subst (λ (j : ℕ). IsCodeOf t func (code j func)) next (each (suc k) func at)),
    )

pub codes_are_of_the_program : CodesAreOfTheProgram
codes_are_of_the_program program code each =
    let t = symbols_of program in
    let m = main_at program in
    let es = all_symbols program in
    let cs = codes_from code 0 program.funcs in
    let all = in_order t program code 0 (length program.funcs) program.funcs (λ k func at.
    let none : k ≡ 0 + k = omega arith in
    subst (λ (j : ℕ). IsCodeOf t func (code j func)) none (each k func at)) in
    are_join t (take 1 (drop m es)) (take m es ++ drop (m + 1) es) (take 1 (drop m cs)) (take m cs ++ drop (m + 1) cs)
    (are_take t 1 (drop m es) (drop m cs) (are_drop t m es cs all))
    (are_join t (take m es) (drop (m + 1) es) (take m cs) (drop (m + 1) cs) (are_take t m es cs all) (are_drop t (m + 1) es cs all))

-- ---- the image

-- the table's first function is main
first_label : (program : Program) → IsChecked program → (e : FunctionSymbol) × (rest : List FunctionSymbol) × ((symbols_of program).functions ≡ e ∷ rest) × (e.label ≡ main_at program)
first_label program ok =
    let m = main_at program in
    let es = all_symbols program in
    let many = symbols_many program 0 (length program.funcs) program.funcs in
    let main = main_within program ok in
    let r = at_number 0 (length program.funcs) program.funcs m main in
    (r.0, take m es ++ drop (m + 1) es, ap (λ (front : List FunctionSymbol). front ++ (take m es ++ drop (m + 1) es)) r.1, r.2 ∙ number m) where
      number : (n : ℕ) → 0 + n ≡ n
      number n = omega arith

      at_number : (f n : ℕ) (funcs : List Func) (k : ℕ) → k < length funcs → (e : FunctionSymbol) × (take 1 (drop k (symbols_from program f n funcs)) ≡ e ∷ []) × (e.label ≡ f + k)
      at_number f n [] k less = absurd (omega arith)
      at_number f n (g ∷ gs) zero less = (symbol_for program f n g, refl, omega arith)
      at_number f n (g ∷ gs) (suc k) less =
          let r = at_number (f + 1) (n + length (block_names g)) gs k (omega arith) in
          let e = r.2 in
          (r.0, r.1, omega arith)

starts : (i : Image) (at : ℕ → ℕ) (t : SymbolTable) (es rest : List FunctionSymbol) (e : FunctionSymbol) (codes : List FunctionCode) → es ≡ e ∷ rest → AreCodes t es codes → ItemsStand i at code_base (expansion (code_from es codes)) → at e.label ≡ code_base
starts i at t es rest e codes same are stands = begins codes (subst (λ (ds : List FunctionSymbol). AreCodes t ds codes) same are) (subst (λ (ds : List FunctionSymbol). ItemsStand i at code_base (expansion (code_from ds codes))) same stands) where
  begins : (cs : List FunctionCode) → AreCodes t (e ∷ rest) cs → ItemsStand i at code_base (expansion (code_from (e ∷ rest) cs)) → at e.label ≡ code_base
  begins [] made there = absurd made
  begins (c ∷ cs) made there = first_code i at code_base e rest c cs there

pub programs_are_built : FetchesByTheTable → ProgramsAreBuilt
programs_are_built fetches program codes ok named are =
    let t = symbols_of program in
    let items = items_for program codes in
    let table : IsSymbolTable t = programs_have_symbols program ok named in
    let made : AreInParts t items = in_parts t codes are in (
      expand t items table made,
      λ few.
          let stands = stand fetches t items table made few in
          let r = first_label program ok in
          record {
            well = shaped fetches t items table made few;
            stands = stands;
            low = λ l. let w = before_within item_words (expansion items) (position_or_len (is_label l) (expansion items)) in (omega arith, omega arith);
            main = sym (ap (built_address items) r.3) ∙ starts (built_image t items) (built_address items) t t.functions r.1 r.0 codes r.2 are stands;
          },
    )
