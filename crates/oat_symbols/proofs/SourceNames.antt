-- The places of a built image have the names that the program's source has.
use Rattle.std.proofs.Common.{◌≡◌, ℕ, zero, suc, ◌+◌, List, [], ◌∷◌, length, take, sym, ap, ◌∙◌, Some, None, arith, length-append}
use Rattle.std.specs.{Prelude.slice_get, List.flat_map, Option.option_map, Option.option_and_then}
use Rattle.oat_parts.specs.{place_name, Symbols.IsSymbolTable, Parts.AreInParts, Built.built_address, Built.built_map}
use Rattle.oat_parts.proofs.{Lists.get_in, Lists.in_get, Lists.map_get, Making.codes_are_in_parts}
use Rattle.oat_check.specs.{Program, Func, BlockIr, Rules.IsChecked}
use Rattle.oat_symbols.specs.{Programs.block_names, Programs.symbol_for, Programs.symbols_from, Programs.all_symbols, Programs.label_of_block, Programs.with_first, Programs.main_at}
use Rattle.oat_symbols.specs.{Programs.symbols_of, Codes.items_for, Names.HasItsNames, Names.PlacesAreNamedBySource}
use Rattle.oat_symbols.proofs.{Programs.programs_have_symbols, Programs.main_within, Programs.symbols_many, Programs.first_has, Names.built_maps_have_names}

-- the symbol of a function stands at its number
symbol_at : (program : Program) (f n : ℕ) (funcs : List Func) (k : ℕ) (func : Func) → slice_get funcs k ≡ Some func
    → slice_get (symbols_from program f n funcs) k ≡ Some (symbol_for program (f + k) (n + length (flat_map block_names (take k funcs))) func)
symbol_at program f n [] k func at = absurd cc
symbol_at program f n (g ∷ gs) zero func at =
    let same : g ≡ func = cc in
    let one : f ≡ f + 0 = omega arith in
    let two : n ≡ n + 0 = omega arith in
    ap (λ (h : Func). Some (symbol_for program f n h)) same ∙ ap (λ (m : ℕ). Some (symbol_for program m n func)) one ∙ ap (λ (m : ℕ). Some (symbol_for program (f + 0) m func)) two
symbol_at program f n (g ∷ gs) (suc k) func at =
    let rest = flat_map block_names (take k gs) in
    let more = length-append (block_names g) rest in
    let one : f + 1 + k ≡ f + suc k = omega arith in
    let two : n + length (block_names g) + length rest ≡ n + length (flat_map block_names (take (suc k) (g ∷ gs))) = omega arith in
    symbol_at program (f + 1) (n + length (block_names g)) gs k func at
    ∙ ap (λ (m : ℕ). Some (symbol_for program m (n + length (block_names g) + length rest) func)) one
    ∙ ap (λ (m : ℕ). Some (symbol_for program (f + suc k) m func)) two

pub own_symbol : (program : Program) (f : ℕ) (func : Func) → slice_get program.funcs f ≡ Some func → slice_get (all_symbols program) f ≡ Some (symbol_for program f (label_of_block program f 0) func)
own_symbol program f func at =
    let n = length program.funcs in
    let one : 0 + f ≡ f = omega arith in
    let two : n + length (flat_map block_names (take f program.funcs)) ≡ label_of_block program f 0 = omega arith in
    symbol_at program 0 n program.funcs f func at
    ∙ ap (λ (m : ℕ). Some (symbol_for program m (n + length (flat_map block_names (take f program.funcs))) func)) one
    ∙ ap (λ (m : ℕ). Some (symbol_for program f m func)) two

-- and in the table, with main first
symbol_in : (program : Program) → IsChecked program → (f : ℕ) (func : Func) → slice_get program.funcs f ≡ Some func
    → (k : ℕ) × (slice_get (symbols_of program).functions k ≡ Some (symbol_for program f (label_of_block program f 0) func))
symbol_in program ok f func at =
    let many = symbols_many program 0 (length program.funcs) program.funcs in
    let main = main_within program ok in
    let e = symbol_for program f (label_of_block program f 0) func in
    in_get (with_first (main_at program) (all_symbols program)) e (first_has (main_at program) (all_symbols program) e (omega arith) (get_in (all_symbols program) f e (own_symbol program f func at)))

pub places_are_named : PlacesAreNamedBySource
places_are_named program codes ok named are =
    let t = symbols_of program in
    let items = items_for program codes in
    let table : IsSymbolTable t = programs_have_symbols program ok named in
    let made : AreInParts t items = codes_are_in_parts t codes are in
    let names : HasItsNames t (built_map t items) (built_address items) = built_maps_have_names t items table made in
    record {
      functions = λ at func is.
          let e = symbol_in program ok at.func func is in
          names.functions e.0 (symbol_for program at.func (label_of_block program at.func 0) func) e.1
          ∙ sym (ap (option_map (λ (g : Func). record { function = g.name; block = None })) is);
      blocks = λ at func block is has.
          let e = symbol_in program ok at.func func is in
          let label : label_of_block program at.func 0 + at.block ≡ label_of_block program at.func at.block = omega arith in
          ap (λ (l : ℕ). place_name (built_map t items) (built_address items l)) (sym label)
          ∙ names.blocks e.0 at.block (symbol_for program at.func (label_of_block program at.func 0) func) block.label e.1 (map_get (λ (b : BlockIr). b.label) func.blocks at.block block has)
          ∙ sym (ap (option_and_then (λ (g : Func). option_map (λ (b : BlockIr). record { function = g.name; block = Some b.label }) (slice_get g.blocks at.block))) is
          ∙ ap (option_map (λ (b : BlockIr). record { function = func.name; block = Some b.label })) has);
    }
