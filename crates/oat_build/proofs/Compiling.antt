-- The image that is built of a checked program has all that a compiled program's image has to have.
use Rattle.std.proofs.Common.{◌≡◌, ◌+◌, ◌*◌, ◌^◌, ◌<◌, ◌≤◌, ◌&&◌, ◌||◌, ℕ, zero, suc, Bool, true, false, cond, List, [], ◌∷◌, ◌++◌, length, map, take, Option, Some, None, refl, sym, ap, subst, ◌∙◌}
use Rattle.std.proofs.Common.{arith, eqb}
use Rattle.std.specs.{Prelude.slice_get, Prelude.Contains, List.flat_map, List.list_any}
use Rattle.std.proofs.lemmas.Bool.{and_from, eq-eqb}
use Rattle.oat_parts.proofs.Lists.{map_get, map_length}
use Rattle.oat_check.proofs.Checking.{each_at}
use Rattle.oat_frames.proofs.FrameLaws.{low-code}
use Rattle.oat_globals.proofs.GlobalLaws.{words_of_global_lines}
use Rattle.oat_match.specs.{code_base, Function, is_called_at, Image, Item, code_limit, words_needed, expansion, ItemsStand, Program, Func, BlockIr, IsInstr, IsBlockIr, IsFunc, is_referenced}
use Rattle.oat_match.specs.{IsChecked, main_number, operation_number, FunctionSymbol, function_at, functions_of, words_become, built_address, built_image, block_names, label_of_block, main_at}
use Rattle.oat_match.specs.{symbols_of, HasValidNames, CodesStand, FunctionStands, IsBuiltWhole, codes_of, World, IsLow, IsBlockAt, lines_code, prologue_end, is_leaf, start_code, role_words}
use Rattle.oat_match.specs.{Code.block_items, Compiled.FunctionBegins, Compiled.IsCompiled, Compiled.ProgramsHaveWorlds, Compiled.WorldIsOf, Compiled.world_of}
use Rattle.oat_gen.specs.{Code.block_code, Code.expanded_lines, Code.function_code, Code.program_items, GlobalPlaces.global_places, GlobalPlaces.GlobalsHaveTheirPlaces, Laws.BlocksExpandByLine}
use Rattle.oat_gen.specs.{Laws.FittingProgramsAreBuilt, Laws.MarkedCodeExpands, Laws.OtherCodeStays}
use Rattle.oat_build.specs.Built.{program_image, program_label, program_world, BuiltProgramsAreCompiled}
use Rattle.oat_build.proofs.{LineCode.block_same, MainFirst.function_stands_at, MainFirst.own_symbol, MainFirst.StandAlike, Mains.main_is, Mains.main_within, StartWords.start_words}

-- ---- an indirect call finds its function

any_at : {X : Type 0} (test : X → Bool) (xs : List X) (k : ℕ) (x : X) → slice_get xs k ≡ Some x → test x ≡ true → list_any test xs ≡ true
any_at test [] k x is passed = absurd (cc)
any_at test (y ∷ ys) zero x is passed = let same : y ≡ x = cc in ap (λ (b : Bool). b || list_any test ys) (ap test same ∙ passed)
any_at test (y ∷ ys) (suc k) x is passed = ap (λ (b : Bool). test y || b) (any_at test ys k x is passed) ∙ always (test y) where
  always : (b : Bool) → (b || true) ≡ true
  always true = refl
  always false = refl

called : (label : ℕ → ℕ) (es : List FunctionSymbol) (k : ℕ) (e : FunctionSymbol) → slice_get es k ≡ Some e → e.referenced ≡ true → list_any (is_called_at e.params (label e.label)) (functions_of label es) ≡ true
called label es k e is named =
    any_at (is_called_at e.params (label e.label)) (functions_of label es) k (function_at label e) (map_get (function_at label) es k e is)
    (and_from _ _ (and_from _ _ (eq-eqb (label e.label) (label e.label) refl) (eq-eqb e.params e.params refl)) named)

-- ---- each function

module _ (stand : CodesStand) (expands : MarkedCodeExpands) (stays : OtherCodeStays) (by_line : BlocksExpandByLine) (placing : GlobalsHaveTheirPlaces) (p : Program) (ok : IsChecked p) (built : IsBuiltWhole p (program_items p)) where
  function_stands : (f : ℕ) (func : Func) → slice_get p.funcs f ≡ Some func → FunctionStands (program_image p) (program_label p) (own_symbol p f func) (function_code p f func)
  function_stands f func is =
      let s = function_stands_at p (function_code p) (main_within p ok) f func is in
      stand (program_image p) (program_label p) code_base s.k (symbols_of p).functions (codes_of (function_code p) p) (own_symbol p f func) (function_code p f func) built.stands s.first s.second

  formed : (f : ℕ) (func : Func) → slice_get p.funcs f ≡ Some func → IsFunc p func
  formed f func is = each_at (IsFunc p) p.funcs f func ok.well_formed.funcs is

  block_at : WorldIsOf p (program_image p) (program_label p) → (f b : ℕ) (func : Func) (block : BlockIr) → slice_get p.funcs f ≡ Some func → slice_get func.blocks b ≡ Some block
      → IsBlockAt (program_world p) f b (label_of_block p f b) (block_items p f func block)
  block_at world f b func block is has =
      let s = function_stands f func is in
      let body = block_code (global_places p) (label_of_block p f 0) func block in
      let coded = map_get (block_code (global_places p) (label_of_block p f 0) func) func.blocks b block has in
      let each = (each_at (IsBlockIr p func) func.blocks b block (formed f func is).blocks has).0 in
      record {
        stands = subst (λ (items : List Item). ItemsStand (program_image p) (program_label p) (program_label p (label_of_block p f b)) items)
            (by_line (global_places p) (label_of_block p f 0) func block ∙ ap lines_code (block_same expands stays p ok.well_formed placing f func block each))
            (s.blocks_stand b body coded);
        places = λ l less. world.places f b l func block is has;
      }

  begins : WorldIsOf p (program_image p) (program_label p) → (f : ℕ) (func : Func) → slice_get p.funcs f ≡ Some func → FunctionBegins p (program_world p) f func
  begins world f func is =
      let label = program_label p in
      let s = function_stands f func is in
      let op = operation_number func.role in
      let code = start_code (is_leaf func) func.params (length func.locals) op in
      let start = expands.start (is_leaf func) func.params (length func.locals) op in
      let fine = formed f func is in
      let some : 1 ≤ length (map (block_code (global_places p) (label_of_block p f 0) func) func.blocks) = subst (λ (n : ℕ). 1 ≤ n) (sym (map_length (block_code (global_places p) (label_of_block p f 0) func) func.blocks)) fine.begun in
      let words : words_become (function_code p f func).prologue ≡ 2 + length func.locals + role_words op = ap words_needed start ∙ words_of_global_lines.start (is_leaf func) func.params (length func.locals) op in
      let first = s.first some in
      let zero_block : label_of_block p f 0 ≡ (own_symbol p f func).first = omega arith in
      let here : label (label_of_block p f 0) ≡ label (own_symbol p f func).first = ap label zero_block in
      let count = world.data_of.locals f func is in
      let alike = function_stands_at p (function_code p) (main_within p ok) f func is in
      record {
        code = subst (λ (items : List Item). ItemsStand (program_image p) label (label f) items) start s.prologue_stands;
        first = omega arith;
        entry = (built.low f).0;
        target = λ named. called label (symbols_of p).functions alike.k (own_symbol p f func) alike.first named;
      }

  compiled : ProgramsHaveWorlds → IsCompiled p (program_world p)
  compiled worlds =
      let low : IsLow (program_image p) = low-code (program_image p) built.well.well_formed.code.limited in
      let world = worlds p ok (program_image p) (program_label p) low (λ l. (built.low l).1) in
      record {
        world = world.world;
        data_of = world.data_of;
        shaped = built.well.shaped;
        blocks = block_at world;
        functions = begins world;
        main = ap (program_label p) (main_is p.funcs) ∙ built.main;
        cells = refl;
        words = start_words p;
      }

pub built_programs_are_compiled : CodesStand → MarkedCodeExpands → OtherCodeStays → BlocksExpandByLine → GlobalsHaveTheirPlaces → FittingProgramsAreBuilt → ProgramsHaveWorlds → BuiltProgramsAreCompiled
built_programs_are_compiled stand expands stays by_line placing fitting worlds p ok named few = compiled stand expands stays by_line placing p ok (fitting p ok named few) worlds
