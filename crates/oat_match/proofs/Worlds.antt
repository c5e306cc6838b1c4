-- A checked program has its world.
use Rattle.std.proofs.Common.{◌≡◌, ◌+◌, ◌*◌, ◌≤◌, ℕ, false, List, [], Option, Some, None, refl, ap, ◌∙◌, arith}
use Rattle.std.specs.{Prelude.slice_get, Prelude.unwrap_or, Option.option_map, Option.option_and_then}
use Rattle.oat_check.proofs.Checking.{each_at, keeps_rules}
use Rattle.oat_globals.specs.{Item, Program, Func, BlockIr, Ty, I64, FuncKeepsRules, IsChecked, local_ty, is_leaf, words_before_line}
use Rattle.oat_symbols.specs.Programs.{label_of_block}
use Rattle.oat_match.specs.{Code.block_items, Compiled.ProgramsHaveWorlds, Compiled.codes_in, Compiled.count_of_locals}

few_locals : (p : Program) → IsChecked p → (f : ℕ) (o : Option Func) → slice_get p.funcs f ≡ o → count_of_locals o ≤ 255
few_locals p ok f None is = omega arith
few_locals p ok f (Some func) is = (each_at (FuncKeepsRules p) p.funcs f func (keeps_rules p ok.accepted).funcs is).locals

codes_are : (p : Program) (f b : ℕ) (func : Func) (block : BlockIr) → slice_get p.funcs f ≡ Some func → slice_get func.blocks b ≡ Some block
    → codes_in p f b ≡ block_items p f func block
codes_are p f b func block is there =
    ap (λ (o : Option Func). unwrap_or (option_and_then (λ g. option_map (block_items p f g) (slice_get g.blocks b)) o) []) is
    ∙ ap (λ (o : Option BlockIr). unwrap_or (option_map (block_items p f func) o) []) there

pub programs_have_worlds : ProgramsHaveWorlds
programs_have_worlds p ok image label low labels = record {
  world = record { low = low; labels = labels; few = λ f. few_locals p ok f (slice_get p.funcs f) refl; globals = (keeps_rules p ok.accepted).words };
  data_of = record {
    locals = λ f func is. ap count_of_locals is;
    leaves = λ f func is. ap (λ (o : Option Func). unwrap_or (option_map is_leaf o) false) is;
    types = λ f func is x ty h. ap (λ (o : Option Func). unwrap_or (option_and_then (λ g. local_ty g x) o) I64) is ∙ ap (λ (o : Option Ty). unwrap_or o I64) h;
    globals = refl;
    global_types = λ n ty h. ap (λ (o : Option Ty). unwrap_or o I64) h;
    references = λ g k. refl;
    results = λ f. refl;
  };
  places = λ f b l func block is there.
      ap (λ (codes : List (List Item)). label (label_of_block p f b) + 4 * words_before_line codes l) (codes_are p f b func block is there);
}
