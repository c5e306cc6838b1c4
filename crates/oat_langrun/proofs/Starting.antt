-- A run that has made no step.
use Rattle.std.proofs.Common.{◌≡◌, ◌≤◌, ◌<◌, ◌^◌, ℕ, List, [], ◌∷◌, length, get_or, map, replicate, ℤ, sym, ap, subst, ◌∙◌, arith}
use Rattle.std.proofs.Math.Path.{fun_ext}
use Rattle.std.proofs.lemmas.List.{length-map}
use Rattle.oat_check.specs.Globals.{size_in_words}
use Rattle.oat_ir.specs.declared.source.SourceEnd.TheVariants.{OutOfSteps}
use Rattle.oat_meaning.specs.Standing.{finish_of}
use Rattle.oat_tree.specs.declared.item.Item.{Item}
use Rattle.oat_tree.specs.Rules.{IsLang}
use Rattle.oat_tree.specs.Scopes.{functions_of, globals_of}
use Rattle.oat_tree.specs.Seen.{seen_tree}
use Rattle.oat_tree.specs.Syntax as tree
use Rattle.oat_tree.specs.Syntax.{Function, Tree}
use Rattle.oat_langrun.specs.declared.interpreter.Interpreter.{Interpreter}
use Rattle.oat_langrun.specs.Keeping.{IsGood}
use Rattle.oat_langrun.specs.LangRuns.{first_run}
use Rattle.oat_langrun.specs.Made.{HasReached}
use Rattle.oat_langrun.specs.Meaning.{first_of, lang_start, main_at}
use Rattle.oat_langrun.specs.Memories.{first_words, values_of}
use Rattle.oat_langrun.specs.Recording.{RoomyRecord, nothing_recorded}
use Rattle.oat_langrun.specs.Running.{code_of, state_of}
use Rattle.oat_langrun.specs.Standing.{run_of}
use Rattle.oat_langrun.specs.Steps.{routine_of, routines_of}
use Rattle.oat_langrun.proofs.Passing.{all_alike}
use Rattle.oat_langrun.proofs.Runs.{starts_good}
use Rattle.oat_langrun.proofs.Words.{values_start, words_start}

functions_few : (t : Tree) → length (functions_of t) ≤ length t
functions_few [] = omega arith
functions_few (tree.global g ∷ is) = omega (arith, functions_few is)
functions_few (tree.function f ∷ is) = omega (arith, functions_few is)

pub routines_few : (t : Tree) → IsLang t → length (routines_of t).routines < 2 ^ 32
routines_few t ok = omega (arith, functions_few t, length-map (functions_of t) (routine_of t), ok.size)

-- nothing was made yet
pub record Begins (m : Interpreter) (items : List Item) (inputs : List ℤ) (op steps : ℕ) : Type 0 where
  pub items_are : m.items.now ≡ items
  pub routines : m.routines ≡ (routines_of (seen_tree items)).routines
  pub func : m.running.func ≡ main_at m.routines
  pub place : m.running.place ≡ 0
  pub locals : m.running.locals ≡ replicate 256 0
  pub operands : m.running.operands ≡ replicate 256 0
  pub callers : m.callers ≡ []
  pub memory : m.memory ≡ map first_words (globals_of (seen_tree items))
  pub given : m.inputs.now ≡ inputs
  pub end : m.end ≡ OutOfSteps
  pub kept : m.kept ≡ record { recorded = nothing_recorded op; left = steps }

abbrev held : List ℕ → (ℕ → ℕ)
held xs = λ x. get_or xs x 0

abbrev none_held : ℕ → ℕ
none_held = λ x. 0

zeros : (xs : List ℕ) → xs ≡ replicate 256 0 → held xs ≡ none_held
zeros xs is = ap held is ∙ fun_ext (all_alike 256 0)

pub first_stands : (m : Interpreter) (items : List Item) (inputs : List ℤ) (op steps : ℕ) → IsLang (seen_tree items) → Begins m items inputs op steps → HasReached m (first_run items inputs op steps)
first_stands m items inputs op steps ok b = record {
  ready = record {
    lang = subst (λ (is : List Item). IsLang (seen_tree is)) (sym b.items_are) ok;
    routines = b.routines ∙ ap (λ (is : List Item). (routines_of (seen_tree is)).routines) (sym b.items_are);
    words = ap (map length) b.memory ∙ words_start (globals_of (seen_tree items)) ∙ ap (λ (is : List Item). map size_in_words (globals_of (seen_tree is))) (sym b.items_are);
    good = subst (λ (is : List Item). IsGood (seen_tree is) (state_of m)) (sym b.items_are) (subst (IsGood (seen_tree items)) (sym state) (starts_good (seen_tree items) ok inputs));
  };
  items = b.items_are;
  state = state;
  recorded = ap (λ (r : RoomyRecord). r.recorded) b.kept;
  within = omega arith;
  left = let left = ap (λ (r : RoomyRecord). r.left) b.kept in omega (arith, left);
} where
  globals : values_of (first_of (code_of m)) m.memory ≡ first_of (routines_of (seen_tree items))
  globals =
      (λ i. values_of (first_of (record { globals = globals_of (seen_tree (b.items_are i)); routines = m.routines })) (b.memory i))
      ∙ values_start (globals_of (seen_tree items))

  run : run_of m.running ≡ record { func = main_at (routines_of (seen_tree items)).routines; place = 0; locals = λ i. 0; operands = λ i. 0 }
  run = λ i. record { func = (b.func ∙ ap main_at b.routines) i; place = b.place i; locals = zeros m.running.locals b.locals i; operands = zeros m.running.operands b.operands i }

  state : state_of m ≡ lang_start (routines_of (seen_tree items)) inputs
  state = λ i. record { run = run i; callers = map run_of (b.callers i); globals = globals i; inputs = b.given i; end = finish_of (b.end i) }
