-- Whole runs: what each step keeps is kept by all.
use Rattle.std.proofs.Common.{◌≡◌, ◌+◌, ℕ, suc, Bool, true, false, cond, ltb, ◌-◌, ◌||◌, List, [], ◌∷◌, map, Option, Some, ℤ, refl, sym, ap, ◌∙◌, arith}
use Rattle.std.specs.Prelude.{slice_get, is_some}
use Rattle.std.specs.List.{list_any}
use Rattle.std.proofs.lemmas.List.Elements.{filter_map-append}
use Rattle.std.proofs.lemmas.Bool.{ltb-true, ltb-false}
use Rattle.oat_events.specs.Source.{Finish, SourceKeeps, SourceMachine, shown_from, state_after, outputs_of, output_in}
use Rattle.oat_events.proofs.SourceLaws as source
use Rattle.oat_check.specs.Rules.{is_main_role}
use Rattle.oat_check.specs.RunLaws.{ElementsAreNumbered}
use Rattle.oat_tree.specs.Rules.{IsLang}
use Rattle.oat_tree.specs.Scopes.{functions_of}
use Rattle.oat_tree.specs.Syntax.{Function, Tree}
use Rattle.oat_langrun.specs.Keeping.{IsGood, operation_active, cells_at, first_cells}
use Rattle.oat_langrun.specs.Laws.{LongerRunsGoOn, EndedRunsStay, EndsAreOne, RunsAreGood, RunsPass}
use Rattle.oat_langrun.specs.Meaning.{LangState, Shown, quietly, acts_at, step_at, lang_step, lang_start, lang_run, lang_events, machine_of, main_at}
use Rattle.oat_langrun.specs.Steps.{Routines, routines_of, routine_of}
use Rattle.oat_langrun.proofs.Stepping.{step_lawful}

-- ---- ended runs

ended_step : (c : Routines) (s : LangState) (why : Finish) → s.end ≡ Some why → lang_step c s ≡ quietly s
ended_step c s why is = ap (λ (e : Option Finish). cond (is_some e) (quietly s) (acts_at c s (step_at c s.run))) is

pub ended_runs_stay : EndedRunsStay
ended_runs_stay tree inputs n k why is =
    let c = routines_of tree in
    source.ended_runs_stay (machine_of c inputs) (λ s why is. ap (λ (next : Shown). next.state) (ended_step c s why is)) (λ s why is. ap (λ (next : Shown). next.shown) (ended_step c s why is))
    n k (lang_start c inputs) why is

-- ---- longer bounds

pub longer_runs_go_on : LongerRunsGoOn
longer_runs_go_on tree inputs n k =
    let S : SourceMachine = machine_of (routines_of tree) inputs in
    let s = lang_start (routines_of tree) inputs in
    let more = shown_from S k (state_after S n s) in
    let same = source.shown_from_more S n k s in
    ((more, same), (outputs_of more, ap outputs_of same ∙ filter_map-append output_in (lang_events tree inputs n) more))

-- the later of two ends is the first one
later_end : (tree : Tree) (inputs : List ℤ) (n k : ℕ) (why other : Finish) → (lang_run tree inputs n).end ≡ Some why → (lang_run tree inputs (n + k)).end ≡ Some other
    → (why ≡ other) × (lang_events tree inputs n ≡ lang_events tree inputs (n + k))
later_end tree inputs n k why other one two =
    let stays = ended_runs_stay tree inputs n k why one in
    let e : Some why ≡ Some other = sym one ∙ ap (λ (s : LangState). s.end) (sym stays.0) ∙ two in
    (cc, sym stays.1)

pub ends_are_one : EndsAreOne
ends_are_one tree inputs n m why other one two = by (ltb n m) refl where
  by : (t : Bool) → ltb n m ≡ t → (why ≡ other) × (lang_events tree inputs n ≡ lang_events tree inputs m)
  by true low =
      let more : m ≡ n + (m - n) = omega (arith, ltb-true n m low) in
      let both = later_end tree inputs n (m - n) why other one (ap (λ (k : ℕ). (lang_run tree inputs k).end) (sym more) ∙ two) in
      (both.0, both.1 ∙ ap (lang_events tree inputs) (sym more))
  by false high =
      let more : n ≡ m + (n - m) = omega (arith, ltb-false n m high) in
      let both = later_end tree inputs m (n - m) other why two (ap (λ (k : ℕ). (lang_run tree inputs k).end) (sym more) ∙ one) in
      (sym both.0, sym (both.1 ∙ ap (lang_events tree inputs) (sym more)))

-- ---- good states

finds_main : (tree : Tree) (fs : List Function) → list_any (λ f. is_main_role f.role) fs ≡ true → (f : Function) × (slice_get fs (main_at (map (routine_of tree) fs)) ≡ Some f) × (is_main_role f.role ≡ true)
finds_main tree [] h = absurd (cc)
finds_main tree (f ∷ fs) h = by (is_main_role f.role) refl h (finds_main tree fs) where
  by : (t : Bool) → is_main_role f.role ≡ t → (t || list_any (λ (g : Function). is_main_role g.role) fs) ≡ true
      → (list_any (λ (g : Function). is_main_role g.role) fs ≡ true → (g : Function) × (slice_get fs (main_at (map (routine_of tree) fs)) ≡ Some g) × (is_main_role g.role ≡ true))
      → (g : Function) × (slice_get (f ∷ fs) (cond t 0 (suc (main_at (map (routine_of tree) fs)))) ≡ Some g) × (is_main_role g.role ≡ true)
  by true e k rest = (f, refl, e)
  by false e k rest = rest k

pub starts_good : (tree : Tree) → IsLang tree → (inputs : List ℤ) → IsGood tree (lang_start (routines_of tree) inputs)
starts_good tree ok inputs =
    let m = finds_main tree (functions_of tree) ok.main in
    record {
      stands = record { its = m.0; is = m.1; within = omega arith };
      callers = record { its = m.0; is = m.1; main = m.2 };
      few = omega arith;
    }

abbrev keeps : ElementsAreNumbered → (tree : Tree) → IsLang tree → (inputs : List ℤ) → SourceKeeps (machine_of (routines_of tree) inputs) (first_cells (routines_of tree))
keeps numbered tree ok inputs = record {
  Good = IsGood tree;
  good = starts_good tree ok inputs;
  goes = λ s g. (step_lawful tree ok s g).good;
  stays = λ s why is. ap (λ (next : Shown). next.state) (ended_step (routines_of tree) s why is);
  quiet = λ s why is. ap (λ (next : Shown). next.shown) (ended_step (routines_of tree) s why is);
  active = operation_active (routines_of tree);
  cells = cells_at (routines_of tree);
  first_active = refl;
  first_cells = refl;
  passes = λ s g. (step_lawful tree ok s g).passes numbered;
}

pub runs_are_good : ElementsAreNumbered → RunsAreGood
runs_are_good numbered tree ok inputs n =
    source.good_after (machine_of (routines_of tree) inputs) (first_cells (routines_of tree)) (keeps numbered tree ok inputs) n (lang_start (routines_of tree) inputs) (starts_good tree ok inputs)

pub runs_pass : ElementsAreNumbered → RunsPass
runs_pass numbered tree ok inputs n =
    source.passes_after (machine_of (routines_of tree) inputs) (first_cells (routines_of tree)) (keeps numbered tree ok inputs) n (lang_start (routines_of tree) inputs) (starts_good tree ok inputs)
