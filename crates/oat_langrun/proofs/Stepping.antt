-- Each step of a run leads to a good state, and what it shows keeps the rule of operations and cells.
use Rattle.std.proofs.Common.{◌≡◌, ◌+◌, ◌<◌, ◌≤◌, inl, inr, ℕ, suc, Bool, true, false, cond, List, [], ◌∷◌, length, get_or, Option, option_map, Some, None, ℤ, pos, refl, sym, ap, subst, ◌∙◌, arith, ltb, leb, length-append}
use Rattle.std.specs.Prelude.{slice_get, is_some, ◌⊎◌}
use Rattle.std.specs.Option.{option_and_then}
use Rattle.std.specs.List.{list_any}
use Rattle.std.proofs.lemmas.Option.{slice_get-map, slice_get-get_or}
use Rattle.std.proofs.lemmas.Bool.{leb-false}
use Rattle.oat_bits.specs.Words.{difference}
use Rattle.oat_map.specs.declared.trap.TrapKind.TheVariants.{DivZero, Index, Depth, InputEnd}
use Rattle.oat_ir.specs.declared.func.Role.{Role}
use Rattle.oat_ir.specs.declared.func.Role.TheVariants.{Plain, Operation, Main}
use Rattle.oat_ir.specs.declared.program.GlobalItem.{GlobalItem}
use Rattle.oat_events.specs.Cells.{Cells, defined}
use Rattle.oat_events.specs.Events as event
use Rattle.oat_events.specs.Events.{Passes, SourceEvent}
use Rattle.oat_events.specs.Source.{Finish, trapped, halted}
use Rattle.oat_events.proofs.EventLaws.{passes_joined}
use Rattle.oat_check.specs.Globals.{cell_values, put, size_in_cells}
use Rattle.oat_check.specs.Operators.{number}
use Rattle.oat_check.specs.Rules.{is_main_role, is_operation_role}
use Rattle.oat_check.specs.RunLaws.{ElementsAreNumbered, IsNumbered}
use Rattle.oat_check.specs.Steps.{operation_number}
use Rattle.oat_tree.specs.Rules.{IsLang}
use Rattle.oat_tree.specs.Scopes.{functions_of, scope_of}
use Rattle.oat_tree.specs.Sizes.{body_room}
use Rattle.oat_tree.specs.Syntax.{Function, Tree}
use Rattle.oat_langrun.specs.declared.step.Act.{Act}
use Rattle.oat_langrun.specs.declared.step.Act.TheVariants.{Begins, Decides, ReachesEnd, Literal, ReadsLocal, ReadsScalar, ReadsElement, Calls, TakesInput, Negates, Operates}
use Rattle.oat_langrun.specs.declared.step.Step.{Step}
use Rattle.oat_langrun.specs.declared.step.Use.{Use}
use Rattle.oat_langrun.specs.declared.step.Use.TheVariants.{Keeps, Drops, Assigns, StoresScalar, StoresElement, Puts, Chooses, Returns, Halts}
use Rattle.oat_langrun.specs.Fitting.{ActKeeps, UseKeeps, FunctionIs, GlobalIs}
use Rattle.oat_langrun.specs.Keeping.{Stands, Waits, AreCallers, IsGood, active_in, operation_active, cells_at}
use Rattle.oat_langrun.specs.Meaning.{Run, LangState, Shown, step_at, operation_at, quietly, ends_with, traps_with, shows_behind, if_any, length_of, cell_of, goes_on_at, takes_value, writes_global, uses, resumes, given_back, uses_here, gives, gives_if, reads_global, entered_with, arguments, enters, gives_input, operated, acts, acts_at, lang_step}
use Rattle.oat_langrun.specs.declared.routine.Routine.{Routine}
use Rattle.oat_langrun.specs.Steps.{step, Routines, routines_of, routine_of, function_steps, body_steps, body_size, end_use}
use Rattle.oat_langrun.proofs.Fitting.{KeepsAt, keeps_at, function_keeps}
use Rattle.oat_langrun.proofs.StepSizes.{body_length}

-- ---- roles

main_is_none : (role : Role) → is_main_role role ≡ true → operation_number role ≡ None
main_is_none Main h = refl
main_is_none Plain h = absurd (cc)
main_is_none (Operation op) h = absurd (cc)

plain_is_none : (role : Role) → is_operation_role role ≡ false → operation_number role ≡ None
plain_is_none Main h = refl
plain_is_none Plain h = refl
plain_is_none (Operation op) h = absurd (cc)

module _ (tree : Tree) (ok : IsLang tree) where
  abbrev c : Routines
  c = routines_of tree

  -- ---- steps of functions

  routine_there : (g : ℕ) (f : Function) → slice_get (functions_of tree) g ≡ Some f → slice_get c.routines g ≡ Some (routine_of tree f)
  routine_there g f is = slice_get-map (routine_of tree) (functions_of tree) g ∙ ap (option_map (routine_of tree)) is

  pub step_there : (r : Run) (f : Function) → slice_get (functions_of tree) r.func ≡ Some f → step_at c r ≡ slice_get (function_steps (scope_of tree f) f.role f.body) r.place
  step_there r f is = ap (option_and_then (λ (routine : Routine). slice_get routine.steps r.place)) (routine_there r.func f is)

  operation_there : (g : ℕ) (f : Function) → slice_get (functions_of tree) g ≡ Some f → operation_at c g ≡ operation_number f.role
  operation_there g f is = ap (option_and_then (λ (routine : Routine). operation_number routine.role)) (routine_there g f is)

  pub record HasStep (r : Run) : Type 0 where
    pub st : Step
    pub there : step_at c r ≡ Some st

  pub has_step : (r : Run) → Stands tree r → HasStep r
  has_step r h =
      let f = h.its in
      let sts = function_steps (scope_of tree f) f.role f.body in
      let b = body_steps f.body (scope_of tree f) 0 (body_size f.body) in
      let last = step ReachesEnd 0 (end_use f.role) in
      let low : r.place < length sts = omega (arith, h.within, body_length f.body (scope_of tree f) 0 (body_size f.body), length-append b (last ∷ [])) in
      record { st = get_or sts r.place last; there = step_there r f h.is ∙ slice_get-get_or sts r.place last low }

  pub kept : (r : Run) (f : Function) → slice_get (functions_of tree) r.func ≡ Some f → (st : Step) → step_at c r ≡ Some st
      → KeepsAt tree f (body_room f.body) (body_size f.body + 1) 0 (function_steps (scope_of tree f) f.role f.body) r.place st
  kept r f is st there =
      keeps_at tree f (body_room f.body) (body_size f.body + 1) 0 (function_steps (scope_of tree f) f.role f.body) r.place st
      (function_keeps tree f (ok.functions r.func f is).body) (sym (step_there r f is) ∙ there)

  -- ---- callers

  pub called : (r : Run) (func : ℕ) (w : Waits tree r func) → FunctionIs tree w.stands.its func w.count
  called r func w =
      let k = kept r w.stands.its w.stands.is w.st w.there in
      (subst (λ (a : Act). ActKeeps tree w.stands.its (body_room w.stands.its.body) w.st.open_below a) w.calling k.kept.act).2

  main_lowest : (func : ℕ) (r : Run) (rs : List Run) → AreCallers tree func (r ∷ rs) → (f : Function) → slice_get (functions_of tree) func ≡ Some f → is_main_role f.role ≡ true → ⊥
  main_lowest func r rs h f is main =
      let e = called r func h.0 in
      let one : e.callee ≡ f = (let two : Some e.callee ≡ Some f = sym e.is ∙ is in cc) in
      let three : is_main_role f.role ≡ false = ap (λ (g : Function). is_main_role g.role) (sym one) ∙ e.no_main in
      cc

  -- above a function that has a caller there is no operation
  not_operation : (func : ℕ) (r q : Run) (qs : List Run) → AreCallers tree func (r ∷ (q ∷ qs)) → operation_at c func ≡ None
  not_operation func r q qs h =
      let e = called r func h.0 in
      by e e.plain where
        by : (e : FunctionIs tree h.0.stands.its func h.0.count) → (is_operation_role e.callee.role ≡ false) ⊎ (is_main_role h.0.stands.its.role ≡ true) → operation_at c func ≡ None
        by e (inl plain) = operation_there func e.callee e.is ∙ plain_is_none e.callee.role plain
        by e (inr main) = absurd (main_lowest r.func q qs h.1 h.0.stands.its h.0.stands.is main)

  -- ---- what a step has to keep

  pub record IsLawful (before : Option ℕ) (cells : Cells) (next : Shown) : Type 0 where
    pub good : IsGood tree next.state
    pub passes : ElementsAreNumbered → Passes before cells next.shown (operation_active c next.state) (cells_at c next.state)

  abbrev Lawful : LangState → Shown → Type 0
  Lawful s next = IsLawful (operation_active c s) (cells_at c s) next

  behind : (before middle : Option ℕ) (cells : Cells) (shown : List (SourceEvent ℕ)) (next : Shown)
      → (ElementsAreNumbered → Passes before cells shown middle cells) → IsLawful middle cells next → IsLawful before cells (shows_behind shown next)
  behind before middle cells shown next one two = record {
    good = two.good;
    passes = λ n. passes_joined shown next.shown before middle (operation_active c next.state) cells cells (cells_at c next.state) (one n) (two.passes n);
  }

  ends_lawful : (s : LangState) (why : Finish) → IsGood tree s → Lawful s (ends_with s why)
  ends_lawful s why g = record { good = record { stands = g.stands; callers = g.callers; few = g.few }; passes = λ n. (refl, refl) }

  to_place : (s : LangState) (g : IsGood tree s) (to : ℕ) → to < body_size g.stands.its.body + 1 → IsGood tree (goes_on_at s to)
  to_place s g to low = record { stands = record { its = g.stands.its; is = g.stands.is; within = low }; callers = g.callers; few = g.few }

  goes_lawful : (s : LangState) (g : IsGood tree s) (to : ℕ) → to < body_size g.stands.its.body + 1 → Lawful s (quietly (goes_on_at s to))
  goes_lawful s g to low = record { good = to_place s g to low; passes = λ n. (refl, refl) }

  writes_lawful : (s : LangState) (g : IsGood tree s) (test : GlobalItem → Bool) (h i v to : ℕ) → GlobalIs tree test h → to < body_size g.stands.its.body + 1 → Lawful s (writes_global c s h i v to)
  writes_lawful s g test h i v to named low = record {
    good = record { stands = record { its = g.stands.its; is = g.stands.is; within = low }; callers = g.callers; few = g.few };
    passes = λ numbered. passing (cell_of c h i) (λ n at. (told numbered).stored n v at) (λ at. (told numbered).stays v at);
  } where
    told : ElementsAreNumbered → IsNumbered size_in_cells c.globals s.globals h i
    told numbered = numbered size_in_cells c.globals s.globals h i named.item named.is

    passing : (o : Option ℕ) → ((n : ℕ) → o ≡ Some n → defined (cells_at c s) n v ≡ cell_values c.globals (put s.globals h i v)) → (o ≡ None → cells_at c s ≡ cell_values c.globals (put s.globals h i v))
        → Passes (operation_active c s) (cells_at c s) (if_any o (λ cell. event.stores cell v)) (operation_active c s) (cell_values c.globals (put s.globals h i v))
    passing None there else_ = (refl, else_ refl)
    passing (Some n) there else_ = (refl, there n refl)

  uses_lawful : (s : LangState) (g : IsGood tree s) (u : Use) (v : ℕ) (back : Shown) → UseKeeps tree g.stands.its (body_size g.stands.its.body + 1) (0 + s.run.place) u
      → (is_main_role g.stands.its.role ≡ false → Lawful s back) → Lawful s (uses c s u v back)
  uses_lawful s g Keeps v back h k = goes_lawful s g (suc s.run.place) (omega (arith, h))
  uses_lawful s g (Drops to) v back h k = goes_lawful s g to h
  uses_lawful s g (Assigns x to) v back h k = goes_lawful s g to h.1
  uses_lawful s g (StoresScalar n to) v back h k = writes_lawful s g _ n 0 v to h.0 h.1
  uses_lawful s g (StoresElement n to) v back h k = by (ltb (s.run.operands 0) (length_of c n)) where
    by : (t : Bool) → Lawful s (cond t (writes_global c s n (s.run.operands 0) v to) (traps_with s Index))
    by true = writes_lawful s g _ n (s.run.operands 0) v to h.0 h.1
    by false = ends_lawful s (trapped Index) g
  uses_lawful s g (Puts to) v back h k = record { good = to_place s g to h; passes = λ n. (refl, refl) }
  uses_lawful s g (Chooses first second) v back h k = goes_lawful s g _ (by (Rattle.std.specs.Prelude.nat_eq v 0)) where
    by : (t : Bool) → cond t second first < body_size g.stands.its.body + 1
    by true = h.1
    by false = h.0
  uses_lawful s g Returns v back h k = k h
  uses_lawful s g Halts v back h k = ends_lawful s halted g

  -- ---- returns

  leaves_passes : (func : ℕ) (r : Run) (rs : List Run) (cells : Cells) → AreCallers tree func (r ∷ rs)
      → Passes (active_in c func (r ∷ rs)) cells (if_any (operation_at c func) event.leaves) (active_in c r.func rs) cells
  leaves_passes func r [] cells h = by (operation_at c func) where
    by : (o : Option ℕ) → Passes o cells (if_any o event.leaves) None cells
    by None = (refl, refl)
    by (Some op) = (refl, (refl, refl))
  leaves_passes func r (q ∷ qs) cells h =
      subst (λ (o : Option ℕ). Passes (active_in c r.func (q ∷ qs)) cells (if_any o event.leaves) (active_in c r.func (q ∷ qs)) cells) (sym (not_operation func r q qs h)) (refl, refl)

  resumed : (s : LangState) (v func : ℕ) (r : Run) (rs : List Run) (h : AreCallers tree func (r ∷ rs)) → length (r ∷ rs) ≤ 256
      → (is_main_role h.0.stands.its.role ≡ false → IsLawful (active_in c r.func rs) (cells_at c s) (given_back c s r.func v rs))
      → IsLawful (active_in c func (r ∷ rs)) (cells_at c s) (given_back c s func v (r ∷ rs))
  resumed s v func r rs h few k =
      let w = h.0 in
      let st = w.st in
      let after : LangState = record s { run = takes_value st.use_of st.open_below r v; callers = rs } in
      let good : IsGood tree after = record { stands = record { its = w.stands.its; is = w.stands.is; within = w.stands.within }; callers = h.1; few = omega (arith, few) } in
      let used : Lawful after (uses c after st.use_of v (given_back c s r.func v rs)) =
      uses_lawful after good st.use_of v (given_back c s r.func v rs) (kept r w.stands.its w.stands.is st w.there).kept.use_of k in
      behind _ _ _ (if_any (operation_at c func) event.leaves) _ (λ n. leaves_passes func r rs (cells_at c s) h)
      (subst (λ (o : Option Step). IsLawful (active_in c r.func rs) (cells_at c s) (resumes c s r rs o v (given_back c s r.func v rs))) (sym w.there) used)

  back_lawful : (s : LangState) (v func : ℕ) (r : Run) (rs : List Run) → AreCallers tree func (r ∷ rs) → length (r ∷ rs) ≤ 256
      → IsLawful (active_in c func (r ∷ rs)) (cells_at c s) (given_back c s func v (r ∷ rs))
  back_lawful s v func r [] h few = resumed s v func r [] h few (λ not_main. absurd (let m = h.1 in let e : h.0.stands.its ≡ m.its = (let two : Some h.0.stands.its ≡ Some m.its = sym h.0.stands.is ∙ m.is in cc) in let t : is_main_role m.its.role ≡ false = ap (λ (f : Function). is_main_role f.role) (sym e) ∙ not_main in let n = m.main in cc))
  back_lawful s v func r (q ∷ qs) h few = resumed s v func r (q ∷ qs) h few (λ not_main. back_lawful s v r.func q qs h.1 (omega (arith, few)))

  returns_lawful : (s : LangState) (g : IsGood tree s) (v : ℕ) → Lawful s (given_back c s s.run.func v s.callers)
  returns_lawful s g v = by s.callers refl where
    by : (rs : List Run) → s.callers ≡ rs → Lawful s (given_back c s s.run.func v s.callers)
    by [] e = subst (λ (rs : List Run). Lawful s (given_back c s s.run.func v rs)) (sym e) (record { good = g; passes = λ n. (refl, refl) })
    by (r ∷ rs) e =
        let callers : AreCallers tree s.run.func (r ∷ rs) = subst (AreCallers tree s.run.func) e g.callers in
        let few : length (r ∷ rs) ≤ 256 = subst (λ (l : List Run). length l ≤ 256) e g.few in
        subst (λ (l : List Run). IsLawful (active_in c s.run.func l) (cells_at c s) (given_back c s s.run.func v l)) (sym e) (back_lawful s v s.run.func r rs callers few)

  -- ---- a step

  module _ (s : LangState) (g : IsGood tree s) (st : Step) (there : step_at c s.run ≡ Some st) where
    abbrev its : Function
    its = g.stands.its

    keeps_here : UseKeeps tree its (body_size its.body + 1) (0 + s.run.place) st.use_of
    keeps_here = (kept s.run its g.stands.is st there).kept.use_of

    act_here : ActKeeps tree its (body_room its.body) st.open_below st.act
    act_here = (kept s.run its g.stands.is st there).kept.act

    here_lawful : (v : ℕ) → Lawful s (uses_here c s st v)
    here_lawful v = uses_lawful s g st.use_of v _ keeps_here (λ not_main. returns_lawful s g v)

    -- with the value held
    gives_lawful : (inputs : List ℤ) (v : ℕ) → Lawful s (gives c (record s { inputs = inputs }) st v)
    gives_lawful inputs v =
        let after : LangState = record s { run = takes_value st.use_of st.open_below s.run v; inputs = inputs } in
        let good : IsGood tree after = record { stands = record { its = its; is = g.stands.is; within = g.stands.within }; callers = g.callers; few = g.few } in
        let used : Lawful after (uses c after st.use_of v (given_back c after s.run.func v s.callers)) =
        uses_lawful after good st.use_of v _ keeps_here (λ not_main. returns_lawful after good v) in
        record { good = used.good; passes = used.passes }

    gives_if_lawful : (o : Option ℕ) → Lawful s (gives_if c s st o)
    gives_if_lawful (Some v) = gives_lawful s.inputs v
    gives_if_lawful None = ends_lawful s (trapped DivZero) g

    reads_lawful : (test : GlobalItem → Bool) (h i : ℕ) → GlobalIs tree test h → Lawful s (reads_global c s st h i)
    reads_lawful test h i named =
        behind (operation_active c s) (operation_active c s) (cells_at c s) (if_any (cell_of c h i) (λ cell. event.loads cell (s.globals h i))) (gives c s st (s.globals h i))
        (λ numbered. passing (cell_of c h i) (λ n at. (told numbered).told n at)) (gives_lawful s.inputs (s.globals h i)) where
          told : ElementsAreNumbered → IsNumbered size_in_cells c.globals s.globals h i
          told numbered = numbered size_in_cells c.globals s.globals h i named.item named.is

          passing : (o : Option ℕ) → ((n : ℕ) → o ≡ Some n → cells_at c s n ≡ Some (s.globals h i))
              → Passes (operation_active c s) (cells_at c s) (if_any o (λ cell. event.loads cell (s.globals h i))) (operation_active c s) (cells_at c s)
          passing None at = (refl, refl)
          passing (Some n) at = (at n refl, (refl, refl))

    element_lawful : (h i : ℕ) (test : GlobalItem → Bool) → GlobalIs tree test h → (t : Bool) → Lawful s (cond t (reads_global c s st h i) (traps_with s Index))
    element_lawful h i test named true = reads_lawful test h i named
    element_lawful h i test named false = ends_lawful s (trapped Index) g

    input_lawful : (inputs : List ℤ) → Lawful s (gives_input c s st inputs)
    input_lawful [] = ends_lawful s (trapped InputEnd) g
    input_lawful (value ∷ rest) = gives_lawful rest (number value)

    calls_lawful : (func count : ℕ) (args : List ℕ) → st.act ≡ Calls func count → FunctionIs tree its func count → Lawful s (enters c s func args)
    calls_lawful func count args calling called_ = by (leb 256 (length s.callers)) refl where
      waits : Waits tree s.run func
      waits = record { stands = g.stands; st = st; there = there; count = count; calling = calling }

      entering : (rs : List Run) → AreCallers tree s.run.func rs → Passes (active_in c s.run.func rs) (cells_at c s) (if_any (operation_at c func) event.enters) (active_in c func (s.run ∷ rs)) (cells_at c s)
      entering [] h = one (operation_at c func) where
        one : (o : Option ℕ) → Passes None (cells_at c s) (if_any o event.enters) o (cells_at c s)
        one None = (refl, refl)
        one (Some op) = (refl, (refl, refl))
      entering (q ∷ qs) h =
          subst (λ (o : Option ℕ). Passes (active_in c s.run.func (q ∷ qs)) (cells_at c s) (if_any o event.enters) (active_in c s.run.func (q ∷ qs)) (cells_at c s))
          (sym (not_operation func s.run q qs (waits, h))) (refl, refl)

      by : (t : Bool) → leb 256 (length s.callers) ≡ t → Lawful s (cond t (traps_with s Depth) (record { state = entered_with s func args; shown = if_any (operation_at c func) event.enters }))
      by true deep = ends_lawful s (trapped Depth) g
      by false shallow = record {
        good = record {
          stands = record { its = called_.callee; is = called_.is; within = omega arith };
          callers = (waits, g.callers);
          few = omega (arith, leb-false 256 (length s.callers) shallow);
        };
        passes = λ n. entering s.callers g.callers;
      }

    acts_lawful : (a : Act) → st.act ≡ a → ActKeeps tree its (body_room its.body) st.open_below a → Lawful s (acts c s st s.run.operands st.open_below a)
    acts_lawful Begins is h = here_lawful 0
    acts_lawful Decides is h = here_lawful (s.run.operands st.open_below)
    acts_lawful ReachesEnd is h = here_lawful 0
    acts_lawful (Literal value) is h = gives_lawful s.inputs (number (pos value))
    acts_lawful (ReadsLocal x) is h = gives_lawful s.inputs (s.run.locals x)
    acts_lawful (ReadsScalar n) is h = reads_lawful _ n 0 h.1
    acts_lawful (ReadsElement n) is h = element_lawful n (s.run.operands st.open_below) _ h.1 (ltb (s.run.operands st.open_below) (length_of c n))
    acts_lawful (Calls func count) is h = calls_lawful func count (arguments s.run.operands st.open_below count) is h.2
    acts_lawful TakesInput is h = input_lawful s.inputs
    acts_lawful Negates is h = gives_lawful s.inputs (difference 0 (s.run.operands st.open_below))
    acts_lawful (Operates op) is h = gives_if_lawful (operated op (s.run.operands st.open_below) (s.run.operands (st.open_below + 1)))

  pub step_lawful : (s : LangState) → IsGood tree s → Lawful s (lang_step c s)
  step_lawful s g = by (is_some s.end) where
    h : HasStep s.run
    h = has_step s.run g.stands

    stepped : Lawful s (acts_at c s (step_at c s.run))
    stepped = subst (λ (o : Option Step). Lawful s (acts_at c s o)) (sym h.there) (acts_lawful s g h.st h.there h.st.act refl (act_here s g h.st h.there))

    by : (t : Bool) → Lawful s (cond t (quietly s) (acts_at c s (step_at c s.run)))
    by true = record { good = g; passes = λ n. (refl, refl) }
    by false = stepped
