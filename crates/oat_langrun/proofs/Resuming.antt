-- What an interpreter that stands for a good state may rely on, and what follows where a caller is resumed.
use Rattle.std.proofs.Common.{◌≡◌, ◌+◌, ◌*◌, ◌<◌, ◌≤◌, ◌^◌, ℕ, zero, suc, true, false, List, [], ◌∷◌, length, get_or, map, Option, Some, refl, sym, ap, subst, ◌∙◌, arith}
use Rattle.std.specs.Prelude.{slice_get}
use Rattle.std.specs.List.{sum_by}
use Rattle.std.proofs.lemmas.List.{length-map}
use Rattle.std.proofs.lemmas.List.Sums.{sum_by-cons}
use Rattle.oat_ir.specs.declared.program.GlobalItem.{GlobalItem}
use Rattle.oat_ir.specs.declared.program.GlobalItem.TheVariants.{Scalar, FnScalar, Array, CriticalArray}
use Rattle.oat_check.specs.Globals.{of_global, size_in_words}
use Rattle.oat_check.specs.Rules.{is_main_role}
use Rattle.oat_events.specs.Events as event
use Rattle.oat_tree.specs.Rules.{IsLang, is_number}
use Rattle.oat_tree.specs.Scopes.{functions_of, globals_of}
use Rattle.oat_tree.specs.Sizes.{body_room, stmt_parts, stmts_parts, else_parts, function_size}
use Rattle.oat_tree.specs.Seen.{seen_tree}
use Rattle.oat_tree.specs.Syntax.{Stmt, declare, assign, assign_element, choose, repeat, put, return, halt, call_only, Body, no_stmts, stmt, Function, Tree}
use Rattle.oat_langrun.specs.declared.activation.Activation.{Activation}
use Rattle.oat_langrun.specs.declared.step.Act.{Act}
use Rattle.oat_langrun.specs.declared.step.Act.TheVariants.{ReadsScalar}
use Rattle.oat_langrun.specs.declared.interpreter.Interpreter.{Interpreter}
use Rattle.oat_langrun.specs.declared.routine.Routine.{Routine}
use Rattle.oat_langrun.specs.declared.step.Step.{Step}
use Rattle.oat_langrun.specs.declared.step.Use.{Use}
use Rattle.oat_langrun.specs.declared.step.Use.TheVariants.{Keeps, Drops, Assigns, StoresScalar, StoresElement, Puts, Chooses, Returns, Halts}
use Rattle.oat_langrun.specs.Fitting.{ActKeeps, UseKeeps, GlobalIs}
use Rattle.oat_langrun.specs.Keeping.{AreCallers, IsGood, Stands, Waits}
use Rattle.oat_langrun.specs.Meaning.{LangState, Run, Shown, given_back, if_any, operation_at, resumes, shows_behind, step_at, takes_value, uses}
use Rattle.oat_langrun.specs.Recording.{events_added}
use Rattle.oat_langrun.specs.Running.{CanUse, HasResumed, HasStepped, IsCalled, IsReady, StandsAt, code_of, state_of, tree_of}
use Rattle.oat_langrun.specs.Standing.{run_of}
use Rattle.oat_langrun.specs.Steps.{Routines, body_size, routines_of, stmt_size}
use Rattle.oat_langrun.proofs.Stepping.{kept}
use Rattle.oat_langrun.proofs.Words.{events_append, length_is}

-- ---- places are few

mutual
  stmt_few : (s : Stmt) → stmt_size s ≤ 2 * stmt_parts s
  stmt_few (declare x e) = omega arith
  stmt_few (assign x e) = omega arith
  stmt_few (assign_element a e f) = omega arith
  stmt_few (choose e a b) = omega (arith, body_few a, else_few b)
  stmt_few (repeat e a) = omega (arith, body_few a)
  stmt_few (put e) = omega arith
  stmt_few (return e) = omega arith
  stmt_few halt = omega arith
  stmt_few (call_only f es) = omega arith

  body_few : (b : Body) → body_size b ≤ 2 * stmts_parts b
  body_few no_stmts = omega arith
  body_few (stmt s b) = omega (arith, stmt_few s, body_few b)

  else_few : (b : Body) → body_size b ≤ 2 * else_parts b
  else_few no_stmts = omega arith
  else_few (stmt s b) = omega (arith, stmt_few s, body_few b)

function_few : (fs : List Function) (i : ℕ) (f : Function) → slice_get fs i ≡ Some f → function_size f ≤ sum_by function_size fs
function_few [] i f is = absurd (cc)
function_few (x ∷ xs) zero f is =
    let same : x ≡ f = cc in
    let sum : sum_by function_size (x ∷ xs) ≡ function_size x + sum_by function_size xs = sum_by-cons function_size x xs in
    subst (λ (g : Function). function_size g ≤ sum_by function_size (x ∷ xs)) same (omega (arith, sum))
function_few (x ∷ xs) (suc i) f is =
    let sum : sum_by function_size (x ∷ xs) ≡ function_size x + sum_by function_size xs = sum_by-cons function_size x xs in
    omega (arith, sum, function_few xs i f is)

-- a place of a function, and the next one
pub places_few : (tree : Tree) → IsLang tree → (r : Run) (h : Stands tree r) → r.place + 1 < 2 ^ 64
places_few tree ok r h =
    let one = function_few (functions_of tree) r.func h.its h.is in
    let two = body_few h.its.body in
    omega (arith, one, two, ok.size, h.within)

-- ---- uses

number_has : (item : GlobalItem) → is_number item ≡ true → size_in_words item ≡ 1
number_has (Scalar name start critical) h = refl
number_has (FnScalar name params) h = absurd (cc)
number_has (Array name len) h = absurd (cc)
number_has (CriticalArray name len) h = absurd (cc)

-- a scalar has its word
pub scalar_held : (tree : Tree) (words : List (List ℕ)) (g : ℕ) → map length words ≡ map size_in_words (globals_of tree) → GlobalIs tree is_number g → 0 < length (get_or words g [])
scalar_held tree words g are named =
    let len = length_is (globals_of tree) words g are in
    let size = ap (of_global size_in_words) named.is in
    let one = number_has named.item named.kind in
    omega (arith, len, size, one)

pub same_code : (m : Interpreter) → IsReady m → code_of m ≡ routines_of (tree_of m)
same_code m h = ap (λ (rs : List Routine). record { globals = globals_of (tree_of m); routines = rs }) h.routines

pub use_keeps : (m : Interpreter) (h : IsReady m) (st : Step) → StandsAt m st
    → UseKeeps (tree_of m) h.good.stands.its (body_size h.good.stands.its.body + 1) (0 + m.running.place) st.use_of
use_keeps m h st at =
    (kept (tree_of m) h.lang (run_of m.running) h.good.stands.its h.good.stands.is st (ap (λ (c : Routines). step_at c (run_of m.running)) (sym (same_code m h)) ∙ at)).kept.use_of

pub can_use : (m : Interpreter) (h : IsReady m) (u : Use) → UseKeeps (tree_of m) h.good.stands.its (body_size h.good.stands.its.body + 1) (0 + m.running.place) u → (u ≡ Returns → ⊥) → CanUse m u
can_use m h Keeps k other = places_few (tree_of m) h.lang (run_of m.running) h.good.stands
can_use m h (Drops to) k other = tt
can_use m h (Assigns x to) k other = tt
can_use m h (StoresScalar g to) k other = scalar_held (tree_of m) m.memory g h.words k.0
can_use m h (StoresElement g to) k other = tt
can_use m h (Puts to) k other = tt
can_use m h (Chooses first second) k other = tt
can_use m h Returns k other = absurd (other refl)
can_use m h Halts k other = tt

-- a function that returns was called
pub is_called : (m : Interpreter) (h : IsReady m) → is_main_role h.good.stands.its.role ≡ false → IsCalled m
is_called m h not_main f is =
    let same : h.good.stands.its ≡ f = (let two : Some h.good.stands.its ≡ Some f = sym h.good.stands.is ∙ is in cc) in
    ap (λ (g : Function). is_main_role g.role) (sym same) ∙ not_main

-- ---- states behind one another

-- what has the same text and as many words is ready where its state is good
pub ready_again : (old new : Interpreter) → IsReady old → new.items.now ≡ old.items.now → new.routines ≡ old.routines → map length new.memory ≡ map length old.memory
    → IsGood (tree_of old) (state_of new) → IsReady new
ready_again old new h items routines words good =
    let same : tree_of new ≡ tree_of old = ap seen_tree items in
    record {
      lang = subst IsLang (sym same) h.lang;
      routines = routines ∙ h.routines ∙ ap (λ (t : Tree). (routines_of t).routines) (sym same);
      words = words ∙ h.words ∙ ap (λ (t : Tree). map size_in_words (globals_of t)) (sym same);
      good = subst (λ (t : Tree). IsGood t (state_of new)) (sym same) good;
    }

pub code_again : (old new : Interpreter) → new.items.now ≡ old.items.now → new.routines ≡ old.routines → code_of new ≡ code_of old
code_again old new items routines = λ i. record { globals = globals_of (seen_tree (items i)); routines = routines i }

-- ---- returns

uses_again : (c : Routines) (s : LangState) (u : Use) (v : ℕ) (back again : Shown) → (u ≡ Returns → back ≡ again) → uses c s u v back ≡ uses c s u v again
uses_again c s Keeps v back again k = refl
uses_again c s (Drops to) v back again k = refl
uses_again c s (Assigns x to) v back again k = refl
uses_again c s (StoresScalar g to) v back again k = refl
uses_again c s (StoresElement g to) v back again k = refl
uses_again c s (Puts to) v back again k = refl
uses_again c s (Chooses first second) v back again k = refl
uses_again c s Returns v back again k = k refl
uses_again c s Halts v back again k = refl

module _ (tree : Tree) (ok : IsLang tree) where
  -- a return goes back alike from a caller that returned
  not_main : (r : Run) (func : ℕ) (w : Waits tree r func) → w.st.use_of ≡ Returns → is_main_role w.stands.its.role ≡ false
  not_main r func w is =
      subst (UseKeeps tree w.stands.its (body_size w.stands.its.body + 1) (0 + r.place)) is (kept tree ok r w.stands.its w.stands.is w.st w.there).kept.use_of

  lowest : (r : Run) (func : ℕ) → AreCallers tree func (r ∷ []) → (w : Waits tree r func) → is_main_role w.stands.its.role ≡ false → ⊥
  lowest r func h w other =
      let m = h.1 in
      let same : w.stands.its ≡ m.its = (let two : Some w.stands.its ≡ Some m.its = sym w.stands.is ∙ m.is in cc) in
      let t : is_main_role m.its.role ≡ false = ap (λ (f : Function). is_main_role f.role) (sym same) ∙ other in
      let n = m.main in
      cc

  resumed_again : (s : LangState) (run : Run) (callers : List Run) (v func : ℕ) (r : Run) (rs : List Run) (h : AreCallers tree func (r ∷ rs))
      → (h.0.st.use_of ≡ Returns → given_back (routines_of tree) (record s { run = run; callers = callers }) r.func v rs ≡ given_back (routines_of tree) s r.func v rs)
      → given_back (routines_of tree) (record s { run = run; callers = callers }) func v (r ∷ rs) ≡ given_back (routines_of tree) s func v (r ∷ rs)
  resumed_again s run callers v func r rs h k =
      let c = routines_of tree in
      let other : LangState = record s { run = run; callers = callers } in
      let one = given_back c other r.func v rs in
      let two = given_back c s r.func v rs in
      ap (shows_behind (if_any (operation_at c func) event.leaves))
      (ap (λ (o : Option Step). resumes c other r rs o v one) h.0.there
      ∙ uses_again c (record s { run = takes_value h.0.st.use_of h.0.st.open_below r v; callers = rs }) h.0.st.use_of v one two k
      ∙ sym (ap (λ (o : Option Step). resumes c s r rs o v two) h.0.there))

  pub back_again : (s : LangState) (run : Run) (callers : List Run) (v func : ℕ) (r : Run) (rs : List Run) → AreCallers tree func (r ∷ rs)
      → given_back (routines_of tree) (record s { run = run; callers = callers }) func v (r ∷ rs) ≡ given_back (routines_of tree) s func v (r ∷ rs)
  back_again s run callers v func r [] h = resumed_again s run callers v func r [] h (λ is. absurd (lowest r func h h.0 (not_main r func h.0 is)))
  back_again s run callers v func r (q ∷ qs) h = resumed_again s run callers v func r (q ∷ qs) h (λ is. back_again s run callers v r.func q qs h.1)

-- ---- a caller that was resumed

module _ (old : Interpreter) (value : ℕ) (u : Option Use) (new : Interpreter) (h : IsReady old) (r : HasResumed old value u new) where
  abbrev back_run : Run
  back_run = run_of r.caller

  abbrev others : List Run
  others = map run_of r.rest

  abbrev after : LangState
  after = record (state_of old) { run = takes_value r.st.use_of r.st.open_below back_run value; callers = others }

  callers_are : AreCallers (tree_of old) old.running.func (back_run ∷ others)
  callers_are = subst (λ (l : List Activation). AreCallers (tree_of old) old.running.func (map run_of l)) r.callers h.good.callers

  few : length (back_run ∷ others) ≤ 256
  few = subst (λ (l : List Activation). length (map run_of l) ≤ 256) r.callers h.good.few

  after_good : IsGood (tree_of old) after
  after_good = let w = callers_are.0 in record { stands = record { its = w.stands.its; is = w.stands.is; within = w.stands.within }; callers = callers_are.1; few = omega (arith, few) }

  pub resumed_ready : IsReady new
  resumed_ready = ready_again old new h r.items r.routines (ap (map length) r.memory) (subst (IsGood (tree_of old)) (sym r.state) after_good)

  code_same : code_of new ≡ code_of old
  code_same = code_again old new r.items r.routines

  pub resumed_there : StandsAt new r.st
  resumed_there = ap (λ (s : LangState). step_at (code_of new) s.run) r.state ∙ ap (λ (c : Routines). step_at c back_run) code_same ∙ r.there

  pub resumed_uses : (use_of : Use) → u ≡ Some use_of → (use_of ≡ Returns → ⊥) → CanUse new use_of
  resumed_uses use_of is other =
      let same : r.st.use_of ≡ use_of = (let two : Some r.st.use_of ≡ Some use_of = sym r.use_is ∙ is in cc) in
      can_use new resumed_ready use_of
      (subst (UseKeeps (tree_of new) resumed_ready.good.stands.its (body_size resumed_ready.good.stands.its.body + 1) (0 + new.running.place)) same (use_keeps new resumed_ready r.st resumed_there)) other

  pub resumed_called : u ≡ Some Returns → IsCalled new
  resumed_called is =
      let same : r.st.use_of ≡ Returns = (let two : Some r.st.use_of ≡ Some Returns = sym r.use_is ∙ is in cc) in
      is_called new resumed_ready
      (subst (UseKeeps (tree_of new) resumed_ready.good.stands.its (body_size resumed_ready.good.stands.its.body + 1) (0 + new.running.place)) same (use_keeps new resumed_ready r.st resumed_there))

  abbrev back : Shown
  back = given_back (code_of old) (state_of old) back_run.func value others

  abbrev left_events : List (event.SourceEvent ℕ)
  left_events = if_any (operation_at (code_of old) old.running.func) event.leaves

  whole : given_back (code_of old) (state_of old) old.running.func value (state_of old).callers ≡ shows_behind left_events (uses (code_of old) after r.st.use_of value back)
  whole =
      ap (λ (l : List Activation). given_back (code_of old) (state_of old) old.running.func value (map run_of l)) r.callers
      ∙ ap (λ (o : Option Step). shows_behind left_events (resumes (code_of old) (state_of old) back_run others o value back)) r.there

  behind_resumed : (next : Shown) (last : Interpreter) → HasStepped new next last → HasStepped old (shows_behind left_events next) last
  behind_resumed next last t = record {
    state = t.state;
    recorded = t.recorded ∙ ap (λ k. events_added k next.shown) r.recorded ∙ sym (events_append old.kept.recorded left_events next.shown);
    left = omega (arith, t.left, r.left);
    items = t.items ∙ r.items;
    routines = t.routines ∙ r.routines;
    words = t.words ∙ ap (map length) r.memory;
  }

  pub returned_used : (use_of : Use) (last : Interpreter) → u ≡ Some use_of → ((b : Shown) → HasStepped new (uses (code_of new) (state_of new) use_of value b) last)
      → HasStepped old (given_back (code_of old) (state_of old) old.running.func value (state_of old).callers) last
  returned_used use_of last is t =
      let same : use_of ≡ r.st.use_of = (let two : Some r.st.use_of ≡ Some use_of = sym r.use_is ∙ is in cc) in
      let here : uses (code_of new) (state_of new) use_of value back ≡ uses (code_of old) after r.st.use_of value back =
      (λ i. uses (code_same i) (r.state i) (same i) value back) in
      subst (λ (n : Shown). HasStepped old n last) (sym whole)
      (behind_resumed _ last (subst (λ (n : Shown). HasStepped new n last) here (t back)))

  same_back : (rs : List Run) → AreCallers (tree_of old) old.running.func (back_run ∷ rs) → r.st.use_of ≡ Returns
      → given_back (code_of old) (record (state_of old) { run = takes_value r.st.use_of r.st.open_below back_run value; callers = rs }) back_run.func value rs ≡ given_back (code_of old) (state_of old) back_run.func value rs
  same_back [] c is = absurd (lowest (tree_of old) h.lang back_run old.running.func c c.0 (not_main (tree_of old) h.lang back_run old.running.func c.0 (let one : Some r.st ≡ Some c.0.st = sym r.there ∙ ap (λ (k : Routines). step_at k back_run) (same_code old h) ∙ c.0.there in let two : r.st ≡ c.0.st = cc in ap (λ (st : Step). st.use_of) (sym two) ∙ is)))
  same_back (q ∷ qs) c is =
      subst (λ (k : Routines). given_back k (record (state_of old) { run = takes_value r.st.use_of r.st.open_below back_run value; callers = q ∷ qs }) back_run.func value (q ∷ qs) ≡ given_back k (state_of old) back_run.func value (q ∷ qs)) (sym (same_code old h))
      (back_again (tree_of old) h.lang (state_of old) (takes_value r.st.use_of r.st.open_below back_run value) (q ∷ qs) value back_run.func q qs c.1)

  pub returned_on : (last : Interpreter) → u ≡ Some Returns → HasStepped new (given_back (code_of new) (state_of new) new.running.func value (state_of new).callers) last
      → HasStepped old (given_back (code_of old) (state_of old) old.running.func value (state_of old).callers) last
  returned_on last is t =
      let same : r.st.use_of ≡ Returns = (let two : Some r.st.use_of ≡ Some Returns = sym r.use_is ∙ is in cc) in
      let here : given_back (code_of new) (state_of new) new.running.func value (state_of new).callers ≡ given_back (code_of old) after back_run.func value others =
      (λ i. given_back (code_same i) (r.state i) (r.state i).run.func value (r.state i).callers) in
      let used : uses (code_of old) after r.st.use_of value back ≡ back = ap (λ (w : Use). uses (code_of old) after w value back) same in
      subst (λ (n : Shown). HasStepped old n last) (sym (whole ∙ ap (shows_behind left_events) used))
      (behind_resumed back last (subst (λ (n : Shown). HasStepped new n last) (here ∙ same_back others callers_are same) t))

  pub resumed_less : suc (length new.callers) ≡ length old.callers
  resumed_less =
      let one : length new.callers ≡ length r.rest =
      sym (length-map new.callers run_of) ∙ ap (λ (s : LangState). length s.callers) r.state ∙ length-map r.rest run_of in
      ap suc one ∙ ap (λ (l : List Activation). length l) (sym r.callers)

-- ---- what is read

pub scalar_read : (m : Interpreter) (h : IsReady m) (st : Step) → StandsAt m st → (g : ℕ) → st.act ≡ ReadsScalar g → 0 < length (get_or m.memory g [])
scalar_read m h st at g is =
    let its = h.good.stands.its in
    let k = (kept (tree_of m) h.lang (run_of m.running) its h.good.stands.is st (ap (λ (c : Routines). step_at c (run_of m.running)) (sym (same_code m h)) ∙ at)).kept.act in
    scalar_held (tree_of m) m.memory g h.words (subst (λ (a : Act). ActKeeps (tree_of m) its (body_room its.body) st.open_below a) is k).1
