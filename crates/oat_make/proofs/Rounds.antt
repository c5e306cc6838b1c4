-- A round of the loop: at most 143 steps, 53 edges and one output; and 80 of them.
use Rattle.std.proofs.Common.{◌≡◌, ◌+◌, ◌*◌, ◌<◌, ◌≤◌, ℕ, zero, suc, Bool, true, false, List, [], ◌∷◌, ◌++◌, length, get_or, map, Option, Some, None, refl, sym, ap, subst, ◌∙◌, arith, ℤ, pos}
use Rattle.std.specs.{Prelude.slice_get, Prelude.int_lt, Int.w64}
use Rattle.std.proofs.lemmas.{Bool.lt-ltb, Int.to_z_pos}
use Rattle.oat_check.specs.{signed, wrap, Program, Globals.Values, Lines.instruction, Operators.number, Operators.truth, Steps.LineEdge, Steps.Frame, Steps.SourceState, Steps.line_place}
use Rattle.oat_check.specs.{Steps.assigned, Steps.shows, Steps.result_at, Steps.current_line, Steps.at_line, Steps.operation_of, Steps.entered, Steps.source_step, Steps.calls, Steps.icalls}
use Rattle.oat_make.specs.Drill.{drill_with, helper, helper_name, helper_call, drill_work}
use Rattle.oat_make.proofs.{Arriving.EventCounts, Arriving.Arrives, Arriving.arrives_at_once, Arriving.arrives_on, Arriving.arrives_within, Arriving.one_step, Arriving.local_line}
use Rattle.oat_make.proofs.{Arriving.current_line_is, Arriving.step_is, Arriving.runs_in, Helpers.standing, Helpers.back_in, Helpers.helper_is_plain, Helpers.helper_returns}
use Rattle.oat_events.specs.Events as event

-- all that the proof knows of the program
pub record IsDrill (p : Program) : Type 0 where
  pub limit : ℤ
  pub constant : ℕ → ℤ
  pub funcs : p.funcs ≡ (drill_with limit constant).funcs

pub work_is : (p : Program) → IsDrill p → slice_get p.funcs 16 ≡ Some drill_work
work_is p d = ap (λ fs. slice_get fs 16) d.funcs

-- ---- states of the loop

abbrev pub frame_at : ℕ → (ℕ → ℕ) → Frame
frame_at line l = record { func = 16; block = 2; line = line; locals = l }

-- in a round
abbrev pub in_round : ℕ → (ℕ → ℕ) → Frame → Values → List ℤ → SourceState
in_round line l g globals ins = standing 16 2 line l (g ∷ []) globals ins

-- before one
abbrev pub at_test : (ℕ → ℕ) → Frame → Values → List ℤ → SourceState
at_test l g globals ins = standing 16 1 0 l (g ∷ []) globals ins

-- the locals there: 80, the number of the round, 1
pub record AtRound (l : ℕ → ℕ) (k : ℕ) : Type 0 where
  pub count : l 0 ≡ 80
  pub round : l 1 ≡ k
  pub one : l 2 ≡ 1

pub record CallReturns (p : Program) (inputs : List ℤ) (line next : ℕ) (l : ℕ → ℕ) (g : Frame) (globals : Values) (ins : List ℤ) : Type 0 where
  pub value : ℕ
  pub arrives : Arrives p inputs (in_round line l g globals ins) (in_round next (assigned l 3 value) g globals ins) 8 3 0

-- a round so far: what it began with is kept but for locals 3 to 5
pub record Ran (p : Program) (inputs : List ℤ) (s : SourceState) (line most edges : ℕ) (l : ℕ → ℕ) (g : Frame) (globals : Values) (ins : List ℤ) : Type 0 where
  pub now : ℕ → ℕ
  pub count : now 0 ≡ l 0
  pub round : now 1 ≡ l 1
  pub one : now 2 ≡ l 2
  pub arrives : Arrives p inputs s (in_round line now g globals ins) most edges 0

pub record RoundsRan (p : Program) (inputs : List ℤ) (s : SourceState) (k : ℕ) (g : Frame) (globals : Values) (ins : List ℤ) (most edges puts : ℕ) : Type 0 where
  pub later : ℕ → ℕ
  pub at : AtRound later k
  pub arrives : Arrives p inputs s (at_test later g globals ins) most edges puts

-- ---- numbers

enter_counts : (o : Option ℕ) (edge : LineEdge) → o ≡ None → EventCounts ((event.takes edge ∷ shows o event.enters) ++ []) 1 0
enter_counts o edge is = subst (λ (q : Option ℕ). EventCounts ((event.takes edge ∷ shows q event.enters) ++ []) 1 0) (sym is) (record { edges_are = refl; puts_are = refl; within = refl })

signed_small : (k : ℕ) → k ≤ 80 → signed k ≡ pos k
signed_small k h = to_z_pos w64 k (omega arith)

goes_on : (l : ℕ → ℕ) (k : ℕ) → AtRound l k → k < 80 → int_lt (signed (l 1)) (signed (l 0)) ≡ true
goes_on l k at less =
    ap (λ (x : ℕ). int_lt (signed x) (signed (l 0))) at.round ∙ ap (λ (y : ℕ). int_lt (signed k) (signed y)) at.count
    ∙ ap (λ (z : ℤ). int_lt z (signed 80)) (signed_small k (omega arith)) ∙ lt-ltb k 80 less

pub goes_out : (l : ℕ → ℕ) → AtRound l 80 → int_lt (signed (l 1)) (signed (l 0)) ≡ false
goes_out l at = ap (λ (x : ℕ). int_lt (signed x) (signed (l 0))) at.round ∙ ap (λ (y : ℕ). int_lt (signed 80) (signed y)) at.count

small_mod : (k : ℕ) → k < 80 → wrap (k + 1) ≡ suc k
small_mod k h = omega arith

-- ---- of one program and one caller

module _ (p : Program) (inputs : List ℤ) (d : IsDrill p) (g : Frame) (globals : Values) where
  -- a step that enters a helper, at a line whose result goes into local 3
  called : (line next j : ℕ) (l : ℕ → ℕ) (ins : List ℤ) (edge : LineEdge)
      → slice_get p.funcs j ≡ Some (helper (helper_name j) (d.constant j)) → line + 1 ≡ next → result_at (local_line drill_work (frame_at line l)) ≡ 3
      → source_step p (in_round line l g globals ins) ≡ record { state = entered (in_round line l g globals ins) j (3 ∷ []); shown = event.takes edge ∷ shows (operation_of p j) event.enters }
      → CallReturns p inputs line next l g globals ins
  called line next j l ins edge is after three goes =
      let first = one_step p inputs (in_round line l g globals ins) _ 1 0 goes (enter_counts (operation_of p j) edge (helper_is_plain p inputs j (helper_name j) (d.constant j) is)) in
      let back = helper_returns p inputs j (helper_name j) (d.constant j) is (λ i. get_or (map l (3 ∷ [])) i 0) (frame_at line l) (g ∷ []) globals ins in
      let result : result_at (current_line p (frame_at line l)) ≡ 3 = ap result_at (current_line_is p (frame_at line l) drill_work (work_is p d)) ∙ three in
      let there : back_in p (frame_at line l) back.value (g ∷ []) globals ins ≡ in_round next (assigned l 3 back.value) g globals ins
      = ap (λ x. in_round (line + 1) (assigned l x back.value) g globals ins) result ∙ ap (λ n. in_round n (assigned l 3 back.value) g globals ins) after in
      record { value = back.value; arrives = subst (λ (t : SourceState). Arrives p inputs (in_round line l g globals ins) t 8 3 0) there (arrives_on first back.arrives) }

  -- the call of helper j
  next_call : {s : SourceState} {m e : ℕ} {l : ℕ → ℕ} {ins : List ℤ} (j : ℕ) → slice_get p.funcs j ≡ Some (helper (helper_name j) (d.constant j))
      → ((v : ℕ → ℕ) → local_line drill_work (frame_at (suc j) v) ≡ Some (instruction (helper_call j)))
      → Ran p inputs s (suc j) m e l g globals ins → Ran p inputs s (suc (suc j)) (m + 8) (e + 3) l g globals ins
  next_call {s} {m} {e} {l} {ins} j is there ran =
      let v = ran.now in
      let c = called (suc j) (suc (suc j)) j v ins (calls (line_place (frame_at (suc j) v)) j) is (omega arith) (ap result_at (there v))
      (step_is p 16 drill_work (in_round (suc j) v g globals ins) (work_is p d) refl refl ∙ ap (at_line p (in_round (suc j) v g globals ins)) (there v)) in
      record { now = assigned v 3 c.value; count = ran.count; round = ran.round; one = ran.one; arrives = arrives_on ran.arrives c.arrives }

  all_calls : (s : SourceState) (l : ℕ → ℕ) (ins : List ℤ) → Ran p inputs s 1 0 0 l g globals ins → Ran p inputs s 17 128 48 l g globals ins
  all_calls s l ins r =
      let r = next_call 0 (ap (λ fs. slice_get fs 0) d.funcs) (λ v. refl) r in
      let r = next_call 1 (ap (λ fs. slice_get fs 1) d.funcs) (λ v. refl) r in
      let r = next_call 2 (ap (λ fs. slice_get fs 2) d.funcs) (λ v. refl) r in
      let r = next_call 3 (ap (λ fs. slice_get fs 3) d.funcs) (λ v. refl) r in
      let r = next_call 4 (ap (λ fs. slice_get fs 4) d.funcs) (λ v. refl) r in
      let r = next_call 5 (ap (λ fs. slice_get fs 5) d.funcs) (λ v. refl) r in
      let r = next_call 6 (ap (λ fs. slice_get fs 6) d.funcs) (λ v. refl) r in
      let r = next_call 7 (ap (λ fs. slice_get fs 7) d.funcs) (λ v. refl) r in
      let r = next_call 8 (ap (λ fs. slice_get fs 8) d.funcs) (λ v. refl) r in
      let r = next_call 9 (ap (λ fs. slice_get fs 9) d.funcs) (λ v. refl) r in
      let r = next_call 10 (ap (λ fs. slice_get fs 10) d.funcs) (λ v. refl) r in
      let r = next_call 11 (ap (λ fs. slice_get fs 11) d.funcs) (λ v. refl) r in
      let r = next_call 12 (ap (λ fs. slice_get fs 12) d.funcs) (λ v. refl) r in
      let r = next_call 13 (ap (λ fs. slice_get fs 13) d.funcs) (λ v. refl) r in
      let r = next_call 14 (ap (λ fs. slice_get fs 14) d.funcs) (λ v. refl) r in
      next_call 15 (ap (λ fs. slice_get fs 15) d.funcs) (λ v. refl) r

  -- the comparison
  pub tested : (l : ℕ → ℕ) (ins : List ℤ) (b : Bool) → int_lt (signed (l 1)) (signed (l 0)) ≡ b → Arrives p inputs (at_test l g globals ins) (standing 16 1 1 (assigned l 4 (truth b)) (g ∷ []) globals ins) 1 0 0
  tested l ins b is =
      subst (λ (c : Bool). Arrives p inputs (at_test l g globals ins) (standing 16 1 1 (assigned l 4 (truth c)) (g ∷ []) globals ins) 1 0 0) is
      (runs_in p inputs 16 drill_work (work_is p d) 1 (at_test l g globals ins) 0 0 (refl, refl, tt) (record { edges_are = refl; puts_are = refl; within = refl }))

  -- behind the calls
  round_ends : (v : ℕ → ℕ) (k : ℕ) (ins : List ℤ) → AtRound v k → k < 80 → RoundsRan p inputs (in_round 17 v g globals ins) (suc k) g globals ins 12 4 1
  round_ends v k ins at less =
      let refers : Arrives p inputs (in_round 17 v g globals ins) (in_round 18 (assigned v 5 1) g globals ins) 1 0 0
      = runs_in p inputs 16 drill_work (work_is p d) 1 (in_round 17 v g globals ins) 0 0 (refl, refl, tt) (record { edges_are = refl; puts_are = refl; within = refl }) in
      let icall = called 18 19 0 (assigned v 5 1) ins (icalls (line_place (frame_at 18 v)) 0) (ap (λ fs. slice_get fs 0) d.funcs) refl refl
      (step_is p 16 drill_work (in_round 18 (assigned v 5 1) g globals ins) (work_is p d) refl refl) in
      let u : ℕ → ℕ = assigned (assigned v 5 1) 3 icall.value in
      let puts : Arrives p inputs (in_round 19 u g globals ins) (at_test (assigned u 1 (wrap (v 1 + v 2))) g globals ins) 3 1 1
      = runs_in p inputs 16 drill_work (work_is p d) 3 (in_round 19 u g globals ins) 1 1 (refl, refl, (refl, refl, (refl, refl, tt))) (record { edges_are = refl; puts_are = refl; within = refl }) in
      record {
        later = assigned u 1 (wrap (v 1 + v 2));
        at = record { count = at.count; round = ap (λ (x : ℕ). wrap (x + v 2)) at.round ∙ ap (λ (x : ℕ). wrap (k + x)) at.one ∙ small_mod k less; one = at.one };
        arrives = arrives_on refers (arrives_on icall.arrives puts);
      }

  a_round : (l : ℕ → ℕ) (k : ℕ) (value : ℤ) (ins : List ℤ) → AtRound l k → k < 80 → RoundsRan p inputs (at_test l g globals (value ∷ ins)) (suc k) g globals ins 143 53 1
  a_round l k value ins at less =
      let w : ℕ → ℕ = assigned (assigned l 4 1) 3 (number value) in
      let goes = tested l (value ∷ ins) true (goes_on l k at less) in
      let takes : Arrives p inputs (standing 16 1 1 (assigned l 4 1) (g ∷ []) globals (value ∷ ins)) (in_round 1 w g globals ins) 2 1 0
      = runs_in p inputs 16 drill_work (work_is p d) 2 (standing 16 1 1 (assigned l 4 1) (g ∷ []) globals (value ∷ ins)) 1 0 (refl, refl, (refl, refl, tt)) (record { edges_are = refl; puts_are = refl; within = refl }) in
      let sixteen = all_calls (in_round 1 w g globals ins) w ins (record { now = w; count = refl; round = refl; one = refl; arrives = arrives_at_once p inputs (in_round 1 w g globals ins) }) in
      let ends = round_ends sixteen.now k ins (record { count = sixteen.count ∙ at.count; round = sixteen.round ∙ at.round; one = sixteen.one ∙ at.one }) less in
      record { later = ends.later; at = ends.at; arrives = arrives_on goes (arrives_on takes (arrives_on sixteen.arrives ends.arrives)) }

  -- all that are left
  pub rounds : (left k : ℕ) → left + k ≡ 80 → (l : ℕ → ℕ) (ins : List ℤ) → length ins ≡ left → AtRound l k
      → RoundsRan p inputs (at_test l g globals ins) 80 g globals [] (left * 143) (left * 53) left
  rounds zero k is l [] many at = record {
    later = l;
    at = record { count = at.count; round = at.round ∙ (let e : k ≡ 80 = omega arith in e); one = at.one };
    arrives = arrives_at_once p inputs _;
  }
  rounds zero k is l (value ∷ ins) many at = absurd (omega arith)
  rounds (suc left) k is l [] many at = absurd (omega arith)
  rounds (suc left) k is l (value ∷ ins) many at =
      let one = a_round l k value ins at (omega arith) in
      let rest = rounds left (suc k) (omega arith) one.later ins (omega arith) one.at in
      record {
        later = rest.later;
        at = rest.at;
        arrives = arrives_within (suc left * 143) (suc left * 53) (suc left) (omega arith) (omega arith) (omega arith) (arrives_on one.arrives rest.arrives);
      }
