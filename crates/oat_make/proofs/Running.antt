-- The whole run: main calls the operation, which runs 80 rounds and returns, and main halts.
use Rattle.std.proofs.Common.{◌||◌, ◌≡◌, ◌+◌, ◌-◌, ◌≤◌, ℕ, Bool, true, false, cond, List, [], ◌∷◌, ◌++◌, length, get_or, Some, refl, sym, ap, ◌∙◌, arith, ℤ, length-append, append-nil}
use Rattle.std.specs.{Prelude.slice_get, Option.option_and_then, List.filter_map, List.list_any}
use Rattle.std.proofs.lemmas.{List.length-map, List.Elements.filter_map-append, List.Folds.list_any-append}
use Rattle.oat_events.proofs.SourceLaws.{state_after_more, shown_from_more}
use Rattle.oat_check.specs.{Program, Func, through, SourceEvent, is_left, halted, state_after, shown_from, edge_taken, output_in, has_completed, outputs_of, path_of_call, Globals.Values}
use Rattle.oat_check.specs.{Globals.first_values, Naming.written_edge, Runs.main_number, Runs.source_of, Runs.source_run, Runs.source_events, Runs.source_start, Shown.written_end, Steps.LineEdge}
use Rattle.oat_check.specs.{Steps.finishes, Steps.LinePlace, Steps.Frame, Steps.SourceState, Steps.assigned, Steps.shows, Steps.operation_number, Steps.operation_of, Steps.calls, Steps.returns}
use Rattle.oat_check.specs.{Steps.line_place, Steps.current_line, Steps.result_at}
use Rattle.oat_check.proofs.Sourcing.{ended_runs_stay}
use Rattle.oat_make.specs.{Drill.drill_work, Drill.drill_main, Drill.drill_limit, Drill.drill_constant, Drill.drill_inputs, Drill.drill_program, Laws.DrillsComplete}
use Rattle.oat_make.proofs.{Arriving.Events, Arriving.EventCounts, Arriving.Arrives, Arriving.arrives_on, Arriving.runs_in, Arriving.steps_in, Helpers.standing, Rounds.IsDrill, Rounds.work_is}
use Rattle.oat_make.proofs.{Rounds.at_test, Rounds.tested, Rounds.goes_out, Rounds.rounds}
use Rattle.oat_events.specs.Events as event

-- ---- the operation, from its entry to its end

abbrev in_main : ℕ → Frame
in_main line = record { func = 17; block = 0; line = line; locals = assigned (λ i. 0) 0 80 }

pub record Operated (p : Program) (inputs : List ℤ) (s : SourceState) (g : Frame) (globals : Values) : Type 0 where
  pub later : ℕ → ℕ
  pub arrives : Arrives p inputs s (standing 16 3 0 later (g ∷ []) globals []) 11444 4242 80

operated : (p : Program) (inputs : List ℤ) → IsDrill p → (l : ℕ → ℕ) → l 0 ≡ 80 → l 1 ≡ 0 → (g : Frame) (globals : Values) (ins : List ℤ) → length ins ≡ 80
    → Operated p inputs (standing 16 0 0 l (g ∷ []) globals ins) g globals
operated p inputs d l count round g globals ins many =
    let begin : Arrives p inputs (standing 16 0 0 l (g ∷ []) globals ins) (at_test (assigned l 2 1) g globals ins) 2 1 0
    = runs_in p inputs 16 drill_work (work_is p d) 2 (standing 16 0 0 l (g ∷ []) globals ins) 1 0 (refl, refl, (refl, refl, tt)) (record { edges_are = refl; puts_are = refl; within = refl }) in
    let all = rounds p inputs d g globals 80 0 refl (assigned l 2 1) ins many (record { count = count; round = round; one = refl }) in
    let out = tested p inputs d g globals all.later [] false (goes_out all.later all.at) in
    let v : ℕ → ℕ = assigned all.later 4 0 in
    let done : Arrives p inputs (standing 16 1 1 v (g ∷ []) globals []) (standing 16 3 0 v (g ∷ []) globals []) 1 1 0
    = runs_in p inputs 16 drill_work (work_is p d) 1 (standing 16 1 1 v (g ∷ []) globals []) 1 0 (refl, refl, tt) (record { edges_are = refl; puts_are = refl; within = refl }) in
    record { later = v; arrives = arrives_on begin (arrives_on all.arrives (arrives_on out done)) }

-- ---- events of a run with one call of operation 1

through_past : {X : Type 0} (t : X → Bool) (xs : List X) (y : X) (ys : List X) → list_any t xs ≡ false → t y ≡ true → through t (xs ++ (y ∷ ys)) ≡ xs ++ (y ∷ [])
through_past t [] y ys never hit = ap (λ (b : Bool). cond b (y ∷ []) (y ∷ through t ys)) hit
through_past {X} t (x ∷ xs) y ys never hit = by (t x) never (λ n. through_past t xs y ys n hit) where
  by : (b : Bool) → (b || list_any t xs) ≡ false → (list_any t xs ≡ false → through t (xs ++ (y ∷ ys)) ≡ xs ++ (y ∷ [])) → cond b (x ∷ []) (x ∷ through t (xs ++ (y ∷ ys))) ≡ x ∷ (xs ++ (y ∷ []))
  by true n rest = absurd (cc)
  by false n rest = ap (λ (zs : List X). x ∷ zs) (rest n)

abbrev whole : LineEdge → Events → LineEdge → Events
whole a es b = (event.takes a ∷ event.enters 1 ∷ []) ++ (es ++ (event.leaves 1 ∷ event.takes b ∷ []))

whole_completed : (a : LineEdge) (es : Events) (b : LineEdge) → has_completed 1 0 (whole a es b) ≡ true
whole_completed a es b = list_any-append (is_left 1) es (event.leaves 1 ∷ event.takes b ∷ []) ∙ or_true (list_any (is_left 1) es) where
  or_true : (t : Bool) → (t || true) ≡ true
  or_true true = refl
  or_true false = refl

whole_put : (a : LineEdge) (es : Events) (b : LineEdge) (e o : ℕ) → EventCounts es e o → length (outputs_of (whole a es b)) ≡ o
whole_put a es b e o c =
    ap length (filter_map-append output_in es (event.leaves 1 ∷ event.takes b ∷ [])) ∙ ap length (append-nil (filter_map output_in es)) ∙ c.puts_are

whole_path : (p : Program) (inputs : List ℤ) (a : LineEdge) (es : Events) (b : LineEdge) (e o : ℕ) → EventCounts es e o → length (path_of_call (source_of p inputs) 1 0 (whole a es b)) ≡ e + 1
whole_path p inputs a es b e o c =
    ap (λ (xs : Events). length (filter_map (edge_taken finishes 1) xs)) (through_past (is_left 1) es (event.leaves 1) (event.takes b ∷ []) c.within refl)
    ∙ ap length (filter_map-append (edge_taken finishes 1) es (event.leaves 1 ∷ []))
    ∙ length-append (filter_map (edge_taken finishes 1) es) (finishes 1 ∷ [])
    ∙ ap (λ n. n + 1) c.edges_are

-- ---- from the start to the end

main_is : (p : Program) → IsDrill p → slice_get p.funcs 17 ≡ Some drill_main
main_is p d = ap (λ fs. slice_get fs 17) d.funcs

is_operation : (p : Program) → IsDrill p → operation_of p 16 ≡ Some 1
is_operation p d = ap (option_and_then (λ (func : Func). operation_number func.role)) (work_is p d)

-- the lines of the call and of the return
abbrev call_place : LinePlace
call_place = line_place (in_main 1)

abbrev return_place : LinePlace
return_place = record { func = 16; block = 3; line = 0 }

record Ended (p : Program) (inputs : List ℤ) : Type 0 where
  steps : ℕ
  few : steps ≤ 11448
  ended : (source_run p inputs steps).end ≡ Some halted
  inner : Events
  counts : EventCounts inner 4242 80
  events_are : source_events p inputs steps ≡ whole (calls call_place 16) inner (returns return_place call_place)

record Goes (p : Program) (inputs : List ℤ) (s t : SourceState) (n : ℕ) (es : Events) : Type 0 where
  there : state_after (source_of p inputs) n s ≡ t
  shows_them : shown_from (source_of p inputs) n s ≡ es

goes_on : (p : Program) (inputs : List ℤ) (s t u : SourceState) (n k : ℕ) (xs ys : Events) → Goes p inputs s t n xs → Goes p inputs t u k ys → Goes p inputs s u (n + k) (xs ++ ys)
goes_on p inputs s t u n k xs ys one other = record {
  there = state_after_more (source_of p inputs) n k s ∙ ap (state_after (source_of p inputs) k) one.there ∙ other.there;
  shows_them =
      shown_from_more (source_of p inputs) n k s ∙ ap (λ (zs : Events). zs ++ shown_from (source_of p inputs) k (state_after (source_of p inputs) n s)) one.shows_them
      ∙ ap (λ (w : SourceState). xs ++ shown_from (source_of p inputs) k w) one.there ∙ ap (λ (zs : Events). xs ++ zs) other.shows_them;
}

-- main calls the operation
main_calls : (p : Program) (inputs : List ℤ) → IsDrill p
    → Goes p inputs (source_start p inputs) (standing 16 0 0 (λ i. get_or (80 ∷ []) i 0) (in_main 1 ∷ []) (first_values p) inputs) 2 (event.takes (calls call_place 16) ∷ event.enters 1 ∷ [])
main_calls p inputs d =
    let s : SourceState = standing 17 0 0 (λ i. 0) [] (first_values p) inputs in
    let h = steps_in p inputs 17 drill_main (main_is p d) 2 s (refl, refl, (refl, refl, tt)) in
    let begin : source_start p inputs ≡ s = ap (λ m. standing m 0 0 (λ i. 0) [] (first_values p) inputs) (ap main_number d.funcs) in
    record {
      there = ap (state_after (source_of p inputs) 2) begin ∙ h.0;
      shows_them = ap (shown_from (source_of p inputs) 2) begin ∙ h.1 ∙ ap (λ o. (event.takes (calls call_place 16) ∷ shows o event.enters) ++ []) (is_operation p d);
    }

-- the operation returns, and main halts
main_halts : (p : Program) (inputs : List ℤ) → IsDrill p → (v : ℕ → ℕ) (globals : Values)
    → (t : SourceState) × (t.end ≡ Some halted) × Goes p inputs (standing 16 3 0 v (in_main 1 ∷ []) globals []) t 2 (event.leaves 1 ∷ event.takes (returns return_place call_place) ∷ [])
main_halts p inputs d v globals =
    let l : ℕ → ℕ = assigned (assigned (λ i. 0) 0 80) (result_at (current_line p (in_main 1))) (v 1) in
    let s : SourceState = standing 16 3 0 v (in_main 1 ∷ []) globals [] in
    let one = steps_in p inputs 16 drill_work (work_is p d) 1 s (refl, refl, tt) in
    let other = steps_in p inputs 17 drill_main (main_is p d) 1 (standing 17 0 2 l [] globals []) (refl, refl, tt) in (
      record { frame = record { func = 17; block = 0; line = 2; locals = l }; callers = []; globals = globals; inputs = []; end = Some halted },
      refl,
      goes_on p inputs s _ _ 1 1 (event.leaves 1 ∷ event.takes (returns return_place call_place) ∷ []) []
          (record { there = one.0; shows_them = one.1 ∙ ap (λ o. (shows o event.leaves ++ event.takes (returns return_place call_place) ∷ []) ++ []) (is_operation p d) })
          (record { there = other.0; shows_them = other.1 }),
    )

runs_to_end : (p : Program) (inputs : List ℤ) → IsDrill p → length inputs ≡ 80 → Ended p inputs
runs_to_end p inputs d many =
    let o = operated p inputs d (λ i. get_or (80 ∷ []) i 0) refl refl (in_main 1) (first_values p) inputs many in
    let halting = main_halts p inputs d o.later (first_values p) in
    let few = o.arrives.few in
    let middle : Goes p inputs (standing 16 0 0 (λ i. get_or (80 ∷ []) i 0) (in_main 1 ∷ []) (first_values p) inputs) (standing 16 3 0 o.later (in_main 1 ∷ []) (first_values p) []) o.arrives.steps _
    = record { there = o.arrives.there; shows_them = refl } in
    let all = goes_on p inputs _ _ _ 2 (o.arrives.steps + 2) _ _ (main_calls p inputs d) (goes_on p inputs _ _ _ o.arrives.steps 2 _ _ middle halting.2) in
    record {
      steps = 2 + (o.arrives.steps + 2);
      few = omega arith;
      ended = ap (λ (t : SourceState). t.end) all.there ∙ halting.1;
      inner = shown_from (source_of p inputs) o.arrives.steps (standing 16 0 0 (λ i. get_or (80 ∷ []) i 0) (in_main 1 ∷ []) (first_values p) inputs);
      counts = o.arrives.counts;
      events_are = all.shows_them;
    }

-- ---- of a number

many_inputs : (n : ℕ) → length (drill_inputs n) ≡ 80
many_inputs n = refl

pub drills_complete : DrillsComplete
drills_complete n k enough =
    let p : Program = drill_program n in
    let ins : List ℤ = drill_inputs n in
    let r = runs_to_end p ins (record { limit = drill_limit n; constant = drill_constant n; funcs = refl }) (many_inputs n) in
    let few = r.few in
    let stays = ended_runs_stay p ins r.steps (k - r.steps) halted r.ended in
    let sum : r.steps + (k - r.steps) ≡ k = omega arith in
    let same : source_events p ins k ≡ whole (calls call_place 16) r.inner (returns return_place call_place) = ap (source_events p ins) (sym sum) ∙ stays.1 ∙ r.events_are in
    let end : (source_run p ins k).end ≡ Some halted = ap (λ m. (source_run p ins m).end) (sym sum) ∙ ap (λ (s : SourceState). s.end) stays.0 ∙ r.ended in
    record {
      ended = ap written_end end;
      completed = ap (has_completed 1 0) same ∙ whole_completed (calls call_place 16) r.inner (returns return_place call_place);
      outputs = ap (λ es. length (outputs_of es)) same ∙ whole_put (calls call_place 16) r.inner (returns return_place call_place) 4242 80 r.counts;
      path =
          length-map (path_of_call (source_of p ins) 1 0 (source_events p ins k)) (written_edge p)
          ∙ ap (λ es. length (path_of_call (source_of p ins) 1 0 es)) same ∙ whole_path p ins (calls call_place 16) r.inner (returns return_place call_place) 4242 80 r.counts;
    }
