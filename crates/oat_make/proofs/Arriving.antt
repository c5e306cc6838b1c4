-- Runs put together: how many steps they take at most, and how many edges of operation 1 and outputs they show.
use Rattle.std.proofs.Common.{◌||◌, ◌≡◌, ◌+◌, ◌≤◌, ℕ, zero, suc, Bool, false, cond, List, [], ◌++◌, length, Option, Some, None, refl, sym, ap, subst, ◌∙◌, arith, ℤ, length-append}
use Rattle.std.specs.{Prelude.is_some, Prelude.slice_get, Option.option_and_then, List.filter_map, List.list_any}
use Rattle.std.proofs.lemmas.{List.Elements.filter_map-append, List.Folds.list_any-append}
use Rattle.oat_events.proofs.SourceLaws.{state_after_more, shown_from_more}
use Rattle.oat_check.specs.{Program, Func, SourceEvent, is_left, state_after, shown_from, edge_taken, output_in, Lines.CodeLine, Lines.line_in, Steps.LineEdge, Steps.finishes, Steps.Frame}
use Rattle.oat_check.specs.{Steps.SourceState, Steps.Next, Steps.silent, Steps.at_line, Steps.current_line, Steps.source_step, Runs.source_of}

abbrev pub Events : Type 0
Events = List (SourceEvent LineEdge)

-- events with so many edges of operation 1 and so many outputs, none of which leaves it
pub record EventCounts (es : Events) (edges puts : ℕ) : Type 0 where
  pub edges_are : length (filter_map (edge_taken finishes 1) es) ≡ edges
  pub puts_are : length (filter_map output_in es) ≡ puts
  pub within : list_any (is_left 1) es ≡ false

counts_join : (xs ys : Events) {e o f u : ℕ} → EventCounts xs e o → EventCounts ys f u → EventCounts (xs ++ ys) (e + f) (o + u)
counts_join xs ys one other =
    let a : length (filter_map (edge_taken finishes 1) (xs ++ ys)) ≡ length (filter_map (edge_taken finishes 1) xs) + length (filter_map (edge_taken finishes 1) ys)
    = ap length (filter_map-append (edge_taken finishes 1) xs ys) ∙ length-append (filter_map (edge_taken finishes 1) xs) (filter_map (edge_taken finishes 1) ys) in
    let b : length (filter_map output_in (xs ++ ys)) ≡ length (filter_map output_in xs) + length (filter_map output_in ys)
    = ap length (filter_map-append output_in xs ys) ∙ length-append (filter_map output_in xs) (filter_map output_in ys) in
    let a1 = one.edges_are in
    let a2 = other.edges_are in
    let b1 = one.puts_are in
    let b2 = other.puts_are in
    record {
      edges_are = omega arith;
      puts_are = omega arith;
      within = list_any-append (is_left 1) xs ys ∙ ap (λ (t : Bool). t || list_any (is_left 1) ys) one.within ∙ other.within;
    }

-- ---- a run from state to state

pub record Arrives (p : Program) (inputs : List ℤ) (s t : SourceState) (most edges puts : ℕ) : Type 0 where
  pub steps : ℕ
  pub few : steps ≤ most
  pub there : state_after (source_of p inputs) steps s ≡ t
  pub counts : EventCounts (shown_from (source_of p inputs) steps s) edges puts

pub arrives_at_once : (p : Program) (inputs : List ℤ) (s : SourceState) → Arrives p inputs s s 0 0 0
arrives_at_once p inputs s = record { steps = 0; few = omega arith; there = refl; counts = record { edges_are = refl; puts_are = refl; within = refl } }

pub arrives_on : {p : Program} {inputs : List ℤ} {s t u : SourceState} {m e o m2 e2 o2 : ℕ} → Arrives p inputs s t m e o → Arrives p inputs t u m2 e2 o2 → Arrives p inputs s u (m + m2) (e + e2) (o + o2)
arrives_on {p} {inputs} {s} {t} {u} {m} {e} {o} {m2} {e2} {o2} one other =
    let a = one.few in
    let b = other.few in
    record {
      steps = one.steps + other.steps;
      few = omega arith;
      there = state_after_more (source_of p inputs) one.steps other.steps s ∙ ap (state_after (source_of p inputs) other.steps) one.there ∙ other.there;
      counts = subst (λ (es : Events). EventCounts es (e + e2) (o + o2))
          (sym (shown_from_more (source_of p inputs) one.steps other.steps s ∙ ap (λ (w : SourceState). shown_from (source_of p inputs) one.steps s ++ shown_from (source_of p inputs) other.steps w) one.there))
          (counts_join (shown_from (source_of p inputs) one.steps s) (shown_from (source_of p inputs) other.steps t) one.counts other.counts);
    }

-- the same, with more room
pub arrives_within : {p : Program} {inputs : List ℤ} {s t : SourceState} {m e o : ℕ} (m2 e2 o2 : ℕ) → m ≤ m2 → e ≡ e2 → o ≡ o2 → Arrives p inputs s t m e o → Arrives p inputs s t m2 e2 o2
arrives_within m2 e2 o2 room es os one =
    let a = one.few in
    record {
      steps = one.steps;
      few = omega arith;
      there = one.there;
      counts = record { edges_are = one.counts.edges_are ∙ es; puts_are = one.counts.puts_are ∙ os; within = one.counts.within };
    }

pub one_step : (p : Program) (inputs : List ℤ) (s : SourceState) (n : Next) (e o : ℕ) → source_step p s ≡ n → EventCounts (n.shown ++ []) e o → Arrives p inputs s n.state 1 e o
one_step p inputs s n e o is c =
    record { steps = 1; few = omega arith; there = ap (λ (x : Next). x.state) is; counts = subst (λ (x : Next). EventCounts (x.shown ++ []) e o) (sym is) c }

-- ---- steps inside a function that is known

abbrev pub local_line : Func → Frame → Option CodeLine
local_line func f = option_and_then (λ b. line_in b f.line) (slice_get func.blocks f.block)

pub current_line_is : (p : Program) (f : Frame) (func : Func) → slice_get p.funcs f.func ≡ Some func → current_line p f ≡ local_line func f
current_line_is p f func is = ap (option_and_then (λ func. option_and_then (λ b. line_in b f.line) (slice_get func.blocks f.block))) is

-- what the step from a state is where its frame stands in this function and nothing has ended
abbrev pub local_step : Program → Func → SourceState → Next
local_step p func s = at_line p s (local_line func s.frame)

-- it stands in function g and hasn't ended, for n states from here on
abbrev pub StaysIn : Program → ℕ → Func → ℕ → SourceState → Type 0
StaysIn p g func zero s = Unit {0}
StaysIn p g func (suc n) s = (s.frame.func ≡ g) × (s.end ≡ None) × StaysIn p g func n (local_step p func s).state

abbrev pub state_in : Program → Func → ℕ → SourceState → SourceState
state_in p func zero s = s
state_in p func (suc n) s = state_in p func n (local_step p func s).state

abbrev pub shown_in : Program → Func → ℕ → SourceState → Events
shown_in p func zero s = []
shown_in p func (suc n) s = (local_step p func s).shown ++ shown_in p func n (local_step p func s).state

pub step_is : (p : Program) (g : ℕ) (func : Func) (s : SourceState) → slice_get p.funcs g ≡ Some func → s.frame.func ≡ g → s.end ≡ None → source_step p s ≡ local_step p func s
step_is p g func s is here going =
    ap (λ o. cond (is_some o) (silent s) (at_line p s (current_line p s.frame))) going
    ∙ ap (at_line p s) (current_line_is p s.frame func (ap (slice_get p.funcs) here ∙ is))

pub steps_in : (p : Program) (inputs : List ℤ) (g : ℕ) (func : Func) → slice_get p.funcs g ≡ Some func → (n : ℕ) (s : SourceState) → StaysIn p g func n s
    → (state_after (source_of p inputs) n s ≡ state_in p func n s) × (shown_from (source_of p inputs) n s ≡ shown_in p func n s)
steps_in p inputs g func is zero s w = (refl, refl)
steps_in p inputs g func is (suc n) s w =
    let e = step_is p g func s is w.0 w.1 in
    let rest = steps_in p inputs g func is n (local_step p func s).state w.2 in (
      ap (λ (x : Next). state_after (source_of p inputs) n x.state) e ∙ rest.0,
      ap (λ (x : Next). x.shown ++ shown_from (source_of p inputs) n x.state) e ∙ ap (λ (es : Events). (local_step p func s).shown ++ es) rest.1,
    )

pub runs_in : (p : Program) (inputs : List ℤ) (g : ℕ) (func : Func) → slice_get p.funcs g ≡ Some func → (n : ℕ) (s : SourceState) (e o : ℕ) → StaysIn p g func n s → EventCounts (shown_in p func n s) e o
    → Arrives p inputs s (state_in p func n s) n e o
runs_in p inputs g func is n s e o w c =
    let h = steps_in p inputs g func is n s w in
    record { steps = n; few = omega arith; there = h.0; counts = subst (λ (es : Events). EventCounts es e o) (sym h.1) c }
