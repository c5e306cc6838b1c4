-- A call of a helper: at most 8 steps, three edges whichever way it branches, and some result.
use Rattle.std.proofs.Common.{◌≡◌, ◌+◌, ℕ, Bool, true, false, List, [], ◌∷◌, ◌++◌, Option, Some, None, refl, sym, ap, subst, arith, ℤ}
use Rattle.std.specs.{Prelude.slice_get, Prelude.int_lt, Option.option_and_then}
use Rattle.oat_check.specs.{signed, wrap, difference, Program, Func, Globals.Values, Globals.cell_number, Operators.number, Operators.truth, Steps.LineEdge, Steps.Frame, Steps.SourceState}
use Rattle.oat_check.specs.{Steps.assigned, Steps.shows, Steps.result_at, Steps.current_line, Steps.operation_number, Steps.operation_of}
use Rattle.oat_make.specs.Drill.{helper}
use Rattle.oat_make.proofs.Arriving.{EventCounts, Arrives, arrives_on, arrives_within, runs_in}
use Rattle.oat_events.specs.Events as event

-- in a function, at a line of a block of it
abbrev pub standing : ℕ → ℕ → ℕ → (ℕ → ℕ) → List Frame → Values → List ℤ → SourceState
standing g b line locals callers globals inputs = record { frame = record { func = g; block = b; line = line; locals = locals }; callers = callers; globals = globals; inputs = inputs; end = None }

-- back in the caller, behind its call
abbrev pub back_in : Program → Frame → ℕ → List Frame → Values → List ℤ → SourceState
back_in p f value callers globals inputs =
    record { frame = record f { line = f.line + 1; locals = assigned f.locals (result_at (current_line p f)) value }; callers = callers; globals = globals; inputs = inputs; end = None }

pub record ReturnsTo (p : Program) (inputs : List ℤ) (s : SourceState) (f : Frame) (callers : List Frame) (globals : Values) (ins : List ℤ) (most : ℕ) : Type 0 where
  pub value : ℕ
  pub arrives : Arrives p inputs s (back_in p f value callers globals ins) most 2 0

-- one load or none
load_counts : (o : Option ℕ) (value : ℕ) → EventCounts (shows o (λ cell. event.loads cell value) ++ []) 0 0
load_counts None value = record { edges_are = refl; puts_are = refl; within = refl }
load_counts (Some c) value = record { edges_are = refl; puts_are = refl; within = refl }

-- a branch, and a return from what is no operation
last_counts : (o : Option ℕ) (a b : LineEdge) → o ≡ None → EventCounts (event.takes a ∷ ((shows o event.leaves ++ event.takes b ∷ []) ++ [])) 2 0
last_counts o a b is =
    subst (λ (q : Option ℕ). EventCounts (event.takes a ∷ ((shows q event.leaves ++ event.takes b ∷ []) ++ [])) 2 0) (sym is) (record { edges_are = refl; puts_are = refl; within = refl })

module _ (p : Program) (inputs : List ℤ) (g : ℕ) (name : List ℕ) (constant : ℤ) (is : slice_get p.funcs g ≡ Some (helper name constant)) where
  pub helper_is_plain : operation_of p g ≡ None
  helper_is_plain = ap (option_and_then (λ (func : Func). operation_number func.role)) is

  -- behind the comparison, whose outcome is in local 3
  helper_ends : (b : Bool) (v : ℕ → ℕ) (f : Frame) (callers : List Frame) (globals : Values) (ins : List ℤ)
      → ReturnsTo p inputs (standing g 0 4 (assigned v 3 (truth b)) (f ∷ callers) globals ins) f callers globals ins 3
  helper_ends true v f callers globals ins = record {
    value = difference (v 0) (v 2);
    arrives = runs_in p inputs g (helper name constant) is 3 (standing g 0 4 (assigned v 3 1) (f ∷ callers) globals ins) 2 0 (refl, refl, (refl, refl, (refl, refl, tt))) (last_counts (operation_of p g) _ _ helper_is_plain);
  }
  helper_ends false v f callers globals ins = record {
    value = v 0;
    arrives = arrives_within 3 2 0 (omega arith) refl refl
        (runs_in p inputs g (helper name constant) is 2 (standing g 0 4 (assigned v 3 0) (f ∷ callers) globals ins) 2 0 (refl, refl, (refl, refl, tt)) (last_counts (operation_of p g) _ _ helper_is_plain));
  }

  -- from its entry, with any argument
  pub helper_returns : (v : ℕ → ℕ) (f : Frame) (callers : List Frame) (globals : Values) (ins : List ℤ)
      → ReturnsTo p inputs (standing g 0 0 v (f ∷ callers) globals ins) f callers globals ins 7
  helper_returns v f callers globals ins =
      let sum : ℕ = wrap (v 0 + number constant) in
      let m : ℕ = globals 0 0 in
      let w : ℕ → ℕ = assigned (assigned (assigned v 1 (number constant)) 0 sum) 2 m in
      let b : Bool = int_lt (signed m) (signed sum) in
      let four : Arrives p inputs (standing g 0 0 v (f ∷ callers) globals ins) (standing g 0 4 (assigned w 3 (truth b)) (f ∷ callers) globals ins) 4 0 0
      = runs_in p inputs g (helper name constant) is 4 (standing g 0 0 v (f ∷ callers) globals ins) 0 0 (refl, refl, (refl, refl, (refl, refl, (refl, refl, tt)))) (load_counts (cell_number p 0 0) m) in
      let rest = helper_ends b w f callers globals ins in
      record { value = rest.value; arrives = arrives_on four rest.arrives }
