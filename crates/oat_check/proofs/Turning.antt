-- What is active, where a function is called and where it returns.
use Rattle.std.proofs.Common.{length, ◌≡◌, ℕ, List, [], ◌∷◌, ◌++◌, inl, inr, Option, option_map, Some, None, refl, sym, ap, subst, ◌∙◌}
use Rattle.std.specs.{Prelude.slice_get, Option.option_and_then}
use Rattle.oat_events.specs.{Cells.Cells, Events.Active, Events.Passes, Events.SourceEvent, Events.Stacks, Events.enters, Events.leaves, Events.takes, Turn, Turned, pushes, stays}
use Rattle.oat_ir.specs.{declared.program.Program.Program, declared.func.Func.Func, declared.func.Role.Role, declared.func.Role.TheVariants.Plain, declared.func.Role.TheVariants.Operation}
use Rattle.oat_ir.specs.{declared.func.Role.TheVariants.Main}
use Rattle.oat_check.specs.{Active.active_in, Active.line_turn, Active.with_call, Keeping.AreCallers, Keeping.MayCall, Keeping.OperationsAreLow, Keeping.role_at, Steps.Frame, Steps.LineEdge}
use Rattle.oat_check.specs.{Steps.LinePlace, Steps.line_place, Steps.operation_number, Steps.operation_of, Steps.returns, Steps.shows}

abbrev pub op_of : Option (Active LinePlace) → Option ℕ
op_of a = option_map (λ active. active.op) a

abbrev begun : ℕ → Active LinePlace
begun op = record { op = op; calls = [] }

-- ---- roles

pub operation_at : (p : Program) (g : ℕ) (role : Role) → role_at p g ≡ Some role → operation_of p g ≡ operation_number role
operation_at p g role h = by (slice_get p.funcs g) h where
  by : (o : Option Func) → option_map (λ f. f.role) o ≡ Some role → option_and_then (λ func. operation_number func.role) o ≡ operation_number role
  by None e = absurd (cc)
  by (Some f) e = let k : f.role ≡ role = cc in ap operation_number k

-- main is the lowest
pub main_lowest : (p : Program) (func : ℕ) (g : Frame) (gs : List Frame) → AreCallers p func (g ∷ gs) → role_at p func ≡ Some Main → ⊥
main_lowest p func g gs h main = elim h.0 as (λ _. ⊥) [
  | inl plain ↦ let k : Some Main ≡ Some Plain = sym main ∙ plain in cc
  | inr op ↦ other op.1 op.2
] where
  other : (op : ℕ) → role_at p func ≡ Some (Operation op) → ⊥
  other op e = let k : Some Main ≡ Some (Operation op) = sym main ∙ e in cc

-- above a frame that has a caller there is no operation
not_operation : (p : Program) (func : ℕ) (g h : Frame) (hs : List Frame) → MayCall p g.func func → AreCallers p g.func (h ∷ hs) → operation_of p func ≡ None
not_operation p func g h hs may above = elim may as (λ _. operation_of p func ≡ None) [
  | inl plain ↦ operation_at p func Plain plain
  | inr op ↦ absurd (main_lowest p g.func h hs above op.0)
]

-- what the events of a step have to keep
pub record Turns (before : Option (Active LinePlace)) (cells : Cells) (shown : List (SourceEvent LineEdge)) (later : Option (Active LinePlace)) : Type 0 where
  pub passes : Passes (op_of before) cells shown (op_of later) cells
  pub stacks : Stacks line_turn before shown later

-- ---- an edge within a function

pub stay_turns : (a : Option (Active LinePlace)) (cells : Cells) (edge : LineEdge) → line_turn edge ≡ stays → Turns a cells (takes edge ∷ []) a
stay_turns None cells edge is = record { passes = (refl, refl); stacks = refl }
stay_turns (Some active) cells edge is = record {
  passes = (refl, refl);
  stacks = subst (λ (t : Turn LinePlace). Turned active.calls t (λ calls. Some (record { op = active.op; calls = calls }) ≡ Some active)) (sym is) refl;
}

-- ---- a call

low_call : (o : Option ℕ) (cells : Cells) (edge : LineEdge) → Turns None cells (takes edge ∷ shows o enters) (option_map begun o)
low_call None cells edge = record { passes = (refl, refl); stacks = refl }
low_call (Some op) cells edge = record { passes = (refl, (refl, refl)); stacks = (refl, refl) }

high_call : (a : Option (Active LinePlace)) (cells : Cells) (edge : LineEdge) (back : LinePlace) → line_turn edge ≡ pushes back → Turns a cells (takes edge ∷ []) (option_map (with_call back) a)
high_call None cells edge back is = record { passes = (refl, refl); stacks = refl }
high_call (Some active) cells edge back is = record {
  passes = (refl, refl);
  stacks = subst (λ (t : Turn LinePlace). Turned active.calls t (λ calls. Some (record { op = active.op; calls = calls }) ≡ Some (with_call back active))) (sym is) refl;
}

pub call_turns : (p : Program) (f : Frame) (callers : List Frame) (g : ℕ) (cells : Cells) (edge : LineEdge) → line_turn edge ≡ pushes (line_place f) → MayCall p f.func g → AreCallers p f.func callers
    → Turns (active_in p f.func callers) cells (takes edge ∷ shows (operation_of p g) enters) (active_in p g (f ∷ callers))
call_turns p f [] g cells edge is may h = low_call (operation_of p g) cells edge
call_turns p f (c ∷ cs) g cells edge is may h =
    subst (λ (o : Option ℕ). Turns (active_in p f.func (c ∷ cs)) cells (takes edge ∷ shows o enters) (active_in p g (f ∷ c ∷ cs))) (sym (not_operation p g f c cs may h))
    (high_call (active_in p f.func (c ∷ cs)) cells edge (line_place f) is)

-- ---- a return

low_return : (o : Option ℕ) (cells : Cells) (from back : LinePlace) → Turns (option_map begun o) cells (shows o leaves ++ takes (returns from back) ∷ []) None
low_return None cells from back = record { passes = (refl, refl); stacks = refl }
low_return (Some op) cells from back = record { passes = (refl, (refl, refl)); stacks = (refl, refl) }

high_return : (a : Option (Active LinePlace)) (cells : Cells) (from back : LinePlace) → Turns (option_map (with_call back) a) cells (takes (returns from back) ∷ []) a
high_return None cells from back = record { passes = (refl, refl); stacks = refl }
high_return (Some active) cells from back = record { passes = (refl, refl); stacks = (active.calls, refl, refl) }

pub return_turns : (p : Program) (f g : Frame) (gs : List Frame) (cells : Cells) → AreCallers p f.func (g ∷ gs)
    → Turns (active_in p f.func (g ∷ gs)) cells (shows (operation_of p f.func) leaves ++ takes (returns (line_place f) (line_place g)) ∷ []) (active_in p g.func gs)
return_turns p f g [] cells h = low_return (operation_of p f.func) cells (line_place f) (line_place g)
return_turns p f g (c ∷ cs) cells h =
    subst (λ (o : Option ℕ). Turns (active_in p f.func (g ∷ c ∷ cs)) cells (shows o leaves ++ takes (returns (line_place f) (line_place g)) ∷ []) (active_in p g.func (c ∷ cs))) (sym (not_operation p f.func g c cs h.0 h.2))
    (high_return (active_in p g.func (c ∷ cs)) cells (line_place f) (line_place g))

-- ---- where operations are

pub operations_are_low : OperationsAreLow
operations_are_low p func [] h = (λ op is. absurd (let k : Some Main ≡ Some (Operation op) = sym h ∙ is in cc), λ is. refl)
operations_are_low p func (g ∷ gs) h = (λ op is. low op is h.0, λ is. absurd (main_lowest p func g gs h is)) where
  alone : (cs : List Frame) → AreCallers p g.func cs → role_at p g.func ≡ Some Main → length (g ∷ cs) ≡ 1
  alone [] k main = refl
  alone (c ∷ cs) k main = absurd (main_lowest p g.func c cs k main)

  low : (op : ℕ) → role_at p func ≡ Some (Operation op) → MayCall p g.func func → length (g ∷ gs) ≡ 1
  low op is (inl plain) = absurd (let k : Some Plain ≡ Some (Operation op) = sym plain ∙ is in cc)
  low op is (inr called) = alone gs h.2 called.0
