-- The edges that a source step takes are those of the program's lines.
use Rattle.std.proofs.Common.{◌≡◌, ◌-◌, ◌≤◌, ℕ, ℤ, Bool, true, false, cond, eqb, leb, ltb, ◌&&◌, ◌++◌, List, [], ◌∷◌, length, inl, inr, Option, Some, None, is_some, refl, sym, subst, ◌∙◌, arith}
use Rattle.std.specs.Prelude.{slice_get}
use Rattle.std.proofs.lemmas.{Bool.and_parts, Bool.cases_lt, Bool.eqb-false, Option.slice_get_within}
use Rattle.oat_ir.specs.declared.instr.Term.TheVariants.{Branch, Jump, Ret}
use Rattle.oat_check.proofs.{Checking.has_ty, Checking.instr_allowed, Frames.There, Frames.instr_is, Frames.line_is, Frames.term_is, Frames.there}
use Rattle.oat_globals.specs.{Depth, Index, NullCall, Program, Fn, Instr, Binary, Call, Const, Copy, ICall, Input, Load, LoadX, Output, RefTo, Store, StoreX, Term, Halt, enters, leaves, takes}
use Rattle.oat_globals.specs.{cell_number, length_at, AreCallers, IsCaller, IsConsistent, CodeLine, instruction, terminator, result_of, IsAllowed, IsChecked, hold_numbers, holds_number, local_ty}
use Rattle.oat_globals.specs.{refers_with, Frame, LineEdge, Next, SourceState, at_line, branches, calls, closes, computes, current_line, does, entered, gives, goes_to, icalls, line_place}
use Rattle.oat_globals.specs.{operation_of, reads, returns, runs, shows, silent, takes_in, traps_by, writes}
use Rattle.oat_locals.specs.{loads, stores}
use Rattle.oat_match.specs.{Following.StepsTakeEdges, Following.TakesEdgesOf, Placed.IsLineEdge}

module _ (p : Program) where
  entering : (o : Option ℕ) → TakesEdgesOf p (shows o enters)
  entering None = tt
  entering (Some op) = tt

  leaving : (o : Option ℕ) (e : LineEdge) → IsLineEdge p e → TakesEdgesOf p (shows o leaves ++ takes e ∷ [])
  leaving None e h = (h, tt)
  leaving (Some op) e h = (h, tt)

  loading : (o : Option ℕ) (value : ℕ) → TakesEdgesOf p (shows o (λ cell. loads cell value))
  loading None value = tt
  loading (Some cell) value = tt

  storing : (o : Option ℕ) (value : ℕ) → TakesEdgesOf p (shows o (λ cell. stores cell value))
  storing None value = tt
  storing (Some cell) value = tt

  within : (t : Bool) (next other : Next) → TakesEdgesOf p next.shown → TakesEdgesOf p other.shown → TakesEdgesOf p (cond t next other).shown
  within true next other h k = h
  within false next other h k = k

  computing : (s : SourceState) (x : ℕ) (o : Option ℕ) → TakesEdgesOf p (computes s x o).shown
  computing s x None = tt
  computing s x (Some value) = tt

  taking : (s : SourceState) (x : ℕ) (inputs : List ℤ) → TakesEdgesOf p (takes_in s x inputs).shown
  taking s x [] = tt
  taking s x (value ∷ rest) = tt

  running : (s : SourceState) (edge : LineEdge) (g : ℕ) (args : List ℕ) → IsLineEdge p edge → TakesEdgesOf p (runs p s edge g args).shown
  running s edge g args h = within (leb 256 (length s.callers)) (traps_by s Depth) (record { state = entered s g args; shown = takes edge ∷ shows (operation_of p g) enters }) tt (h, entering (operation_of p g))

  module _ (ok : IsChecked p) (s : SourceState) (g : IsConsistent p s) where
    giving : (from value : ℕ) → current_line p s.frame ≡ Some (terminator (Ret from)) → (callers : List Frame) → AreCallers p s.frame.func callers → TakesEdgesOf p (gives p s value callers).shown
    giving from value here [] are = tt
    giving from value here (c ∷ cs) are =
        let waits : IsCaller p c = are.1 in
        let line : current_line p c ≡ Some (instruction waits.instr) = line_is p c waits.stands ∙ instr_is waits.stands.block c.line waits.instr waits.is in
        leaving (operation_of p s.frame.func) (returns (line_place s.frame) (line_place c)) (from, here, waits.instr, line, waits.calling)

    calling : (x y : ℕ) (args : List ℕ) → current_line p s.frame ≡ Some (instruction (ICall x y args)) → local_ty g.stands.func y ≡ Some (Fn (length args))
        → (t : Bool) → eqb (s.frame.locals y) 0 ≡ t → TakesEdgesOf p (cond t (traps_by s NullCall) (runs p s (icalls (line_place s.frame) (s.frame.locals y - 1)) (s.frame.locals y - 1) args)).shown
    calling x y args here ty true is = tt
    calling x y args here ty false is =
        running s (icalls (line_place s.frame) (s.frame.locals y - 1)) (s.frame.locals y - 1) args (elim (g.stands.locals y (Fn (length args)) ty) [
          | inl null ↦ absurd (eqb-false (s.frame.locals y) 0 is null)
          | inr t ↦ (slice_get_within p.funcs (s.frame.locals y - 1) t.callee t.is, x, y, args, here)
        ])

    by_instruction : (i : Instr) → current_line p s.frame ≡ Some (instruction i) → IsAllowed p g.stands.func (instruction i) → TakesEdgesOf p (does p s s.frame.locals i).shown
    by_instruction (Const x value) here al = tt
    by_instruction (Copy x y) here al = tt
    by_instruction (Binary op x y z) here al = computing s x (result_of op (s.frame.locals y) (s.frame.locals z))
    by_instruction (Load x a) here al = loading (cell_number p a 0) (s.globals a 0)
    by_instruction (Store a x) here al = storing (cell_number p a 0) (s.frame.locals x)
    by_instruction (LoadX x a i) here al =
        within (ltb (s.frame.locals i) (length_at p a)) (reads p s x a (s.frame.locals i)) (traps_by s Index) (loading (cell_number p a (s.frame.locals i)) (s.globals a (s.frame.locals i))) tt
    by_instruction (StoreX a i x) here al =
        within (ltb (s.frame.locals i) (length_at p a)) (writes p s a (s.frame.locals i) (s.frame.locals x)) (traps_by s Index) (storing (cell_number p a (s.frame.locals i)) (s.frame.locals x)) tt
    by_instruction (RefTo x f) here al = tt
    by_instruction (Call x f args) here al = running s (calls (line_place s.frame) f) f args (x, args, here)
    by_instruction (ICall x y args) here al =
        let both = and_parts (holds_number g.stands.func x && refers_with g.stands.func y (length args)) (hold_numbers g.stands.func args) al.typed in
        let ty = has_ty (local_ty g.stands.func y) (Fn (length args)) (and_parts (holds_number g.stands.func x) (refers_with g.stands.func y (length args)) both.0).1 in
        calling x y args here ty (eqb (s.frame.locals y) 0) refl
    by_instruction (Input x) here al = taking s x s.inputs
    by_instruction (Output x) here al = tt

    by_terminator : (t : Term) → current_line p s.frame ≡ Some (terminator t) → TakesEdgesOf p (closes p s s.frame.locals t).shown
    by_terminator (Jump to) here = (here, tt)
    by_terminator (Branch x first second) here =
        within (eqb (s.frame.locals x) 0) (goes_to s (branches (line_place s.frame) false second) second) (goes_to s (branches (line_place s.frame) true first) first)
        ((x, first, here), tt) ((x, second, here), tt)
    by_terminator (Ret x) here = giving x (s.frame.locals x) here s.callers g.callers
    by_terminator Halt here = tt

    at_instruction : (i : Instr) → slice_get g.stands.block.instrs s.frame.line ≡ Some i → TakesEdgesOf p (at_line p s (current_line p s.frame)).shown
    at_instruction i is =
        let here : current_line p s.frame ≡ Some (instruction i) = line_is p s.frame g.stands ∙ instr_is g.stands.block s.frame.line i is in
        subst (λ (o : Option CodeLine). TakesEdgesOf p (at_line p s o).shown) (sym here)
        (by_instruction i here (instr_allowed p ok s.frame.func g.stands.func g.stands.func_is s.frame.block g.stands.block g.stands.block_is s.frame.line i is))

    at_terminator : s.frame.line ≡ length g.stands.block.instrs → TakesEdgesOf p (at_line p s (current_line p s.frame)).shown
    at_terminator is =
        let here : current_line p s.frame ≡ Some (terminator g.stands.block.term) = line_is p s.frame g.stands ∙ term_is g.stands.block s.frame.line is in
        subst (λ (o : Option CodeLine). TakesEdgesOf p (at_line p s o).shown) (sym here) (by_terminator g.stands.block.term here)

    at_step : TakesEdgesOf p (at_line p s (current_line p s.frame)).shown
    at_step = elim (cases_lt s.frame.line (length g.stands.block.instrs)) as (λ _. TakesEdgesOf p (at_line p s (current_line p s.frame)).shown) [
      | inl less ↦ let t : There g.stands.block.instrs s.frame.line = there g.stands.block.instrs s.frame.line less in at_instruction t.item t.is
      | inr more ↦ let l : s.frame.line ≤ length g.stands.block.instrs = g.stands.inside in at_terminator (omega arith)
    ]

pub steps_take_edges : StepsTakeEdges
steps_take_edges p ok s g = within p (is_some s.end) (silent s) (at_line p s (current_line p s.frame)) tt (at_step p ok s g)
