-- Each source step of a compiled program is matched: one row for each line.
use Rattle.std.proofs.Common.{◌≡◌, ◌<◌, ◌≤◌, ℕ, cond, length, ◌&&◌, inl, inr, Option, Some, None, is_some, sym, ap, subst, ◌∙◌, arith}
use Rattle.std.specs.Prelude.{slice_get}
use Rattle.std.proofs.lemmas.Bool.{cases_lt, and_parts}
use Rattle.oat_ir.specs.declared.instr.Term.TheVariants.{Branch, Jump, Ret}
use Rattle.oat_check.proofs.{Checking.each_at, Checking.func_formed, Checking.has_ty, Checking.instr_allowed, Checking.term_allowed, Checking.term_formed, Frames.There, Frames.instr_is}
use Rattle.oat_check.proofs.{Frames.line_is, Frames.term_is, Frames.there}
use Rattle.oat_globals.specs.{Program, Fn, Instr, Binary, Call, Const, Copy, ICall, Input, Load, LoadX, Output, RefTo, Store, StoreX, Term, Halt, IsInstr, IsTerm, IsBlockIr, Finish, Running}
use Rattle.oat_globals.specs.{IsConsistent, CodeLine, instruction, terminator, IsAllowed, ElementsAreNumbered, IsChecked, hold_numbers, holds_number, local_ty, refers_with, SourceState, at_line}
use Rattle.oat_globals.specs.{closes, current_line, does, silent, source_step, World, IsLineAt}
use Rattle.oat_locals.specs.Terminators.{BlockBegins}
use Rattle.oat_symbols.specs.Programs.{label_of_block}
use Rattle.oat_match.specs.{Code.instruction_items, Code.terminator_items, Compiled.IsCompiled, Matching.GoesAlike, Matching.IsAlike, Matching.StepIsMatched, Matching.StepsAreMatched}
use Rattle.oat_match.proofs.{Calling.call_matched, Calling.icall_matched, GlobalLines.load_matched, GlobalLines.loadx_matched, GlobalLines.ref_matched, GlobalLines.store_matched}
use Rattle.oat_match.proofs.{GlobalLines.storex_matched, LocalLines.binary_matched, LocalLines.branch_matched, LocalLines.const_matched, LocalLines.copy_matched, LocalLines.halt_matched}
use Rattle.oat_match.proofs.{LocalLines.input_matched, LocalLines.jump_matched, LocalLines.output_matched, Placing.block_begins, Placing.lines_are_placed, Returning.return_matched}
use Rattle.oat_match.proofs.{Targets.referenced_here}

module _ (numbered : ElementsAreNumbered) (p : Program) (ok : IsChecked p) (w : World) (c : IsCompiled p w) (s : SourceState) (m : Running) (going : s.end ≡ None) (r : GoesAlike p w s m) (g : IsConsistent p s) where
  by_instruction : (i : Instr) → slice_get g.stands.block.instrs s.frame.line ≡ Some i → current_line p s.frame ≡ Some (instruction i) → IsInstr p g.stands.func i → IsAllowed p g.stands.func (instruction i)
      → IsLineAt w s.frame (instruction_items p (w.is_leaf s.frame.func) i) → StepIsMatched p w (does p s s.frame.locals i) m
  by_instruction (Const x value) at here formed al line = const_matched p ok w c s m going r g.stands.func g.stands.func_is x value al.typed line
  by_instruction (Copy x y) at here formed al line = copy_matched p ok w c s m going r g.stands.func g.stands.func_is x y al.typed line
  by_instruction (Binary op x y z) at here formed al line = binary_matched p ok w c s m going r g.stands.func g.stands.func_is op x y z al.typed line
  by_instruction (Load x a) at here formed al line = load_matched numbered p ok w c s m going r g.stands.func g.stands.func_is x a al.typed line
  by_instruction (Store a x) at here formed al line = store_matched numbered p ok w c s m going r g.stands.func g.stands.func_is a x al.typed line
  by_instruction (LoadX x a i) at here formed al line = loadx_matched numbered p ok w c s m going r g.stands.func g.stands.func_is x a i al.typed line
  by_instruction (StoreX a i x) at here formed al line = storex_matched numbered p ok w c s m going r g.stands.func g.stands.func_is a i x al.typed line
  by_instruction (RefTo x f) at here formed al line =
      ref_matched numbered p ok w c s m going r g.stands.func g.stands.func_is x f al.typed
      (referenced_here p s.frame.func g.stands.func g.stands.func_is s.frame.block g.stands.block g.stands.block_is s.frame.line x f at) line
  by_instruction (Call x f args) at here formed al line = call_matched p ok w c s m going r g.few g.stands.func g.stands.func_is x f args formed al here line
  by_instruction (ICall x y args) at here formed al line =
      let both = and_parts (holds_number g.stands.func x && refers_with g.stands.func y (length args)) (hold_numbers g.stands.func args) al.typed in
      let ty = has_ty (local_ty g.stands.func y) (Fn (length args)) (and_parts (holds_number g.stands.func x) (refers_with g.stands.func y (length args)) both.0).1 in
      icall_matched p ok w c s m going r g.few g.stands.func g.stands.func_is x y args formed al here (g.stands.locals y (Fn (length args)) ty) line
  by_instruction (Input x) at here formed al line = input_matched p ok w c s m going r g.stands.func g.stands.func_is x al.typed line
  by_instruction (Output x) at here formed al line = output_matched p ok w c s m going r g.stands.func g.stands.func_is x al.typed line

  begins : (b : ℕ) → b < length g.stands.func.blocks → BlockBegins w s.frame b (label_of_block p s.frame.func b)
  begins b l = let t : There g.stands.func.blocks b = there g.stands.func.blocks b l in block_begins p ok w c s.frame.func b g.stands.func t.item g.stands.func_is t.is

  by_terminator : (t : Term) → IsTerm g.stands.func t → IsAllowed p g.stands.func (terminator t) → IsLineAt w s.frame (terminator_items p s.frame.func g.stands.func (w.is_leaf s.frame.func) t)
      → StepIsMatched p w (closes p s s.frame.locals t) m
  by_terminator (Jump to) formed al line = jump_matched p ok w c s m going r g.stands.func g.stands.func_is to (begins to formed) line.code
  by_terminator (Branch x first second) formed al line =
      branch_matched p ok w c s m going r g.stands.func g.stands.func_is x first second al.typed (begins first formed.1) (begins second formed.2) line.code
  by_terminator (Ret x) formed al line = return_matched p ok w c s m going r g.stands.func g.stands.func_is x al g.callers line.code
  by_terminator Halt formed al line = halt_matched p ok w c s m going r g.stands.func g.stands.func_is line.code

  at_instruction : (i : Instr) → slice_get g.stands.block.instrs s.frame.line ≡ Some i → StepIsMatched p w (at_line p s (current_line p s.frame)) m
  at_instruction i is =
      let here : current_line p s.frame ≡ Some (instruction i) = line_is p s.frame g.stands ∙ instr_is g.stands.block s.frame.line i is in
      let block : IsBlockIr p g.stands.func g.stands.block = each_at (IsBlockIr p g.stands.func) g.stands.func.blocks s.frame.block g.stands.block (func_formed p ok s.frame.func g.stands.func g.stands.func_is).blocks g.stands.block_is in
      subst (λ (o : Option CodeLine). StepIsMatched p w (at_line p s o) m) (sym here)
      (by_instruction i is here (each_at (IsInstr p g.stands.func) g.stands.block.instrs s.frame.line i block.0 is)
      (instr_allowed p ok s.frame.func g.stands.func g.stands.func_is s.frame.block g.stands.block g.stands.block_is s.frame.line i is)
      (lines_are_placed p w c s.frame g.stands.func g.stands.block (instruction i) g.stands.func_is g.stands.block_is (instr_is g.stands.block s.frame.line i is)))

  at_terminator : s.frame.line ≡ length g.stands.block.instrs → StepIsMatched p w (at_line p s (current_line p s.frame)) m
  at_terminator is =
      subst (λ (o : Option CodeLine). StepIsMatched p w (at_line p s o) m) (sym (line_is p s.frame g.stands ∙ term_is g.stands.block s.frame.line is))
      (by_terminator g.stands.block.term (term_formed p ok s.frame.func g.stands.func g.stands.func_is s.frame.block g.stands.block g.stands.block_is)
      (term_allowed p ok s.frame.func g.stands.func g.stands.func_is s.frame.block g.stands.block g.stands.block_is)
      (lines_are_placed p w c s.frame g.stands.func g.stands.block (terminator g.stands.block.term) g.stands.func_is g.stands.block_is (term_is g.stands.block s.frame.line is)))

  step_matched : StepIsMatched p w (at_line p s (current_line p s.frame)) m
  step_matched = elim (cases_lt s.frame.line (length g.stands.block.instrs)) as (λ _. StepIsMatched p w (at_line p s (current_line p s.frame)) m) [
    | inl less ↦ let t : There g.stands.block.instrs s.frame.line = there g.stands.block.instrs s.frame.line less in at_instruction t.item t.is
    | inr more ↦ let l : s.frame.line ≤ length g.stands.block.instrs = g.stands.inside in at_terminator (omega arith)
  ]

pub steps_are_matched : ElementsAreNumbered → StepsAreMatched
steps_are_matched numbered p ok w c s m r going =
    let goes : source_step p s ≡ at_line p s (current_line p s.frame) = ap (λ (e : Option Finish). cond (is_some e) (silent s) (at_line p s (current_line p s.frame))) going in
    let alike : GoesAlike p w s m = subst (λ (e : Option Finish). IsAlike p w e s m) going r.alike in
    subst (λ next. StepIsMatched p w next m) (sym goes) (step_matched numbered p ok w c s m going alike r.consistent)
