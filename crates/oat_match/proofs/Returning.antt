-- The source's step at a return: to the line behind the call of the frame that waits.
use Rattle.std.proofs.Common.{◌≡◌, ◌+◌, ◌*◌, ◌&&◌, ◌++◌, ℕ, true, List, [], ◌∷◌, length, map, Option, option_map, Some, None, refl, sym, ap, subst, ◌∙◌, arith}
use Rattle.std.specs.{Prelude.slice_get, Option.option_and_then}
use Rattle.std.proofs.lemmas.Bool.{and_parts, both_ways}
use Rattle.oat_ir.specs.declared.instr.Term.TheVariants.{Ret}
use Rattle.oat_check.proofs.{Checking.instr_allowed, Frames.instr_is, Frames.line_is}
use Rattle.oat_globals.specs.{Program, Func, Role, Main, Instr, Binary, Call, Const, Copy, ICall, Input, Load, LoadX, Output, RefTo, Store, StoreX, leaves, takes, Running, AreCallers, IsCaller}
use Rattle.oat_globals.specs.{instruction, is_calling, terminator, IsAllowed, IsChecked, has_types, hold_numbers, holds_number, is_main, is_main_role, refers_with, Frame, LineEdge, SourceState}
use Rattle.oat_globals.specs.{closes, current_line, gives, line_place, operation_number, operation_of, result_at, returns, shows, moves, seen_at, CodeStands, StepsTo, with_result, IsAt, World}
use Rattle.oat_globals.specs.{home_in, line_address, return_address, IsNumberLocal, IsReturnOf, return_edge, Operations.end_shown, Operations.leave_code, Operations.role_words}
use Rattle.oat_globals.proofs.GlobalLaws.{operation_returns_lead}
use Rattle.oat_match.specs.{Compiled.IsCompiled, Compiled.call_result, Matching.GoesAlike, Matching.StepIsMatched, Matching.words_held, Placed.placement}
use Rattle.oat_match.proofs.{Landing.steps, Leaves.calls_slotted, Operands.number_local, Placing.short_number}
use Rattle.oat_globals.specs.edges as edges

-- the local that a caller's result goes into
record Result (p : Program) (func : Func) (i : Instr) : Type 0 where
  pub to : ℕ
  pub given : call_result (Some (instruction i)) ≡ Some to
  pub also : result_at (Some (instruction i)) ≡ to
  pub number : holds_number func to ≡ true

result_of_call : (p : Program) (func : Func) (i : Instr) → is_calling i ≡ true → has_types p func (instruction i) ≡ true → Result p func i
result_of_call p func (Call x g args) h k = record { to = x; given = refl; also = refl; number = (and_parts (holds_number func x) _ k).0 }
result_of_call p func (ICall x y args) h k = record {
  to = x;
  given = refl;
  also = refl;
  number = (and_parts (holds_number func x) (refers_with func y _) (and_parts (holds_number func x && refers_with func y _) (hold_numbers func args) k).0).0;
}
result_of_call p func (RefTo x f) h k = absurd (cc)
result_of_call p func (Const x v) h k = absurd (cc)
result_of_call p func (Copy x y) h k = absurd (cc)
result_of_call p func (Binary op x y z) h k = absurd (cc)
result_of_call p func (Load x a) h k = absurd (cc)
result_of_call p func (Store a x) h k = absurd (cc)
result_of_call p func (LoadX x a i) h k = absurd (cc)
result_of_call p func (StoreX a i x) h k = absurd (cc)
result_of_call p func (Input x) h k = absurd (cc)
result_of_call p func (Output x) h k = absurd (cc)

module _ (p : Program) (ok : IsChecked p) (w : World) (c : IsCompiled p w) (s : SourceState) (m : Running) (going : s.end ≡ None) (r : GoesAlike p w s m)
    (func : Func) (is : slice_get p.funcs s.frame.func ≡ Some func) where
  seen_end : (op : Option ℕ) (e : LineEdge) → map (seen_at (placement p w)) (shows op leaves ++ takes e ∷ []) ≡ end_shown op ++ moves ((placement p w).edge e) ∷ []
  seen_end None e = refl
  seen_end (Some op) e = refl

  gives_matched : (x : ℕ) → holds_number func x ≡ true → CodeStands w (line_address w s.frame) (leave_code (length func.locals) (home_in w s.frame x) (operation_number func.role))
      → (callers : List Frame) → s.callers ≡ callers → AreCallers p s.frame.func callers → (callers ≡ [] → ⊥) → StepIsMatched p w (gives p s (s.frame.locals x) callers) m
  gives_matched x typed code [] same are some = absurd (some refl)
  gives_matched x typed code (g ∷ gs) same are some =
      steps p w s m going r (gives p s (s.frame.locals x) (g ∷ gs)) (end_shown op ++ return_edge w g (line_address w s.frame + 4 * role_words op) ∷ []) 9 (omega arith) going refl shown
      (subst (λ (n : ℕ). StepsTo w 9 (with_result g n (s.frame.locals x)) gs (words_held p s.globals) (end_shown op ++ return_edge w g (line_address w s.frame + 4 * role_words op) ∷ []) m) (sym also)
      (operation_returns_lead w c.world s.frame g gs (words_held p s.globals) x result.to op m
      (subst (λ (cs : List Frame). IsAt w s.frame cs (words_held p s.globals) m) same r.is_at) here (short_number p ok s.frame.func func is) this)) where
        op : Option ℕ
        op = operation_number func.role

        waits : IsCaller p g
        waits = are.1

        allowed : IsAllowed p waits.stands.func (instruction waits.instr)
        allowed = instr_allowed p ok g.func waits.stands.func waits.stands.func_is g.block waits.stands.block waits.stands.block_is g.line waits.instr waits.is

        result : Result p waits.stands.func waits.instr
        result = result_of_call p waits.stands.func waits.instr waits.calling allowed.typed

        line : current_line p g ≡ Some (instruction waits.instr)
        line = line_is p g waits.stands ∙ instr_is waits.stands.block g.line waits.instr waits.is

        also : result_at (current_line p g) ≡ result.to
        also = ap result_at line ∙ result.also

        to : IsNumberLocal w g result.to
        to = number_local p ok w c.data_of g waits.stands.func waits.stands.func_is result.to result.number

        from : IsNumberLocal w s.frame x
        from = number_local p ok w c.data_of s.frame func is x typed

        here : CodeStands w (line_address w s.frame) (leave_code (w.locals s.frame.func) (home_in w s.frame x) op)
        here = subst (λ (n : ℕ). CodeStands w (line_address w s.frame) (leave_code n (home_in w s.frame x) op)) (sym (c.data_of.locals s.frame.func func is)) code

        this : IsReturnOf w s.frame g x result.to
        this = record {
          from_local = from.local;
          result = c.data_of.results g ∙ ap call_result line ∙ result.given;
          caller_slots = calls_slotted p w c.data_of g waits.instr line waits.calling;
          to_local = to.local;
          types = from.ty ∙ sym to.ty;
        }

        role : operation_of p s.frame.func ≡ op
        role = ap (option_and_then (λ func. operation_number func.role)) is

        e : LineEdge
        e = returns (line_place s.frame) (line_place g)

        shown : map (seen_at (placement p w)) (shows (operation_of p s.frame.func) leaves ++ takes e ∷ []) ≡ end_shown op ++ return_edge w g (line_address w s.frame + 4 * role_words op) ∷ []
        shown =
            seen_end (operation_of p s.frame.func) e
            ∙ ap (λ (o : Option ℕ). end_shown o ++ moves (edges.Ret (line_address w s.frame + 4 * role_words o + 12) (return_address w g)) ∷ []) role

  pub return_matched : (x : ℕ) → IsAllowed p func (terminator (Ret x)) → AreCallers p s.frame.func s.callers → CodeStands w (line_address w s.frame) (leave_code (length func.locals) (home_in w s.frame x) (operation_number func.role))
      → StepIsMatched p w (closes p s s.frame.locals (Ret x)) m
  return_matched x al are code = gives_matched x al.typed code s.callers refl are (λ none. left none (subst (λ (cs : List Frame). AreCallers p s.frame.func cs) none are)) where
    -- main doesn't return
    left : s.callers ≡ [] → AreCallers p s.frame.func [] → ⊥
    left none main =
        let role : Some func.role ≡ Some Main = sym (ap (option_map (λ f. f.role)) is) ∙ main in
        both_ways (is_main func) al.stays (ap is_main_role (same_role func.role Main role)) where
          same_role : (a b : Role) → Some a ≡ Some b → a ≡ b
          same_role a b h = cc
