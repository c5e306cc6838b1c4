-- The source's step at a call and at an indirect call.
use Rattle.std.proofs.Common.{◌≡◌, ◌+◌, ◌*◌, ◌-◌, ◌<◌, ◌≤◌, ◌&&◌, inl, inr, ℕ, zero, suc, Bool, true, false, cond, not, eqb, List, [], ◌∷◌, length, map, get_or, Option, option_map, Some, None, refl}
use Rattle.std.proofs.Common.{sym, ap, subst, ◌∙◌, arith, eqb-true}
use Rattle.std.specs.{Prelude.slice_get, Option.option_and_then, List.list_any}
use Rattle.std.proofs.lemmas.Bool.{and_parts, cases_lt, le-leb, lt-leb, not-false, eqb-false}
use Rattle.oat_check.proofs.{Checking.func_formed, Checking.has_ty, Frames.There, Frames.there}
use Rattle.oat_frames.proofs.FrameLaws.{deep-calls-trap, indirect-calls-lead, null-calls-trap}
use Rattle.oat_globals.specs.{is_called_at, Depth, NullCall, Program, Func, I64, Fn, Call, ICall, IsInstr, IsFunc, enters, takes, trapped, Running, IsValue, is_referenced, instruction, IsAllowed}
use Rattle.oat_globals.specs.{IsChecked, are_as, hold_numbers, holds_number, is_func, local_ty, parameters, refers_with, takes_numbers, LineEdge, SourceState, calls, current_line, does, entered}
use Rattle.oat_globals.specs.{icalls, line_place, operation_number, operation_of, runs, shows, traps_by, MachineEvent, monitors, moves, seen_at, CallSite, IsCallAt, IsIndirectCallAt, IsReferencedAt}
use Rattle.oat_globals.specs.{call_edge, prologue_end, call_code, icall_code, World, line_address, IsLineAt, Operations.begin_shown, Operations.role_words}
use Rattle.oat_globals.proofs.GlobalLaws.{operation_calls_lead}
use Rattle.oat_match.specs.{Compiled.FunctionBegins, Compiled.IsCompiled, Compiled.call_result, Matching.GoesAlike, Matching.StepIsMatched, Matching.words_held, Placed.call_arguments}
use Rattle.oat_match.specs.{Placed.placement}
use Rattle.oat_match.proofs.{DeepCalls.deep_indirect_calls_trap, Landing.ends, Landing.steps, Operands.local_inside, Operands.number_local, CallCode.call_words, CallCode.icall_words, Finding.Found}
use Rattle.oat_match.proofs.{Finding.failed, Finding.found, Leaves.calls_slotted, OperationPlaces.operation_place, Placing.block_begins, Placing.function_at, Placing.has_begin, Targets.IsNamed}
use Rattle.oat_match.proofs.{Targets.argument_typed, Targets.named_function, Targets.number_at, Targets.number_taken, Targets.parameter_is}
use Rattle.oat_globals.specs.edges as edges
use Rattle.oat_globals.specs.svc as svc

behind_words : (p q words n k : ℕ) → q ≡ p + 4 * words → words ≡ n + k → q ≡ p + 4 * n + 4 * k
behind_words p q words n k h e = omega arith

module _ (p : Program) (ok : IsChecked p) (w : World) (c : IsCompiled p w) (s : SourceState) (m : Running) (going : s.end ≡ None) (r : GoesAlike p w s m)
    (few : length s.callers ≤ 256) (func : Func) (is : slice_get p.funcs s.frame.func ≡ Some func) where
  -- a function is an operation, or not
  role_of : (g : ℕ) (callee : Func) → slice_get p.funcs g ≡ Some callee → operation_of p g ≡ operation_number callee.role
  role_of g callee here = ap (option_and_then (λ func. operation_number func.role)) here

  -- where so few are active it goes on
  shallow : (edge : LineEdge) (g : ℕ) (args : List ℕ) → length s.callers < 256
      → StepIsMatched p w (record { state = entered s g args; shown = takes edge ∷ shows (operation_of p g) enters }) m → StepIsMatched p w (runs p s edge g args) m
  shallow edge g args low c =
      subst (λ (t : Bool). StepIsMatched p w (cond t (traps_by s Depth) (record { state = entered s g args; shown = takes edge ∷ shows (operation_of p g) enters })) m) (sym (lt-leb 256 (length s.callers) low)) c

  deep : (edge : LineEdge) (g : ℕ) (args : List ℕ) → 256 ≤ length s.callers → StepIsMatched p w (traps_by s Depth) m → StepIsMatched p w (runs p s edge g args) m
  deep edge g args high c =
      subst (λ (t : Bool). StepIsMatched p w (cond t (traps_by s Depth) (record { state = entered s g args; shown = takes edge ∷ shows (operation_of p g) enters })) m) (sym (le-leb 256 (length s.callers) high)) c

  -- ---- a call

  begin_seen : (g : ℕ) (op : Option ℕ) → operation_of p g ≡ op → begin_shown w g op ≡ map (seen_at (placement p w)) (shows op enters)
  begin_seen g None at = refl
  begin_seen g (Some op) at = ap (λ (f : ℕ). monitors (svc.Begin op (prologue_end w f + 4)) ∷ []) (sym (operation_place p ok g op at))

  pub call_matched : (x g : ℕ) (args : List ℕ) → IsInstr p func (Call x g args) → IsAllowed p func (instruction (Call x g args)) → current_line p s.frame ≡ Some (instruction (Call x g args))
      → IsLineAt w s.frame (call_code args g x) → StepIsMatched p w (does p s s.frame.locals (Call x g args)) m
  call_matched x g args formed al here line = elim (cases_lt (length s.callers) 256) [
    | inl low ↦ shallow (calls (line_place s.frame) g) g args low
        (steps p w s m going r (record { state = entered s g args; shown = takes (calls (line_place s.frame) g) ∷ shows (operation_of p g) enters }) _ 267 (omega arith) going refl
        shown (operation_calls_lead w c.world s.frame s.callers (words_held p s.globals) site (operation_number callee.item.role) m r.is_at low call (has_begin p ok w c g callee.item callee.is first.item first.is)))
    | inr high ↦ deep (calls (line_place s.frame) g) g args high
        (ends p w s m going r (trapped Depth) 3 (omega arith) (deep-calls-trap w c.world s.frame s.callers (words_held p s.globals) site m r.is_at (omega arith) line.code))
  ] where
    site : CallSite
    site = record { callee = g; args = args; result = x }

    types : (holds_number func x ≡ true) × (is_func p (λ callee. are_as func args (parameters callee)) g ≡ true)
    types = and_parts (holds_number func x) _ al.typed

    callee : Found (λ callee. are_as func args (parameters callee)) (slice_get p.funcs g)
    callee = found (λ callee. are_as func args (parameters callee)) (slice_get p.funcs g) types.1

    formed_callee : IsFunc p callee.item
    formed_callee = func_formed p ok g callee.item callee.is

    first : There callee.item.blocks 0
    first = there callee.item.blocks 0 formed_callee.begun

    count : length args ≡ callee.item.params
    count = eqb-true (length args) callee.item.params (not-false _ (failed (λ callee. not (eqb (length args) callee.params)) (slice_get p.funcs g) callee.item callee.is al.counts))

    next : w.place s.frame.func s.frame.block (s.frame.line + 1) ≡ line_address w s.frame + 28 + 4 * length args
    next =
        let n : w.place s.frame.func s.frame.block (s.frame.line + 1) ≡ line_address w s.frame + 4 * 7 + 4 * length args = behind_words (line_address w s.frame) _ _ 7 (length args) line.next (call_words args g x ∙ seven (length args)) in
        n where
          seven : (n : ℕ) → 4 + n + 3 ≡ 7 + n
          seven n = omega arith

    argument_ty : (i : ℕ) → i < length args → w.ty s.frame.func (get_or args i 0) ≡ w.ty g i
    argument_ty i l =
        let room : callee.item.params ≤ length callee.item.locals = formed_callee.params_first in
        let same : length args ≡ callee.item.params = count in
        let q = there callee.item.locals i (omega arith) in
        let t : local_ty func (get_or args i 0) ≡ Some q.item.ty = argument_typed func args (parameters callee.item) callee.passed i q.item l (parameter_is callee.item i q.item (omega arith) q.is) in
        c.data_of.types s.frame.func func is (get_or args i 0) q.item.ty t
        ∙ sym (c.data_of.types g callee.item callee.is i q.item.ty (ap (option_map (λ local. local.ty)) q.is))

    call : IsCallAt w s.frame site
    call = record {
      code = line.code;
      next = next;
      is = c.data_of.results s.frame ∙ ap call_result here;
      few = formed.2.0;
      caller_slots = calls_slotted p w c.data_of s.frame (Call x g args) here refl;
      function = function_at p ok w c g callee.item callee.is (length args) count;
      locals = λ i l. subst (λ (n : ℕ). get_or args i 0 < n) (sym (c.data_of.locals s.frame.func func is)) (formed.2.1 i 0 l);
      types = argument_ty;
    }

    shown : map (seen_at (placement p w)) (takes (calls (line_place s.frame) g) ∷ shows (operation_of p g) enters) ≡ call_edge w s.frame site ∷ begin_shown w g (operation_number callee.item.role)
    shown =
        ap (λ (given : List ℕ). moves (edges.Call (line_address w s.frame + 16 + 4 * length given) (w.label g)) ∷ map (seen_at (placement p w)) (shows (operation_of p g) enters)) (ap call_arguments here)
        ∙ ap (λ (es : List MachineEvent). call_edge w s.frame site ∷ es)
        (ap (λ (o : Option ℕ). map (seen_at (placement p w)) (shows o enters)) (role_of g callee.item callee.is) ∙ sym (begin_seen g (operation_number callee.item.role) (role_of g callee.item callee.is)))

  -- ---- an indirect call

  pub icall_matched : (x y : ℕ) (args : List ℕ) → IsInstr p func (ICall x y args) → IsAllowed p func (instruction (ICall x y args)) → current_line p s.frame ≡ Some (instruction (ICall x y args))
      → IsValue p (Fn (length args)) (s.frame.locals y) → IsLineAt w s.frame (icall_code args y x) → StepIsMatched p w (does p s s.frame.locals (ICall x y args)) m
  icall_matched x y args formed al here known line = by (eqb (s.frame.locals y) 0) refl where
    g : ℕ
    g = s.frame.locals y - 1

    both : ((holds_number func x && refers_with func y (length args)) ≡ true) × (hold_numbers func args ≡ true)
    both = and_parts (holds_number func x && refers_with func y (length args)) (hold_numbers func args) al.typed

    from_ty : local_ty func y ≡ Some (Fn (length args))
    from_ty = has_ty (local_ty func y) (Fn (length args)) (and_parts (holds_number func x) (refers_with func y (length args)) both.0).1

    next : w.place s.frame.func s.frame.block (s.frame.line + 1) ≡ line_address w s.frame + 44 + 4 * length args
    next = behind_words (line_address w s.frame) _ _ 11 (length args) line.next (icall_words args y x ∙ eleven (length args)) where
      eleven : (n : ℕ) → 3 + (4 + n) + 4 ≡ 11 + n
      eleven n = omega arith

    referenced : (callee : ℕ) → w.may_name callee (length args) ≡ true → IsReferencedAt w callee (length args)
    referenced callee may =
        let parts = and_parts (is_func p (λ f. eqb f.params (length args)) callee) (is_referenced p callee) (sym (c.data_of.references callee (length args)) ∙ may) in
        let t : Found (λ f. eqb f.params (length args)) (slice_get p.funcs callee) = found (λ f. eqb f.params (length args)) (slice_get p.funcs callee) parts.0 in
        let count : t.item.params ≡ length args = eqb-true t.item.params (length args) t.passed in
        let formed_callee : IsFunc p t.item = func_formed p ok callee t.item t.is in
        let room : t.item.params ≤ length t.item.locals = formed_callee.params_first in
        let first : There t.item.blocks 0 = there t.item.blocks 0 formed_callee.begun in
        let named : IsNamed t.item = named_function p ok callee t.item t.is parts.1 in
        let begins : FunctionBegins p w callee t.item = c.functions callee t.item t.is in
        let entry : 0x10000 ≤ w.label callee = begins.entry in
        record {
          function = function_at p ok w c callee t.item t.is (length args) (sym count);
          first = block_begins p ok w c callee 0 t.item first.item t.is first.is ∙ begins.first ∙ ap (λ (o : Option ℕ). prologue_end w callee + 4 * role_words o) named.plain ∙ nothing (prologue_end w callee);
          target = subst (λ (n : ℕ). list_any (is_called_at n (w.label callee)) w.image.map.functions ≡ true) count (begins.target parts.1);
          entry = omega arith;
          types = λ i l. number_parameter callee t.item t.is room named.numbers i (omega arith);
        } where
          nothing : (n : ℕ) → n + 4 * 0 ≡ n
          nothing n = omega arith

          number_parameter : (callee : ℕ) (target : Func) → slice_get p.funcs callee ≡ Some target → target.params ≤ length target.locals → takes_numbers (parameters target) ≡ true → (i : ℕ) → i < target.params → w.ty callee i ≡ I64
          number_parameter callee target at room numbers i l =
              let q : There target.locals i = there target.locals i (omega arith) in
              c.data_of.types callee target at i q.item.ty (ap (option_map (λ local. local.ty)) q.is)
              ∙ number_taken (parameters target) numbers i q.item (parameter_is target i q.item l q.is)

    call : IsIndirectCallAt w s.frame args y x
    call = record {
      code = line.code;
      next = next;
      is = c.data_of.results s.frame ∙ ap call_result here;
      few = formed.2.0;
      caller_slots = calls_slotted p w c.data_of s.frame (ICall x y args) here refl;
      locals = λ i l. subst (λ (n : ℕ). get_or args i 0 < n) (sym (c.data_of.locals s.frame.func func is)) (formed.2.1 i 0 l);
      types = λ i l. (number_local p ok w c.data_of s.frame func is (get_or args i 0) (number_at func args both.1 i l)).ty;
      from_local = local_inside p ok w c.data_of s.frame.func func is y (Fn (length args)) from_ty;
      from_ty = c.data_of.types s.frame.func func is y (Fn (length args)) from_ty;
      functions = referenced;
    }

    -- no operation stands behind a reference
    plain : 0 < s.frame.locals y → operation_of p g ≡ None
    plain some = elim known as (λ _. operation_of p g ≡ None) [
      | inl null ↦ absurd (omega arith)
      | inr t ↦ role_of g t.callee t.is ∙ ap operation_number t.plain
    ]

    shown : 0 < s.frame.locals y → map (seen_at (placement p w)) (takes (icalls (line_place s.frame) g) ∷ shows (operation_of p g) enters) ≡ moves (edges.ICall (line_address w s.frame + 28 + 4 * length args) (w.label g)) ∷ []
    shown some =
        ap (λ (given : List ℕ). moves (edges.ICall (line_address w s.frame + 28 + 4 * length given) (w.label g)) ∷ map (seen_at (placement p w)) (shows (operation_of p g) enters)) (ap call_arguments here)
        ∙ ap (λ (o : Option ℕ). moves (edges.ICall (line_address w s.frame + 28 + 4 * length args) (w.label g)) ∷ map (seen_at (placement p w)) (shows o enters)) (plain some)

    by : (t : Bool) → eqb (s.frame.locals y) 0 ≡ t → StepIsMatched p w (cond t (traps_by s NullCall) (runs p s (icalls (line_place s.frame) g) g args)) m
    by true null = ends p w s m going r (trapped NullCall) 3 (omega arith)
        (null-calls-trap w c.world s.frame s.callers (words_held p s.globals) args y x m r.is_at call (eqb-true (s.frame.locals y) 0 null))
    by false other =
        let some : 0 < s.frame.locals y = positive (s.frame.locals y) (eqb-false (s.frame.locals y) 0 other) in
        elim (cases_lt (length s.callers) 256) [
          | inl low ↦ shallow (icalls (line_place s.frame) g) g args low
              (steps p w s m going r (record { state = entered s g args; shown = takes (icalls (line_place s.frame) g) ∷ shows (operation_of p g) enters }) _ 268 (omega arith) going refl
              (shown some) (indirect-calls-lead w c.world s.frame s.callers (words_held p s.globals) args y x m r.is_at low call some))
          | inr high ↦ deep (icalls (line_place s.frame) g) g args high
              (ends p w s m going r (trapped Depth) 5 (omega arith) (deep_indirect_calls_trap w c.world s.frame s.callers (words_held p s.globals) args y x m r.is_at (omega arith) call some))
        ] where
          positive : (n : ℕ) → (n ≡ 0 → ⊥) → 0 < n
          positive zero h = absurd (h refl)
          positive (suc n) h = omega arith
