-- The group that begins an operation, behind its prologue, and the one that ends it, before its return.
use Rattle.std.proofs.Common.{◌≡◌, ◌+◌, ◌*◌, ◌≤◌, ℕ, List, [], ◌∷◌, ◌++◌, length, Option, Some, None, refl, sym, ap, subst, ◌∙◌, arith}
use Rattle.oat_asm.proofs.StandingItems.{stand_in_two}
use Rattle.oat_frames.specs.{Item, words_needed, Frame, Running, Code.CodeStands, Code.prologue, Code.return_code, MachineEvent, monitors, Frames.World, Frames.IsWorld, Frames.home_in}
use Rattle.oat_frames.specs.{Frames.line_address, Calls.CallLaysFrame, Calls.callee_frame, Calls.call_edge, Calls.prologue_end, Returns.ReturnComesBack, Returns.return_edge, Readied.IsReadied, RunsTo}
use Rattle.oat_frames.specs.{Moments.next_moment}
use Rattle.oat_frames.proofs.{Kit.still, Kit.thence, Kit.with_x, FrameLaws.readied-holds, FrameLaws.by-registers, FrameLaws.calls-lay-frames, FrameLaws.returns-come-back}
use Rattle.oat_globals.specs.Operations.{begin_code, end_code, leave_code, role_words, begin_shown, end_shown, HasShortNumber, StartsStand, OperationCallsLead, OperationReturnsLead}
use Rattle.oat_globals.proofs.{Showing.movz, Showing.svc_shows, Accessing.twice, Sizes.prologue_words}
use Rattle.oat_frames.specs.svc as svc

pub starts_stand : StartsStand
starts_stand w func params op h =
    let both = stand_in_two w.image w.label (w.label func) (prologue (w.is_leaf func) params (w.locals func)) (begin_code op) h in
    (both.0, subst (λ (p : ℕ). CodeStands w p (begin_code op)) (behind (w.label func) (words_needed (prologue (w.is_leaf func) params (w.locals func))) (w.locals func) (prologue_words (w.is_leaf func) params (w.locals func))) both.1) where
      behind : (p n locals : ℕ) → n ≡ 2 + locals → p + 4 * n ≡ p + 8 + 4 * locals
      behind p n locals h = omega arith

-- ---- the two groups, from where they stand

none_more : (p : ℕ) → p ≡ p + 0
none_more p = omega arith

module _ (w : World) (ok : IsWorld w) where
  begins : (op : Option ℕ) (func : ℕ) (m : Running) → HasShortNumber op → m.end ≡ None → m.machine.regs.pc ≡ prologue_end w func → CodeStands w (prologue_end w func) (begin_code op)
      → (k : Running) × IsReadied w.image (role_words op) (4 * role_words op) (begin_shown w func op) m.inputs m k
  begins None func m short going pc code =
      (m, by-registers w.image 0 0 [] m m (still w.image m) going refl refl refl (refl, refl, refl, refl, refl, refl, refl, refl) (none_more m.machine.regs.pc))
  begins (Some op) func m short going pc code =
      let here : CodeStands w m.machine.regs.pc (begin_code (Some op)) = subst (λ (q : ℕ). CodeStands w q (begin_code (Some op))) (sym pc) code in
      let m1 : Running = next_moment m (with_x m.machine 9 op) in
      let m2 : Running = next_moment m1 m1.machine in
      let es : List MachineEvent = monitors (svc.Begin op m1.machine.regs.pc) ∷ [] in
      let one : RunsTo w.image 1 m m1 [] = movz w.image ok.low m 9 op going (short op refl) here.1.0 in
      let two : RunsTo w.image 1 m1 m2 es = svc_shows w.image ok.low m1 1 (svc.Begin op m1.machine.regs.pc) going here.1.1.0 refl refl in (
        m2,
        by-registers w.image 2 8 (begin_shown w func (Some op)) m m2 (subst (λ (p : ℕ). RunsTo w.image 2 m m2 (monitors (svc.Begin op p) ∷ [])) (ap (λ (p : ℕ). p + 4) pc) (thence w.image 1 1 m m1 m2 [] es one two))
            going refl refl refl (refl, refl, refl, refl, refl, refl, refl, refl) (twice m.machine.regs.pc),
      )

  ends_there : (op : Option ℕ) (m : Running) (is : List Item) → HasShortNumber op → m.end ≡ None → CodeStands w m.machine.regs.pc (end_code op ++ is)
      → (k : Running) × IsReadied w.image (role_words op) (4 * role_words op) (end_shown op) m.inputs m k × CodeStands w k.machine.regs.pc is
  ends_there None m is short going code =
      (m, by-registers w.image 0 0 [] m m (still w.image m) going refl refl refl (refl, refl, refl, refl, refl, refl, refl, refl) (none_more m.machine.regs.pc), code)
  ends_there (Some op) m is short going code =
      let m1 : Running = next_moment m (with_x m.machine 9 op) in
      let m2 : Running = next_moment m1 m1.machine in
      let es : List MachineEvent = monitors (svc.End op) ∷ [] in
      let one : RunsTo w.image 1 m m1 [] = movz w.image ok.low m 9 op going (short op refl) code.1.0 in
      let two : RunsTo w.image 1 m1 m2 es = svc_shows w.image ok.low m1 2 (svc.End op) going code.1.1.0 refl refl in (
        m2,
        by-registers w.image 2 8 es m m2 (thence w.image 1 1 m m1 m2 [] es one two) going refl refl refl (refl, refl, refl, refl, refl, refl, refl, refl) (twice m.machine.regs.pc),
        code.1.1.1,
      )

at_most_two : (op : Option ℕ) → role_words op ≤ 2
at_most_two None = omega arith
at_most_two (Some op) = omega arith

-- ---- the call

pub operation_calls_lead : OperationCallsLead
operation_calls_lead w ok f callers globals c op m r few call begin =
    let n : ℕ = length c.args in
    let laid : CallLaysFrame w f callers globals c m = calls-lay-frames w ok f callers globals c m r few call in
    let b = begins w ok op c.callee laid.to begin.number laid.behind.going laid.behind.pc begin.code in
    let k : Running = b.0 in
    let ready : IsReadied w.image (role_words op) (4 * role_words op) (begin_shown w c.callee op) laid.to.inputs laid.to k = b.1 in
    record {
      to = k;
      count = 6 + n + w.locals c.callee + role_words op;
      some = omega arith;
      few = most n (w.locals c.callee) (role_words op) call.few (ok.few c.callee) (at_most_two op);
      runs = thence w.image (6 + n + w.locals c.callee) (role_words op) m laid.to k (call_edge w f c ∷ []) (begin_shown w c.callee op) laid.runs ready.runs;
      inputs = ready.inputs ∙ laid.kept.inputs;
      outputs = ready.outputs ∙ laid.kept.outputs;
      is_at = record {
        going = ready.going;
        pc = ready.pc ∙ ap (λ (p : ℕ). p + 4 * role_words op) laid.behind.pc ∙ sym begin.first;
        holds = readied-holds w c.callee (callee_frame c f).locals (f ∷ callers) globals (role_words op) (4 * role_words op) (begin_shown w c.callee op) laid.to.inputs laid.to k ready laid.behind.holds;
      };
    } where
      most : (n locals more : ℕ) → n ≤ 4 → locals ≤ 255 → more ≤ 2 → 6 + n + locals + more ≤ 267
      most n locals more four few two = omega arith

-- ---- the return

pub operation_returns_lead : OperationReturnsLead
operation_returns_lead w ok f g callers globals from to op m r code short this =
    let at : ℕ = line_address w f + 4 * role_words op in
    let here : CodeStands w m.machine.regs.pc (leave_code (w.locals f.func) (home_in w f from) op) = subst (λ (q : ℕ). CodeStands w q (leave_code (w.locals f.func) (home_in w f from) op)) (sym r.pc) code in
    let e = ends_there w ok op m (return_code (w.locals f.func) (home_in w f from)) short r.going here in
    let k : Running = e.0 in
    let ready : IsReadied w.image (role_words op) (4 * role_words op) (end_shown op) m.inputs m k = e.1 in
    let pc : k.machine.regs.pc ≡ at = ready.pc ∙ ap (λ (p : ℕ). p + 4 * role_words op) r.pc in
    let back : ReturnComesBack w f g callers globals from to at k = returns-come-back w ok f g callers globals from to at k ready.going pc
    (readied-holds w f.func f.locals (g ∷ callers) globals (role_words op) (4 * role_words op) (end_shown op) m.inputs m k ready r.holds)
    (subst (λ (q : ℕ). CodeStands w q (return_code (w.locals f.func) (home_in w f from))) pc e.2) this in
    record {
      to = back.end;
      count = role_words op + 7;
      some = omega arith;
      few = let two : role_words op ≤ 2 = at_most_two op in omega arith;
      runs = thence w.image (role_words op) 7 m k back.end (end_shown op) (return_edge w g at ∷ []) ready.runs back.runs;
      inputs = back.kept.inputs ∙ ready.inputs;
      outputs = back.kept.outputs ∙ ready.outputs;
      is_at = back.is_at;
    }
