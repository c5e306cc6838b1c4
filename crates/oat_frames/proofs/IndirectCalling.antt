-- An indirect call leads from the relation to the relation: 9 instructions, one for each argument, and one for each local of the callee.
use Rattle.std.proofs.Common.{◌≡◌, ◌+◌, ◌*◌, ◌^◌, ◌<◌, ◌≤◌, ◌-◌, inl, inr, ℕ, Bool, true, not, cond, List, [], ◌∷◌, length, get_or, Some, refl, sym, ap, subst, ◌∙◌, arith, ne_eqb, eq-eqb}
use Rattle.oat_asm.specs.{Svc, Blr, Brk, with_reg, row_over, word_in}
use Rattle.oat_check.specs.{Ty, Fn}
use Rattle.oat_follow.specs.{Running, Events.MachineEvent, Events.moves, Reaching.RunsTo, Reaching.inst_makes}
use Rattle.oat_frames.specs.{Code.CodeStands, Code.icall_code, Code.behind_call, Frames.World, Frames.Represents, Frames.HoldsState, Frames.line_address, Calls.CallSite, Calls.IsReferencedAt}
use Rattle.oat_frames.specs.{Calls.IndirectCallsLead, Calls.NullCallsTrap, Phases.HasSlots, Phases.CallCounted, Moments.next_moment, Moments.jumped}
use Rattle.oat_frames.proofs.{Reaching.thence, Arming.armed, Entering.Enters, Entering.behind-test, Entering.returns-behind, Entering.enters, Entering.deep, Entering.one-more, Entering.given-by}
use Rattle.oat_frames.proofs.{Entering.at-first, Holding.opens, Holding.slot-of, Sites.icall-site, Slots.slot-opens, Slots.slot-small, Registers.with_x, Transfers.blr, Transfers.cbnz-skips}
use Rattle.oat_frames.proofs.{Transfers.cbnz-passes, Steps.ldr, MonitorCalls.svc-target, MonitorCalls.brk-null}
use Rattle.oat_asm.specs.declared.item.Item.TheVariants as item
use Rattle.oat_asm.specs.declared.note.Note.TheVariants as note
use Rattle.oat_asm.specs.edges as edges
use Rattle.oat_follow.specs.rows as rows

-- the word of a reference that isn't null
reference-is : (w : World) (k v word : ℕ) → 0 < v → Represents w (Fn k) v word → (word ≡ w.label (v - 1)) × (w.may_name (v - 1) k ≡ true)
reference-is w k v word some h =
    (h.is ∙ ap (λ (t : Bool). cond t 0 (w.label (v - 1))) (ne_eqb v 0 (λ e. absurd (omega arith))), elim h.known [ inl e ↦ absurd (omega arith) | inr t ↦ t ])

pub indirect-calls-lead : IndirectCallsLead
indirect-calls-lead w ok f callers globals args from result m r few call some =
    let n : ℕ = length args in
    let at : ℕ = line_address w f in
    let sp : ℕ = m.machine.regs.sp in
    let q : ℕ = at + 28 + 4 * n in
    let c : CallSite = record { callee = f.locals from - 1; args = args; result = result } in
    let h : HoldsState w f.func f.locals callers globals m.machine.regs.x sp m.machine.memory = r.holds in
    let open_ : HasSlots sp (w.locals f.func + 1) = opens w ok f.func f.locals callers globals m.machine.regs.x sp m.machine.memory h in
    let slots : (i : ℕ) → i < w.locals f.func → Represents w (w.ty f.func i) (f.locals i) (word_in m.machine.memory (sp + 8 * (i + 1))) = slot-of w m.machine.regs.x m.machine.memory sp f.func f.locals call.caller_slots h.frame in
    let here : CodeStands w m.machine.regs.pc (icall_code args from result) = subst (λ (p : ℕ). CodeStands w p (icall_code args from result)) (sym r.pc) call.code in
    let inside : from < w.locals f.func = call.from_local in
    let target : ℕ = word_in m.machine.memory (sp + 8 * (from + 1)) in
    let found = reference-is w n (f.locals from) target some (subst (λ (ty : Ty). Represents w ty (f.locals from) target) call.from_ty (slots from inside)) in
    let is : IsReferencedAt w c.callee n = call.functions c.callee found.1 in
    let entry : 0 < w.label c.callee = is.entry in
    let target_is : target ≡ w.label c.callee = found.0 in
    -- the null test
    let p1 : Running = next_moment m (with_x m.machine 9 target) in
    let p2 : Running = jumped p1 p1.machine.regs (p1.machine.regs.pc + 4 + 4) in
    let one : RunsTo w.image 1 m p1 [] = ldr w.image ok.low m 9 (from + 1) r.going here.0 (slot-small sp (w.locals f.func + 1) (from + 1) open_ (omega arith)) (slot-opens sp (w.locals f.func + 1) (from + 1) open_ (omega arith)) in
    let null_row : row_over w.image.map.rows p1.machine.regs.pc ≡ Some (rows.Check p1.machine.regs.pc) = here.1.0 p1.machine.regs.pc (omega arith) (omega arith) in
    let two : RunsTo w.image 1 p1 p2 [] = cbnz-skips w.image ok.low p1 9 p1.machine.regs.pc r.going here.1.1.0 null_row (ap not (ne_eqb target 0 (λ e. absurd (omega arith)))) in
    -- the depth test, the count, the arguments
    let a = armed w ok.low args _ (w.locals f.func + 1) p2 r.going here.1.1.1.1 (deep callers (m.machine.regs.x 28) h.depth few) call.few open_ (λ i l. let b : get_or args i 0 < w.locals f.func = call.locals i l in omega arith) in
    let m1 : Running = a.0 in
    let armed1 : CallCounted w.image args p2 m1 = a.1 in
    let pc1 : m1.machine.regs.pc ≡ q = armed1.pc ∙ ap (λ (p : ℕ). p + 4 + 4 + 4 + 16 + 4 * n) r.pc ∙ sixteen at n in
    let after_test = subst (λ (p : ℕ). CodeStands w p (item.Note (note.ICall n) ∷ item.Inst (Svc 4) ∷ item.Inst (Blr 9) ∷ behind_call result)) (sixteen at n) (behind-test w args (item.Note (note.ICall n) ∷ item.Inst (Svc 4) ∷ item.Inst (Blr 9) ∷ behind_call result) (at + 4 + 4 + 4) call.code.1.1.1.1) in
    let group = subst (λ (p : ℕ). CodeStands w p (item.Inst (Svc 4) ∷ item.Inst (Blr 9) ∷ [])) (sym pc1) (after_test.1.0, (after_test.1.1.0, tt)) in
    let m2 : Running = next_moment m1 m1.machine in
    let three : RunsTo w.image 1 m1 m2 [] = svc-target w.image ok.low m1 armed1.kept.going group.0 in
    let pc2 : m2.machine.regs.pc ≡ q + 4 = ap (λ (p : ℕ). p + 4) pc1 in
    let row : row_over w.image.map.rows (q + 4) ≡ Some (rows.ICall q n) = after_test.0 (q + 4) (omega arith) (omega arith) in
    let low2 : m2.machine.regs.pc < 2 ^ 32 = ok.low m2.machine.regs.pc _ group.1.0 in
    let link : ℕ = m2.machine.regs.pc + 4 in
    let m3 : Running = jumped m2 (with_reg m2.machine.regs 30 link) (w.label c.callee) in
    let es : List MachineEvent = moves (edges.ICall q (w.label c.callee)) ∷ [] in
    let four : RunsTo w.image 1 m2 m3 es = blr w.image ok.low m2 9 q n (w.label c.callee) armed1.kept.going group.1.0 (armed1.nine ∙ target_is) (ap (row_over w.image.map.rows) pc2 ∙ row) is.target in
    let link_is : link ≡ q + 4 + 4 = ap (λ (p : ℕ). p + 4) pc2 in
    let e : Enters w f callers c m m3 = record {
      going = armed1.kept.going;
      memory = armed1.memory;
      sp = armed1.sp;
      pc = refl;
      depth = armed1.depth ∙ one-more callers (m.machine.regs.x 28) h.depth;
      given = given-by w f c p2 m1 link call.few armed1 slots call.locals (λ i l. call.types i l ∙ sym (is.types i l));
      link = omega arith;
      back = returns-behind w f result link (q + 4) call.is link_is (call.next ∙ twelve at n) after_test.1.1.1 (icall-site w.image.map.rows (q + 4) q n link row (sym link_is) (omega arith));
    } in
    let o = enters w ok f callers globals c m m3 r few call.caller_slots call.few is.function e in
    let rest : ℕ = 2 + w.locals c.callee in
    record {
      to = o.0;
      count = 1 + (1 + (3 + n + (1 + (1 + rest))));
      some = omega arith;
      few = most n (w.locals c.callee) call.few (ok.few c.callee);
      runs = thence w.image 1 (1 + (3 + n + (1 + (1 + rest)))) m p1 o.0 [] es one (thence w.image 1 (3 + n + (1 + (1 + rest))) p1 p2 o.0 [] es two
          (thence w.image (3 + n) (1 + (1 + rest)) p2 m1 o.0 [] es armed1.runs (thence w.image 1 (1 + rest) m1 m2 o.0 [] es three (thence w.image 1 rest m2 m3 o.0 es [] four o.1))));
      inputs = o.2.inputs ∙ armed1.kept.inputs;
      outputs = o.2.outputs ∙ armed1.kept.outputs;
      is_at = at-first w f callers globals c o.0 is.first o.3;
    } where
      most : (n locals : ℕ) → n ≤ 4 → locals ≤ 255 → 1 + (1 + (3 + n + (1 + (1 + (2 + locals))))) ≤ 268
      most n locals four few = omega arith

      sixteen : (p n : ℕ) → p + 4 + 4 + 4 + 16 + 4 * n ≡ p + 28 + 4 * n
      sixteen p n = omega arith

      twelve : (p n : ℕ) → p + 44 + 4 * n ≡ p + 28 + 4 * n + 4 + 12
      twelve p n = omega arith

pub null-calls-trap : NullCallsTrap
null-calls-trap w ok f callers globals args from result m r call null =
    let sp : ℕ = m.machine.regs.sp in
    let h : HoldsState w f.func f.locals callers globals m.machine.regs.x sp m.machine.memory = r.holds in
    let open_ : HasSlots sp (w.locals f.func + 1) = opens w ok f.func f.locals callers globals m.machine.regs.x sp m.machine.memory h in
    let here : CodeStands w m.machine.regs.pc (icall_code args from result) = subst (λ (p : ℕ). CodeStands w p (icall_code args from result)) (sym r.pc) call.code in
    let inside : from < w.locals f.func = call.from_local in
    let target : ℕ = word_in m.machine.memory (sp + 8 * (from + 1)) in
    let value : Represents w (Fn (length args)) (f.locals from) target = subst (λ (ty : Ty). Represents w ty (f.locals from) target) call.from_ty (slot-of w m.machine.regs.x m.machine.memory sp f.func f.locals call.caller_slots h.frame from inside) in
    let zero_is : target ≡ 0 = value.is ∙ ap (λ (t : Bool). cond t 0 (w.label (f.locals from - 1))) (eq-eqb (f.locals from) 0 null) in
    let p1 : Running = next_moment m (with_x m.machine 9 target) in
    let p2 : Running = next_moment p1 p1.machine in
    let k : Running = inst_makes p2 (Brk 3) in
    let one : RunsTo w.image 1 m p1 [] = ldr w.image ok.low m 9 (from + 1) r.going here.0 (slot-small sp (w.locals f.func + 1) (from + 1) open_ (omega arith)) (slot-opens sp (w.locals f.func + 1) (from + 1) open_ (omega arith)) in
    let row : row_over w.image.map.rows p1.machine.regs.pc ≡ Some (rows.Check p1.machine.regs.pc) = here.1.0 p1.machine.regs.pc (omega arith) (omega arith) in
    let two : RunsTo w.image 1 p1 p2 [] = cbnz-passes w.image ok.low p1 9 p1.machine.regs.pc r.going here.1.1.0 row (ap not (eq-eqb target 0 zero_is)) in
    record {
      to = k;
      count = 3;
      some = omega arith;
      few = omega arith;
      runs = thence w.image 1 2 m p1 k [] [] one (thence w.image 1 1 p1 p2 k [] [] two (brk-null w.image ok.low p2 r.going here.1.1.1.0));
      end = refl;
      outputs = refl;
    }
