-- A direct call leads from the relation to the relation: 6 instructions, one for each argument, and one for each local of the callee.
use Rattle.std.proofs.Common.{◌≡◌, ◌+◌, ◌*◌, ◌^◌, ◌<◌, ◌≤◌, ℕ, List, [], ◌∷◌, length, get_or, Some, refl, sym, ap, subst, ◌∙◌, arith}
use Rattle.oat_asm.specs.{with_reg, declared.branch_form.BranchForm.TheVariants.Bl, row_over}
use Rattle.oat_follow.specs.{Running, Events.MachineEvent, Events.moves, Reaching.RunsTo}
use Rattle.oat_frames.specs.{Code.CodeStands, Code.call_code, Code.behind_call, Frames.HoldsState, Frames.line_address, Calls.CallLaysFrame, Calls.CallsLayFrames, Calls.CallsLead, Calls.DeepCallsTrap}
use Rattle.oat_frames.specs.{Phases.HasSlots, Phases.CallCounted, Moments.jumped}
use Rattle.oat_frames.proofs.{Reaching.thence, Reaching.counted, Reaching.kept-on, Arming.armed, Arming.too-deep, Entering.Enters, Entering.behind-test, Entering.returns-behind, Entering.enters}
use Rattle.oat_frames.proofs.{Entering.deep, Entering.one-more, Entering.given-by, Entering.at-first, Holding.opens, Holding.slot-of, Sites.call-site, Transfers.bl}
use Rattle.oat_asm.specs.declared.item.Item.TheVariants as item
use Rattle.oat_asm.specs.declared.note.Note.TheVariants as note
use Rattle.oat_asm.specs.edges as edges
use Rattle.oat_follow.specs.rows as rows

pub calls-lay-frames : CallsLayFrames
calls-lay-frames w ok f callers globals c m r few call =
    let n : ℕ = length c.args in
    let at : ℕ = line_address w f in
    let q : ℕ = at + 16 + 4 * n in
    let h : HoldsState w f.func f.locals callers globals m.machine.regs.x m.machine.regs.sp m.machine.memory = r.holds in
    let open_ : HasSlots m.machine.regs.sp (w.locals f.func + 1) = opens w ok f.func f.locals callers globals m.machine.regs.x m.machine.regs.sp m.machine.memory h in
    let here : CodeStands w m.machine.regs.pc (call_code c.args c.callee c.result) = subst (λ (p : ℕ). CodeStands w p (call_code c.args c.callee c.result)) (sym r.pc) call.code in
    let a = armed w ok.low c.args _ (w.locals f.func + 1) m r.going here (deep callers (m.machine.regs.x 28) h.depth few) call.few open_ (λ i l. let b : get_or c.args i 0 < w.locals f.func = call.locals i l in omega arith) in
    let m1 : Running = a.0 in
    let armed1 : CallCounted w.image c.args m m1 = a.1 in
    let pc1 : m1.machine.regs.pc ≡ q = armed1.pc ∙ ap (λ (p : ℕ). p + 16 + 4 * n) r.pc in
    let after_test = behind-test w c.args (item.Note (note.Call c.callee) ∷ item.BranchTo Bl c.callee ∷ behind_call c.result) at call.code in
    let row : row_over w.image.map.rows q ≡ Some (rows.Call q (w.label c.callee)) = after_test.0 q (omega arith) (omega arith) in
    let branch = subst (λ (p : ℕ). CodeStands w p (item.BranchTo Bl c.callee ∷ [])) (sym pc1) (after_test.1.0, tt) in
    let low1 : m1.machine.regs.pc < 2 ^ 32 = ok.low m1.machine.regs.pc _ branch.0.1 in
    let link : ℕ = m1.machine.regs.pc + 4 in
    let m2 : Running = jumped m1 (with_reg m1.machine.regs 30 link) (w.label c.callee) in
    let es : List MachineEvent = moves (edges.Call q (w.label c.callee)) ∷ [] in
    let linked : RunsTo w.image 1 m1 m2 es = bl w.image ok.low m1 branch.0.0 q (w.label c.callee) armed1.kept.going branch.0.1 branch.0.2 (ap (row_over w.image.map.rows) pc1 ∙ row) in
    let link_is : link ≡ q + 4 = ap (λ (p : ℕ). p + 4) pc1 in
    let e : Enters w f callers c m m2 = record {
      going = armed1.kept.going;
      memory = armed1.memory;
      sp = armed1.sp;
      pc = refl;
      depth = armed1.depth ∙ one-more callers (m.machine.regs.x 28) h.depth;
      given = given-by w f c m m1 link call.few armed1 (slot-of w m.machine.regs.x m.machine.memory m.machine.regs.sp f.func f.locals call.caller_slots h.frame) call.locals call.types;
      link = omega arith;
      back = returns-behind w f c.result link q call.is link_is (call.next ∙ twelve at n) after_test.1.1 (call-site w.image.map.rows q q (w.label c.callee) link row (sym link_is) (omega arith));
    } in
    let o = enters w ok f callers globals c m m2 r few call.caller_slots call.few call.function e in
    record {
      to = o.0;
      runs = counted w.image (3 + n + (1 + (2 + w.locals c.callee))) (6 + n + w.locals c.callee) m o.0 es (six n (w.locals c.callee))
          (thence w.image (3 + n) (1 + (2 + w.locals c.callee)) m m1 o.0 [] es armed1.runs (thence w.image 1 (2 + w.locals c.callee) m1 m2 o.0 es [] linked o.1));
      kept = kept-on m m1 o.0 armed1.kept (kept-on m1 m2 o.0 (record { going = armed1.kept.going; inputs = refl; outputs = refl }) o.2);
      behind = o.3;
    } where
      six : (n locals : ℕ) → 3 + n + (1 + (2 + locals)) ≡ 6 + n + locals
      six n locals = omega arith

      twelve : (p n : ℕ) → p + 28 + 4 * n ≡ p + 16 + 4 * n + 12
      twelve p n = omega arith

pub calls-lead : CallsLead
calls-lead w ok f callers globals c m r few call first =
    let o : CallLaysFrame w f callers globals c m = calls-lay-frames w ok f callers globals c m r few call in
    record {
      to = o.to;
      count = 6 + length c.args + w.locals c.callee;
      some = omega arith;
      few = most (length c.args) (w.locals c.callee) call.few (ok.few c.callee);
      runs = o.runs;
      inputs = o.kept.inputs;
      outputs = o.kept.outputs;
      is_at = at-first w f callers globals c o.to first o.behind;
    } where
      most : (n locals : ℕ) → n ≤ 4 → locals ≤ 255 → 6 + n + locals ≤ 265
      most n locals four few = omega arith

pub deep-calls-trap : DeepCallsTrap
deep-calls-trap w ok f callers globals c m r full code =
    too-deep w ok.low c.args _ m r.going (subst (λ (q : ℕ). CodeStands w q (call_code c.args c.callee c.result)) (sym r.pc) code) (r.holds.depth ∙ full)
