-- An indirect call with 256 callers: the reference passes its test, and the depth doesn't.
use Rattle.std.proofs.Common.{true, ◌≡◌, ◌+◌, ◌*◌, ◌<◌, ◌-◌, ℕ, Bool, not, cond, [], length, Some, refl, sym, ap, subst, ◌∙◌, arith, ne_eqb, inl, inr}
use Rattle.std.proofs.lemmas.Bool.{le-leb}
use Rattle.oat_frames.proofs.{FrameLaws.opens, FrameLaws.slot-of, FrameLaws.slot-opens, FrameLaws.slot-small, Kit.bcond-passes, Kit.brk-depth, Kit.cbnz-skips, Kit.compared, Kit.compares, Kit.ldr}
use Rattle.oat_frames.proofs.{Kit.thence, Kit.with_x}
use Rattle.oat_globals.specs.{Brk, SubsImm, row_over, word_in, Running, Ty, Fn, RunsTo, inst_makes, CodeStands, icall_code, HoldsState, Represents, jumped, next_moment, HasSlots}
use Rattle.oat_match.specs.DeepCalls.{DeepIndirectCallsTrap}
use Rattle.oat_globals.specs.rows as rows

pub deep_indirect_calls_trap : DeepIndirectCallsTrap
deep_indirect_calls_trap w ok f callers globals args from result m r full call some =
    let sp : ℕ = m.machine.regs.sp in
    let h : HoldsState w f.func f.locals callers globals m.machine.regs.x sp m.machine.memory = r.holds in
    let open_ : HasSlots sp (w.locals f.func + 1) = opens w ok f.func f.locals callers globals m.machine.regs.x sp m.machine.memory h in
    let here : CodeStands w m.machine.regs.pc (icall_code args from result) = subst (λ (p : ℕ). CodeStands w p (icall_code args from result)) (sym r.pc) call.code in
    let inside : from < w.locals f.func = call.from_local in
    let target : ℕ = word_in m.machine.memory (sp + 8 * (from + 1)) in
    let value : Represents w (Fn (length args)) (f.locals from) target = subst (λ (ty : Ty). Represents w ty (f.locals from) target) call.from_ty (slot-of w m.machine.regs.x m.machine.memory sp f.func f.locals call.caller_slots h.frame from inside) in
    let target_is : target ≡ w.label (f.locals from - 1) = value.is ∙ ap (λ (t : Bool). cond t 0 (w.label (f.locals from - 1))) (ne_eqb (f.locals from) 0 (λ e. absurd (omega arith))) in
    let known : w.may_name (f.locals from - 1) (length args) ≡ true = elim value.known [ inl e ↦ absurd (omega arith) | inr t ↦ t ] in
    let entry : 0 < w.label (f.locals from - 1) = (call.functions (f.locals from - 1) known).entry in
    let count : ℕ = m.machine.regs.x 28 in
    let deep : count ≡ 256 = h.depth ∙ full in
    let m1 : Running = next_moment m (with_x m.machine 9 target) in
    let m2 : Running = jumped m1 m1.machine.regs (m1.machine.regs.pc + 4 + 4) in
    let m3 : Running = next_moment m2 (compared m2.machine count 256) in
    let m4 : Running = next_moment m3 m3.machine in
    let k : Running = inst_makes m4 (Brk 4) in
    let one : RunsTo w.image 1 m m1 [] = ldr w.image ok.low m 9 (from + 1) r.going here.0 (slot-small sp (w.locals f.func + 1) (from + 1) open_ (omega arith)) (slot-opens sp (w.locals f.func + 1) (from + 1) open_ (omega arith)) in
    let null_row : row_over w.image.map.rows m1.machine.regs.pc ≡ Some (rows.Check m1.machine.regs.pc) = here.1.0 m1.machine.regs.pc (omega arith) (omega arith) in
    let two : RunsTo w.image 1 m1 m2 [] = cbnz-skips w.image ok.low m1 9 m1.machine.regs.pc r.going here.1.1.0 null_row (ap not (ne_eqb target 0 (λ e. absurd (omega arith)))) in
    let three : RunsTo w.image 1 m2 m3 [] = compares w.image ok.low m2 (SubsImm 31 28 256) count 256 r.going here.1.1.1.1.0 (λ r next. refl) refl in
    let row : row_over w.image.map.rows m3.machine.regs.pc ≡ Some (rows.Check m3.machine.regs.pc) = here.1.1.1.1.1.0 m3.machine.regs.pc (omega arith) (omega arith) in
    let four : RunsTo w.image 1 m3 m4 [] = bcond-passes w.image ok.low m3 3 m3.machine.regs.pc r.going here.1.1.1.1.1.1.0 row (ap not (le-leb 256 count (omega arith))) in
    record {
      to = k;
      count = 5;
      some = omega arith;
      few = omega arith;
      runs = thence w.image 1 4 m m1 k [] [] one (thence w.image 1 3 m1 m2 k [] [] two (thence w.image 1 2 m2 m3 k [] [] three (thence w.image 1 1 m3 m4 k [] [] four (brk-depth w.image ok.low m4 r.going here.1.1.1.1.1.1.1.0))));
      end = refl;
      outputs = refl;
    }
