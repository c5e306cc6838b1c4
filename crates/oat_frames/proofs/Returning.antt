-- A return leads from the relation to the relation, in 7 instructions, through the X30 that memory holds.
use Rattle.std.proofs.Common.{◌≡◌, ◌+◌, ◌*◌, ◌^◌, ◌<◌, ◌≤◌, ◌-◌, ℕ, suc, Bool, true, List, [], ◌∷◌, length, Some, refl, sym, ap, subst, ◌∙◌, arith}
use Rattle.std.specs.List.{list_any}
use Rattle.oat_asm.specs.{SubImm, Str, goes_on, with_reg, difference, word_in, Stands, row_over, is_returned_to}
use Rattle.oat_check.specs.{Ty, Steps.Frame}
use Rattle.oat_follow.specs.{Running, Events.MachineEvent, Events.moves, Reaching.RunsTo}
use Rattle.oat_frames.specs.{Code.CodeStands, Code.store_inst, Code.return_code, Frames.line_address, Frames.Represents, Frames.HoldsState, Frames.ReturnsTo, Frames.return_address, Frames.frame_size}
use Rattle.oat_frames.specs.{Frames.home_of, Frames.home_word, Frames.home_in, Returns.ReturnComesBack, Returns.ReturnsComeBack, Returns.ReturnsLead, Phases.HasSlots, Moments.next_moment}
use Rattle.oat_frames.specs.{Moments.jumped}
use Rattle.oat_frames.proofs.{Reaching.thence, Reaching.kept-on, Homes.reads-home, Homes.writes-home, Homes.HomeWritten, Holding.value-small, Holding.opens, Holding.puts-home, Holding.popped}
use Rattle.oat_frames.proofs.{Slots.slot-opens, Slots.slot-small, Registers.with_x, Registers.with_sp, Registers.difference-is, Steps.sets, Steps.ldr, Steps.add-sp, MonitorCalls.svc-return}
use Rattle.oat_frames.proofs.{Transfers.ret}
use Rattle.oat_asm.specs.edges as edges
use Rattle.oat_follow.specs.rows as rows

same-some : (a b : ℕ) → Some a ≡ Some b → a ≡ b
same-some a b h = cc

-- from any address that its code stands at
pub returns-come-back : ReturnsComeBack
returns-come-back w ok f g callers globals from to at m going pc h code this =
    let memory : ℕ → ℕ = m.machine.memory in
    let sp : ℕ = m.machine.regs.sp in
    let size : ℕ = frame_size (w.locals f.func) in
    let top : ℕ = sp + size in
    let back : ℕ = return_address w g in
    let saved : ReturnsTo w g (word_in memory sp) = h.back in
    let saved_is : word_in memory sp ≡ back = before (word_in memory sp) (w.place g.func g.block (g.line + 1)) saved.next in
    let result_is : saved.result ≡ to = same-some saved.result to (sym saved.is ∙ this.result) in
    let counts : Stands w.image.code back (SubImm 28 28 1) = subst (λ (p : ℕ). Stands w.image.code p (SubImm 28 28 1)) saved_is saved.counts in
    let stores : Stands w.image.code (back + 4) (Str 0 31 (to + 1)) =
    subst (λ (p : ℕ). Stands w.image.code (p + 4) (Str 0 31 (to + 1))) saved_is (subst (λ (k : ℕ). Stands w.image.code (word_in memory sp + 4) (Str 0 31 (k + 1))) result_is saved.stores) in
    let open_ : HasSlots sp (w.locals f.func + 1) = opens w ok f.func f.locals (g ∷ callers) globals m.machine.regs.x sp memory h in
    let under : (y : ℕ → ℕ) → y 28 ≡ length callers → HoldsState w g.func g.locals callers globals y top memory = λ y count. popped w f.func f.locals g callers globals m.machine.regs.x y sp memory h count in
    let open_top : HasSlots top (w.locals g.func + 1) = opens w ok g.func g.locals callers globals (λ i. length callers) top memory (under (λ i. length callers) refl) in
    let here : CodeStands w m.machine.regs.pc (return_code (w.locals f.func) (home_in w f from)) = subst (λ (q : ℕ). CodeStands w q (return_code (w.locals f.func) (home_in w f from))) (sym pc) code in
    let from_low : from < w.locals f.func = this.from_local in
    let to_low : to < w.locals g.func = this.to_local in
    -- the moments
    let value : ℕ = home_word m.machine.regs.x memory sp (home_in w f from) in
    let represents : Represents w (w.ty g.func to) (f.locals from) value = subst (λ (ty : Ty). Represents w ty (f.locals from) value) this.types (h.frame from from_low) in
    let m1 : Running = next_moment m (with_x m.machine 0 value) in
    let m2 : Running = next_moment m1 (with_x m1.machine 30 (word_in memory (sp + 8 * 0))) in
    let m3 : Running = next_moment m2 (with_sp m2.machine top) in
    let m4 : Running = next_moment m3 m3.machine in
    let m5 : Running = jumped m4 m4.machine.regs back in
    let m6 : Running = next_moment m5 (with_x m5.machine 28 (length callers)) in
    let es : List MachineEvent = moves (edges.Ret (at + 12) back) ∷ [] in
    -- the instructions
    let one : RunsTo w.image 1 m m1 [] = reads-home w.image ok.low (w.is_leaf f.func) m 0 from (w.locals f.func + 1) value going here.0 open_ (omega arith) refl in
    let two : RunsTo w.image 1 m1 m2 [] = ldr w.image ok.low m1 30 0 going here.1.0 (slot-small sp (w.locals f.func + 1) 0 open_ (omega arith)) (slot-opens sp (w.locals f.func + 1) 0 open_ (omega arith)) in
    let three : RunsTo w.image 1 m2 m3 [] = add-sp w.image ok.low m2 size going here.1.1.0 (small-sum top (w.locals g.func) open_top.high) in
    let four : RunsTo w.image 1 m3 m4 [] = svc-return w.image ok.low m3 going here.1.1.1.1.0 in
    let at4 : m4.machine.regs.pc ≡ at + 12 + 4 = ap (λ (p : ℕ). p + 4 + 4 + 4 + 4) pc ∙ plus at in
    let row : row_over w.image.map.rows m4.machine.regs.pc ≡ Some (rows.Ret (at + 12)) =
    ap (row_over w.image.map.rows) at4 ∙ code.1.1.1.0 (at + 12 + 4) (omega arith) (omega arith) ∙ ap (λ (p : ℕ). Some (rows.Ret p)) (plus3 at) in
    let first : sp + 8 * 0 ≡ sp = omega arith in
    let leads : m4.machine.regs.x 30 ≡ back = ap (word_in memory) first ∙ saved_is in
    let site = subst (λ (p : ℕ). list_any (is_returned_to p) w.image.map.rows ≡ true) saved_is saved.site in
    let five : RunsTo w.image 1 m4 m5 es = ret w.image ok.low m4 (at + 12) back going here.1.1.1.1.1.0 leads row site in
    let six : RunsTo w.image 1 m5 m6 [] = sets w.image ok.low m5 (SubImm 28 28 1) 28 (length callers) going counts (λ r next. refl)
    (ap (λ (v : ℕ). goes_on m5.machine (with_reg m5.machine.regs 28 v)) (one-less callers (m.machine.regs.x 28) h.depth h.few)) in
    let stored = writes-home w.image ok.low (w.is_leaf g.func) m6 0 to (w.locals g.func + 1) going (subst (λ (leaf : Bool). Stands w.image.code (back + 4) (store_inst 0 (home_of leaf to))) (sym this.caller_slots) stores) open_top (omega arith)
    (value-small w ok (w.ty g.func to) (f.locals from) value represents) in
    let m7 : Running = stored.0 in
    let put : HomeWritten w.image (w.is_leaf g.func) to value m6 m7 = stored.1 in
    record {
      end = m7;
      runs = thence w.image 1 6 m m1 m7 [] es one (thence w.image 1 5 m1 m2 m7 [] es two (thence w.image 1 4 m2 m3 m7 [] es three
          (thence w.image 1 3 m3 m4 m7 [] es four (thence w.image 1 2 m4 m5 m7 es [] five (thence w.image 1 1 m5 m6 m7 [] [] six put.runs)))));
      kept = kept-on m m6 m7 (record { going = going; inputs = refl; outputs = refl }) put.kept;
      is_at = record {
        going = put.kept.going;
        pc = put.pc ∙ ap (λ (p : ℕ). p + 4 + 4) (sym saved_is) ∙ plus8 (word_in memory sp) ∙ saved.next;
        holds = puts-home w ok g.func g.locals callers globals to (f.locals from) value m6 m7 (under m6.machine.regs.x refl) put to_low represents;
      };
    } where
      before : (a b : ℕ) → a + 8 ≡ b → a ≡ b - 8
      before a b h = omega arith

      small-sum : (top n : ℕ) → top + 8 * (n + 1) ≤ 0x8000_0000 → top < 2 ^ 64
      small-sum top n h = omega arith

      plus : (p : ℕ) → p + 4 + 4 + 4 + 4 ≡ p + 12 + 4
      plus p = omega arith

      plus3 : (p : ℕ) → p + 4 + 4 + 4 ≡ p + 12
      plus3 p = omega arith

      plus8 : (p : ℕ) → p + 4 + 4 ≡ p + 8
      plus8 p = omega arith

      one-less : (callers : List Frame) (count : ℕ) → count ≡ suc (length callers) → suc (length callers) ≤ 256 → difference count 1 ≡ length callers
      one-less callers count is few = difference-is count 1 (omega arith) (omega arith) ∙ by count (length callers) is where
        by : (a b : ℕ) → a ≡ suc b → a - 1 ≡ b
        by a b h = omega arith

pub returns-lead : ReturnsLead
returns-lead w ok f g callers globals from to m r code this =
    let back : ReturnComesBack w f g callers globals from to (line_address w f) m = returns-come-back w ok f g callers globals from to (line_address w f) m r.going r.pc r.holds code this in
    record { to = back.end; count = 7; some = omega arith; few = omega arith; runs = back.runs; inputs = back.kept.inputs; outputs = back.kept.outputs; is_at = back.is_at }
