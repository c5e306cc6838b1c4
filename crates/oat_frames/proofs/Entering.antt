-- Where the callee's code begins: its frame is laid, for direct and for indirect calls.
use Rattle.std.proofs.Common.{◌≡◌, ◌+◌, ◌*◌, ◌^◌, ◌<◌, ◌≤◌, ◌-◌, inl, inr, ℕ, zero, suc, Bool, true, cond, List, [], ◌∷◌, length, map, get_or, None, Some, refl, sym, ap, subst, ◌∙◌, arith}
use Rattle.std.specs.List.{list_any}
use Rattle.std.proofs.lemmas.Bool.{lt-ltb, le-ltb, cases_lt}
use Rattle.oat_asm.specs.{SubImm, Str, with_reg, declared.item.Item.Item, is_returned_to, word_in, Stands}
use Rattle.oat_check.specs.{Ty, Steps.Frame}
use Rattle.oat_follow.specs.{Running, Reaching.RunsTo}
use Rattle.oat_frames.specs.{Code.CodeStands, Code.depth_tested, Code.behind_call, Code.prologue, Frames.World, Frames.IsWorld, Frames.Represents, Frames.IsAt, Frames.HoldsState, Frames.CallersAt}
use Rattle.oat_frames.specs.{Frames.IsStackPointer, Frames.IsSlotted, Frames.ReturnsTo, Frames.frame_size, Frames.home_of, Frames.home_word, Calls.CallSite, Calls.IsFunctionAt, Calls.IsBehindPrologue}
use Rattle.oat_frames.specs.{Calls.callee_frame, Calls.prologue_end, Phases.CallCounted, Phases.FrameLaid, Phases.first_value, Moments.KeepsGoing}
use Rattle.oat_frames.proofs.{Arming.behind-loads, Holding.slot-of, Holding.frame-of, Holding.above, Holding.globals-stay, Holding.word-is, Holding.value-is, Holding.value-small, Holding.zero-value}
use Rattle.oat_frames.proofs.{Opening.HasRoom, Opening.has-room, Opening.opened, Slots.lies, Registers.set-other}

-- what is behind the loads of a call
pub behind-test : (w : World) (args : List ℕ) (is : List Item) (p : ℕ) → CodeStands w p (depth_tested args is) → CodeStands w (p + 16 + 4 * length args) is
behind-test w args is p h =
    let e : p + 4 + 4 + 4 + 4 + 4 * length args ≡ p + 16 + 4 * length args = omega arith in
    subst (λ (q : ℕ). CodeStands w q is) e (behind-loads w args 0 (p + 4 + 4 + 4 + 4) is h.1.1.1.1.1).1

-- ---- the callee's values

argument : (f : ℕ → ℕ) (args : List ℕ) (i : ℕ) → i < length args → get_or (map f args) i 0 ≡ f (get_or args i 0)
argument f [] i h = absurd (omega arith)
argument f (k ∷ ks) zero h = refl
argument f (k ∷ ks) (suc i) h = argument f ks i (omega arith)

no-argument : (f : ℕ → ℕ) (args : List ℕ) (i : ℕ) → length args ≤ i → get_or (map f args) i 0 ≡ 0
no-argument f [] i h = refl
no-argument f (k ∷ ks) zero h = absurd (omega arith)
no-argument f (k ∷ ks) (suc i) h = no-argument f ks i (omega arith)

-- the arguments stand in the first registers, as values of the callee's kinds
abbrev pub Given : World → Frame → CallSite → (ℕ → ℕ) → Type 0
Given w f c x = (i : ℕ) → i < length c.args → Represents w (w.ty c.callee i) (f.locals (get_or c.args i 0)) (x i)

-- a home begins with its argument, or zero
filled-value : (w : World) (f : Frame) (c : CallSite) (x : ℕ → ℕ) → Given w f c x → (i : ℕ) → Represents w (w.ty c.callee i) ((callee_frame c f).locals i) (first_value x (length c.args) i)
filled-value w f c x given i = elim (cases_lt i (length c.args)) [
  | inl l ↦ word-is w (w.ty c.callee i) _ _ (x i) (ap (λ (t : Bool). cond t (x i) 0) (lt-ltb i (length c.args) l))
      (value-is w (w.ty c.callee i) _ (f.locals (get_or c.args i 0)) (x i) (argument f.locals c.args i l) (given i l))
  | inr g ↦ word-is w (w.ty c.callee i) _ _ 0 (ap (λ (t : Bool). cond t (x i) 0) (le-ltb i (length c.args) g))
      (value-is w (w.ty c.callee i) _ 0 0 (no-argument f.locals c.args i g) (zero-value w (w.ty c.callee i)))
]

-- ---- the saved X30

pub returns-behind : (w : World) (f : Frame) (result link q : ℕ) → w.result f.func f.block f.line ≡ Some result → link ≡ q + 4 → w.place f.func f.block (f.line + 1) ≡ q + 12
    → CodeStands w (q + 4) (behind_call result) → list_any (is_returned_to link) w.image.map.rows ≡ true → ReturnsTo w f link
returns-behind w f result link q is e next code site = record {
  result = result;
  is = is;
  next = by link q (w.place f.func f.block (f.line + 1)) e next;
  counts = subst (λ (p : ℕ). Stands w.image.code p (SubImm 28 28 1)) (sym e) code.0;
  stores = subst (λ (p : ℕ). Stands w.image.code (p + 4) (Str 0 31 (result + 1))) (sym e) code.1.0;
  site = site;
} where
  by : (link q next : ℕ) → link ≡ q + 4 → next ≡ q + 12 → link + 8 ≡ next
  by link q next a b = omega arith

-- ---- where the callee's code begins

-- a run that stands at a function's entry, called at a caller's line
pub record Enters (w : World) (f : Frame) (callers : List Frame) (c : CallSite) (m k : Running) : Type 0 where
  pub going : k.end ≡ None
  pub memory : k.machine.memory ≡ m.machine.memory
  pub sp : k.machine.regs.sp ≡ m.machine.regs.sp
  pub pc : k.machine.regs.pc ≡ w.label c.callee
  pub depth : k.machine.regs.x 28 ≡ suc (length callers)
  pub given : Given w f c k.machine.regs.x
  pub link : k.machine.regs.x 30 < 2 ^ 64
  pub back : ReturnsTo w f (k.machine.regs.x 30)

-- for direct and for indirect calls
pub enters : (w : World) → IsWorld w → (f : Frame) (callers : List Frame) (globals : ℕ → ℕ) (c : CallSite) (m k : Running) → IsAt w f callers globals m → length callers < 256
    → IsSlotted w f.func → length c.args ≤ 4 → IsFunctionAt w c.callee (length c.args) → Enters w f callers c m k
    → (l : Running) × RunsTo w.image (2 + w.locals c.callee) k l [] × KeepsGoing k l × IsBehindPrologue w f callers globals c l
enters w ok f callers globals c m k r few caller_slots four function e =
    let memory : ℕ → ℕ = m.machine.memory in
    let sp : ℕ = m.machine.regs.sp in
    let n : ℕ = length c.args in
    let size : ℕ = frame_size (w.locals c.callee) in
    let h : HoldsState w f.func f.locals callers globals m.machine.regs.x sp memory = r.holds in
    let slots : (i : ℕ) → i < w.locals f.func → Represents w (w.ty f.func i) (f.locals i) (word_in memory (sp + 8 * (i + 1))) = slot-of w m.machine.regs.x memory sp f.func f.locals caller_slots h.frame in
    let callers_hold : CallersAt w memory sp (f ∷ callers) = (λ x. frame-of w x memory sp f.func f.locals caller_slots slots, h.back, h.above) in
    let lies_sp : IsStackPointer sp (suc (length callers)) = lies w ok memory sp (f ∷ callers) callers_hold in
    let room0 : HasRoom sp size (w.locals c.callee) = has-room sp (suc (length callers)) (w.locals c.callee) lies_sp few (ok.few c.callee) in
    let room : HasRoom k.machine.regs.sp size (w.locals c.callee) = subst (λ (s : ℕ). HasRoom s size (w.locals c.callee)) (sym e.sp) room0 in
    let o = opened w ok.low (w.is_leaf c.callee) n (w.locals c.callee) k e.going (subst (λ (p : ℕ). CodeStands w p (prologue (w.is_leaf c.callee) n (w.locals c.callee))) (sym e.pc) function.start) (omega arith) room e.link
    (λ j l. value-small w ok (w.ty c.callee j) (f.locals (get_or c.args j 0)) (k.machine.regs.x j) (e.given j l)) in
    let l : Running = o.0 in
    let opened1 : FrameLaid w.image (w.is_leaf c.callee) n (w.locals c.callee) size k l = o.1 in
    let top : l.machine.regs.sp + size ≡ sp = opened1.sp ∙ e.sp in
    let same_above : (b : ℕ) → sp ≤ b → word_in l.machine.memory b ≡ word_in memory b =
    λ b i. opened1.others b (inr (subst (λ (s : ℕ). s ≤ b) (sym e.sp) i)) ∙ ap (λ (g : ℕ → ℕ). word_in g b) e.memory in
    let same_below : (b : ℕ) → b + 8 ≤ l.machine.regs.sp → word_in l.machine.memory b ≡ word_in memory b =
    λ b i. opened1.others b (inl i) ∙ ap (λ (g : ℕ → ℕ). word_in g b) e.memory in
    let low_sp : 0x7FF0_0000 ≤ l.machine.regs.sp = lowest sp size l.machine.regs.sp room0.fits room0.open_.low top in (
      l,
      opened1.runs,
      opened1.kept,
      record {
        going = opened1.kept.going;
        pc = opened1.pc ∙ ap (λ (p : ℕ). p + 8 + 4 * w.locals c.callee) e.pc;
        holds = record {
          depth = opened1.registers 28 (inr (omega arith)) ∙ e.depth;
          few = few;
          frame = λ i j. word-is w (w.ty c.callee i) ((callee_frame c f).locals i) (home_word l.machine.regs.x l.machine.memory l.machine.regs.sp (home_of (w.is_leaf c.callee) i)) (first_value k.machine.regs.x n i) (opened1.homes i j) (filled-value w f c k.machine.regs.x e.given i);
          back = subst (ReturnsTo w f) (sym opened1.saved) e.back;
          above = subst (λ (s : ℕ). CallersAt w l.machine.memory s (f ∷ callers)) (sym top) (above w memory l.machine.memory sp (f ∷ callers) same_above callers_hold);
          words = globals-stay w ok memory l.machine.memory l.machine.regs.sp globals low_sp same_below h.words;
        };
      },
    ) where
      lowest : (sp size s : ℕ) → size ≤ sp → 0x7FF0_0000 ≤ sp - size → s + size ≡ sp → 0x7FF0_0000 ≤ s
      lowest sp size s fits low top = omega arith

pub deep : (callers : List Frame) (count : ℕ) → count ≡ length callers → length callers < 256 → count < 256
deep callers count is few = omega arith

pub one-more : (callers : List Frame) (count : ℕ) → count ≡ length callers → count + 1 ≡ suc (length callers)
one-more callers count is = omega arith

-- the arguments that are loaded, once X30 is set
pub given-by : (w : World) (f : Frame) (c : CallSite) (m k : Running) (link : ℕ) → length c.args ≤ 4 → CallCounted w.image c.args m k
    → ((i : ℕ) → i < w.locals f.func → Represents w (w.ty f.func i) (f.locals i) (word_in m.machine.memory (m.machine.regs.sp + 8 * (i + 1))))
    → ((i : ℕ) → i < length c.args → get_or c.args i 0 < w.locals f.func) → ((i : ℕ) → i < length c.args → w.ty f.func (get_or c.args i 0) ≡ w.ty c.callee i)
    → Given w f c (with_reg k.machine.regs 30 link).x
given-by w f c m k link four a slots locals types j l =
    let v : ℕ = get_or c.args j 0 in
    subst (λ (ty : Ty). Represents w ty (f.locals v) ((with_reg k.machine.regs 30 link).x j)) (types j l)
    (word-is w (w.ty f.func v) (f.locals v) ((with_reg k.machine.regs 30 link).x j) (word_in m.machine.memory (m.machine.regs.sp + 8 * (v + 1)))
    (set-other k.machine.regs.x 30 link j (λ e. absurd (omega arith)) ∙ a.values j l) (slots v (locals j l)))

-- the run stands at the first line, where it is behind the prologue
pub at-first : (w : World) (f : Frame) (callers : List Frame) (globals : ℕ → ℕ) (c : CallSite) (l : Running) → w.place c.callee 0 0 ≡ prologue_end w c.callee → IsBehindPrologue w f callers globals c l → IsAt w (callee_frame c f) (f ∷ callers) globals l
at-first w f callers globals c l first laid = record { going = laid.going; pc = laid.pc ∙ sym first; holds = laid.holds }
