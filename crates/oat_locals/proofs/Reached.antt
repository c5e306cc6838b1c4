-- A line whose operands are taken where they are held: what is left of its code, and how it is made, instruction by instruction.
use Rattle.std.proofs.Common.{◌≡◌, ◌+◌, ◌*◌, ◌^◌, ◌<◌, ◌≤◌, inl, inr, ℕ, pos, not, cond, Bool, List, [], ◌∷◌, ◌++◌, None, Some, refl, sym, ap, subst, ◌∙◌, arith, ne_eqb, eq-eqb, ltb}
use Rattle.std.proofs.lemmas.Bool.{lt-ltb}
use Rattle.oat_asm.proofs.StandingItems.{words_of_two}
use Rattle.oat_frames.specs.{Inst, SubsReg, Cbnz, Brk, Ldr, Str, Regs, act, goes_on, reg, with_reg, Item, words_needed, DivZero, row_over, Running, Stands, Ty, I64, Frame, Code.CodeStands}
use Rattle.oat_frames.specs.{Code.load_inst, Code.store_inst, Comes.StepsTo, Comes.EndsWithin, Comes.with_result, Frames.World, Frames.IsWorld, Frames.Home, Frames.slot, Frames.register}
use Rattle.oat_frames.specs.{Frames.Represents, Frames.HoldsState, Frames.IsAt, Frames.home_word, Frames.home_in, Frames.line_address, Lines.IsLineAt, Lines.IsNumberLocal, Phases.HasSlots}
use Rattle.oat_frames.specs.{Readied.IsReadied, Moments.next_moment, Moments.jumped, RunsTo, inst_makes}
use Rattle.oat_frames.proofs.{Kit.still, Kit.thence, Kit.set-same, Kit.set-other, Kit.with_x, Kit.compared, Kit.IsQuiet, Kit.sets, Kit.compares, Kit.cbnz-skips, Kit.cbnz-passes, Kit.brk-zero}
use Rattle.oat_frames.proofs.{FrameLaws.home-cases, FrameLaws.HomeWritten, FrameLaws.reads-home, FrameLaws.readied-holds, FrameLaws.here-opens, FrameLaws.assigns, FrameLaws.comes-within}
use Rattle.oat_frames.proofs.{FrameLaws.puts-home}
use Rattle.oat_locals.specs.Code.{operand_in, operand_load, operand_store, divisor_tested}
use Rattle.oat_asm.specs.declared.item.Item.TheVariants as item
use Rattle.oat_asm.specs.declared.note.Note.TheVariants as note
use Rattle.oat_frames.specs.rows as rows
use Rattle.oat_frames.specs.ends as ends

pub reg-low : (x : Regs) (n : ℕ) → n < 31 → reg x n ≡ x.x n
reg-low x n h = ap (λ (t : Bool). cond t (x.x n) 0) (lt-ltb n 31 h)

module _ (w : World) (ok : IsWorld w) (f : Frame) (callers : List Frame) (globals : ℕ → ℕ) (m : Running) (r : IsAt w f callers globals m) where
  -- so many instructions of the line are made, these items are left, and behind them stands the next line
  pub record Reached (count : ℕ) (is : List Item) (k : Running) : Type 0 where
    pub bytes : ℕ
    pub ready : IsReadied w.image count bytes [] m.inputs m k
    pub code : CodeStands w k.machine.regs.pc is
    pub next : w.place f.func f.block (f.line + 1) ≡ k.machine.regs.pc + 4 * words_needed is

  pub begun : (is : List Item) → IsLineAt w f is → Reached 0 is m
  begun is line = record {
    bytes = 0;
    ready = record {
      runs = still w.image m;
      going = r.going;
      inputs = refl;
      outputs = refl;
      memory = refl;
      sp = refl;
      depth = refl;
      homes = λ i h. refl;
      pc = none m.machine.regs.pc;
    };
    code = subst (λ (p : ℕ). CodeStands w p is) (sym r.pc) line.code;
    next = line.next ∙ ap (λ (p : ℕ). p + 4 * words_needed is) (sym r.pc);
  } where
    none : (p : ℕ) → p ≡ p + 0
    none p = omega arith

  -- one instruction that changes scratch registers, flags or the PC alone
  onward : (count skipped : ℕ) (pre is : List Item) (k l : Running) → Reached count (pre ++ is) k → RunsTo w.image 1 k l [] → l.end ≡ None → l.inputs ≡ k.inputs → l.outputs ≡ k.outputs → l.machine.memory ≡ k.machine.memory
      → l.machine.regs.sp ≡ k.machine.regs.sp → ((j : ℕ) → 19 ≤ j → l.machine.regs.x j ≡ k.machine.regs.x j) → l.machine.regs.pc ≡ k.machine.regs.pc + 4 * skipped → words_needed pre ≡ skipped
      → CodeStands w l.machine.regs.pc is → Reached (count + 1) is l
  onward count skipped pre is k l h runs going inputs outputs memory sp same pc words code = record {
    bytes = h.bytes + 4 * skipped;
    ready = record {
      runs = thence w.image count 1 m k l [] [] h.ready.runs runs;
      going = going;
      inputs = inputs ∙ h.ready.inputs;
      outputs = outputs ∙ h.ready.outputs;
      memory = memory ∙ h.ready.memory;
      sp = sp ∙ h.ready.sp;
      depth = same 28 (omega arith) ∙ h.ready.depth;
      homes = λ i low. same (19 + i) (omega arith) ∙ h.ready.homes i low;
      pc = pc ∙ ap (λ (p : ℕ). p + 4 * skipped) h.ready.pc ∙ plus m.machine.regs.pc h.bytes (4 * skipped);
    };
    code = code;
    next = h.next ∙ behind k.machine.regs.pc skipped (words_needed (pre ++ is)) (words_needed is) (words_of_two pre is ∙ ap (λ (n : ℕ). n + words_needed is) words) ∙ ap (λ (p : ℕ). p + 4 * words_needed is) (sym pc);
  } where
    plus : (p b n : ℕ) → p + b + n ≡ p + (b + n)
    plus p b n = omega arith

    behind : (p skipped words left : ℕ) → words ≡ skipped + left → p + 4 * words ≡ p + 4 * skipped + 4 * left
    behind p skipped words left e = omega arith

  -- a scratch register gets a number
  pub gives : (count rt v : ℕ) (i : Inst) (is : List Item) (k : Running) → Reached count (item.Inst i ∷ is) k → rt < 19 → IsQuiet w.image i → act i k.machine ≡ goes_on k.machine (with_reg k.machine.regs rt v)
      → Reached (count + 1) is (next_moment k (with_x k.machine rt v))
  gives count rt v i is k h low quiet does =
      onward count 1 (item.Inst i ∷ []) is k (next_moment k (with_x k.machine rt v)) h (sets w.image ok.low k i rt v h.ready.going h.code.0 quiet does) h.ready.going refl refl refl refl
      (λ j high. set-other k.machine.regs.x rt v j (λ e. absurd (omega arith))) refl refl h.code.1

  -- two registers are compared
  pub flags : (count a b : ℕ) (is : List Item) (k : Running) → Reached count (item.Inst (SubsReg 31 a b) ∷ is) k → Reached (count + 1) is (next_moment k (compared k.machine (reg k.machine.regs a) (reg k.machine.regs b)))
  flags count a b is k h =
      onward count 1 (item.Inst (SubsReg 31 a b) ∷ []) is k (next_moment k (compared k.machine (reg k.machine.regs a) (reg k.machine.regs b))) h
      (compares w.image ok.low k (SubsReg 31 a b) (reg k.machine.regs a) (reg k.machine.regs b) h.ready.going h.code.0 (λ r next. refl) refl) h.ready.going refl refl refl refl (λ j high. refl) refl refl h.code.1

  -- a divisor isn't 0, and the trap is skipped
  pub skips : (count b : ℕ) (is : List Item) (k : Running) → Reached count (divisor_tested b is) k → (reg k.machine.regs b ≡ 0 → ⊥) → Reached (count + 1) is (jumped k k.machine.regs (k.machine.regs.pc + 4 + 4))
  skips count b is k h some =
      onward count 2 (item.Note note.Check ∷ item.Inst (Cbnz b (pos 2)) ∷ item.Inst (Brk 1) ∷ []) is k (jumped k k.machine.regs (k.machine.regs.pc + 4 + 4)) h
      (cbnz-skips w.image ok.low k b k.machine.regs.pc h.ready.going h.code.1.0 (h.code.0 k.machine.regs.pc (omega arith) (omega arith)) (ap not (ne_eqb (reg k.machine.regs b) 0 some)))
      h.ready.going refl refl refl refl (λ j high. refl) (twice k.machine.regs.pc) refl h.code.1.1.1 where
        twice : (p : ℕ) → p + 4 + 4 ≡ p + 4 * 2
        twice p = omega arith

  -- it is 0
  pub traps : (count b : ℕ) (is : List Item) (k : Running) → Reached count (divisor_tested b is) k → count ≤ 2 → reg k.machine.regs b ≡ 0 → EndsWithin w 4 (ends.Trap DivZero) m
  traps count b is k h few none =
      let l : Running = next_moment k k.machine in
      let end : Running = inst_makes l (Brk 1) in
      let one : RunsTo w.image 1 k l [] = cbnz-passes w.image ok.low k b k.machine.regs.pc h.ready.going h.code.1.0 (h.code.0 k.machine.regs.pc (omega arith) (omega arith)) (ap not (eq-eqb (reg k.machine.regs b) 0 none)) in
      record {
        to = end;
        count = count + 2;
        some = omega arith;
        few = omega arith;
        runs = thence w.image count 2 m k end [] [] h.ready.runs (thence w.image 1 1 k l end [] [] one (brk-zero w.image ok.low l h.ready.going h.code.1.1.0));
        end = refl;
        outputs = h.ready.outputs;
      }

  -- ---- operands

  abbrev pub Holds : Running → Type 0
  Holds k = HoldsState w f.func f.locals callers globals k.machine.regs.x k.machine.regs.sp k.machine.memory

  pub holds-there : (count : ℕ) (is : List Item) (k : Running) → Reached count is k → Holds k
  holds-there count is k h = readied-holds w f.func f.locals callers globals count h.bytes [] m.inputs m k h.ready r.holds

  held-number : (y : ℕ) (k : Running) → Holds k → IsNumberLocal w f y → home_word k.machine.regs.x k.machine.memory k.machine.regs.sp (home_in w f y) ≡ f.locals y
  held-number y k holds is =
      (subst (λ (ty : Ty). Represents w ty (f.locals y) (home_word k.machine.regs.x k.machine.memory k.machine.regs.sp (home_in w f y))) is.ty (holds.frame y is.local)).is

  -- an operand is where it is wanted, and all registers but its scratch one stay
  pub record Loaded (count rt y : ℕ) (is : List Item) (k l : Running) : Type 0 where
    pub steps : ℕ
    pub few : steps ≤ count + 1
    pub reached : Reached steps is l
    pub value : reg l.machine.regs (operand_in rt (home_in w f y)) ≡ f.locals y
    pub others : (j : ℕ) → (j ≡ rt → ⊥) → reg l.machine.regs j ≡ reg k.machine.regs j

  pub loaded : (count rt y : ℕ) (is : List Item) (k : Running) → Reached count (operand_load rt (home_in w f y) ++ is) k → rt < 19 → IsNumberLocal w f y → (l : Running) × Loaded count rt y is k l
  loaded count rt y is k h low local = elim (home-cases (w.is_leaf f.func) y) [
    | inl at ↦ from-slot at (subst (λ (home : Home). Reached count (operand_load rt home ++ is) k) at h)
    | inr at ↦ in-register at.0 at.1 (subst (λ (home : Home). Reached count (operand_load rt home ++ is) k) at.0 h)
  ] where
    word : home_word k.machine.regs.x k.machine.memory k.machine.regs.sp (home_in w f y) ≡ f.locals y
    word = held-number y k (holds-there count (operand_load rt (home_in w f y) ++ is) k h) local

    from-slot : home_in w f y ≡ slot (y + 1) → Reached count (item.Inst (Ldr rt 31 (y + 1)) ∷ is) k → (l : Running) × Loaded count rt y is k l
    from-slot at here =
        let l : Running = next_moment k (with_x k.machine rt (f.locals y)) in
        let inside : y < w.locals f.func = local.local in
        let runs : RunsTo w.image 1 k l [] = reads-home w.image ok.low (w.is_leaf f.func) k rt y (w.locals f.func + 1) (f.locals y) here.ready.going
        (subst (λ (home : Home). Stands w.image.code k.machine.regs.pc (load_inst rt home)) (sym at) here.code.0)
        (subst (λ (s : ℕ). HasSlots s (w.locals f.func + 1)) (sym here.ready.sp) (here-opens w ok f callers globals m r)) (omega arith) word in (
          l,
          record {
            steps = count + 1;
            few = omega arith;
            reached = onward count 1 (item.Inst (Ldr rt 31 (y + 1)) ∷ []) is k l here runs here.ready.going refl refl refl refl (λ j high. set-other k.machine.regs.x rt (f.locals y) j (λ e. absurd (omega arith))) refl refl here.code.1;
            value = ap (λ (home : Home). reg l.machine.regs (operand_in rt home)) at ∙ reg-low l.machine.regs rt (omega arith) ∙ set-same k.machine.regs.x rt (f.locals y) (omega arith);
            others = λ j apart. ap (λ (v : ℕ). cond (ltb j 31) v 0) (set-other k.machine.regs.x rt (f.locals y) j apart);
          },
        )

    in-register : home_in w f y ≡ register (19 + y) → y < 8 → Reached count is k → (l : Running) × Loaded count rt y is k l
    in-register at few here = (
      k,
      record {
        steps = count;
        few = omega arith;
        reached = here;
        value = ap (λ (home : Home). reg k.machine.regs (operand_in rt home)) at ∙ reg-low k.machine.regs (19 + y) (omega arith) ∙ sym (ap (home_word k.machine.regs.x k.machine.memory k.machine.regs.sp) at) ∙ word;
        others = λ j apart. refl;
      },
    )

  -- ---- the end: the last instruction gives the result's register its number

  pub ends-with : (count x c : ℕ) (i : Inst) (k : Running) → Reached count (item.Inst i ∷ operand_store 9 (home_in w f x)) k → count ≤ 4 → IsNumberLocal w f x → c < 2 ^ 64 → IsQuiet w.image i
      → act i k.machine ≡ goes_on k.machine (with_reg k.machine.regs (operand_in 9 (home_in w f x)) c) → StepsTo w 6 (with_result f x c) callers globals [] m
  ends-with count x c i k h few local small quiet does = elim (home-cases (w.is_leaf f.func) x) [
    | inl at ↦ into-slot at (subst (λ (home : Home). Reached count (item.Inst i ∷ operand_store 9 home) k) at h) (does ∙ ap (λ (home : Home). goes_on k.machine (with_reg k.machine.regs (operand_in 9 home) c)) at)
    | inr at ↦ into-register at.0 at.1 (subst (λ (home : Home). Reached count (item.Inst i ∷ operand_store 9 home) k) at.0 h) (does ∙ ap (λ (home : Home). goes_on k.machine (with_reg k.machine.regs (operand_in 9 home) c)) at.0)
  ] where
    value : Represents w (w.ty f.func x) c c
    value = subst (λ (ty : Ty). Represents w ty c c) (sym local.ty) (record { known = small; is = refl })

    into-slot : home_in w f x ≡ slot (x + 1) → Reached count (item.Inst i ∷ item.Inst (Str 9 31 (x + 1)) ∷ []) k → act i k.machine ≡ goes_on k.machine (with_reg k.machine.regs 9 c) → StepsTo w 6 (with_result f x c) callers globals [] m
    into-slot at here makes =
        let l : Running = next_moment k (with_x k.machine 9 c) in
        let behind : Reached (count + 1) (item.Inst (Str 9 31 (x + 1)) ∷ []) l = gives count 9 c i (item.Inst (Str 9 31 (x + 1)) ∷ []) k here (omega arith) quiet makes in
        let pc : l.machine.regs.pc ≡ line_address w f + behind.bytes = behind.ready.pc ∙ ap (λ (p : ℕ). p + behind.bytes) r.pc in
        comes-within w (count + 1 + 1) 6 (with_result f x c) callers globals [] m.inputs m.outputs m (omega arith)
        (assigns w ok f callers globals m r (count + 1) behind.bytes 9 x c [] m.inputs l behind.ready
        (subst (λ (p : ℕ). Stands w.image.code p (store_inst 9 (home_in w f x))) pc (subst (λ (home : Home). Stands w.image.code l.machine.regs.pc (store_inst 9 home)) (sym at) behind.code.0))
        (behind.next ∙ ap (λ (p : ℕ). p + 4) pc) local.local value)

    into-register : home_in w f x ≡ register (19 + x) → x < 8 → Reached count (item.Inst i ∷ []) k → act i k.machine ≡ goes_on k.machine (with_reg k.machine.regs (19 + x) c) → StepsTo w 6 (with_result f x c) callers globals [] m
    into-register at low here makes =
        let l : Running = next_moment k (with_x k.machine (19 + x) c) in
        let put : HomeWritten w.image (w.is_leaf f.func) x c k l = record {
          runs = sets w.image ok.low k i (19 + x) c here.ready.going here.code.0 quiet makes;
          kept = record { going = here.ready.going; inputs = refl; outputs = refl };
          sp = refl;
          pc = refl;
          here = ap (home_word l.machine.regs.x l.machine.memory k.machine.regs.sp) at ∙ set-same k.machine.regs.x (19 + x) c (omega arith);
          registers = λ j apart. set-other k.machine.regs.x (19 + x) c j (λ e. absurd (beyond j e (apart e)));
          others = λ a apart. refl;
        } in
        record {
          to = l;
          count = count + 1;
          some = omega arith;
          few = omega arith;
          runs = thence w.image count 1 m k l [] [] here.ready.runs put.runs;
          inputs = here.ready.inputs;
          outputs = here.ready.outputs;
          is_at = record {
            going = here.ready.going;
            pc = sym here.next;
            holds = puts-home w ok f.func f.locals callers globals x c c k l (holds-there count (item.Inst i ∷ []) k here) put local.local value;
          };
        } where
          beyond : (j : ℕ) → j ≡ 19 + x → 27 ≤ j → ⊥
          beyond j e far = absurd (omega arith)
