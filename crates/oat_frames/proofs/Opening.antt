-- The start of a function lays its frame: for a call, and for the start of the whole run.
use Rattle.std.proofs.Common.{◌≡◌, ◌+◌, ◌*◌, ◌%◌, ◌^◌, ◌<◌, ◌≤◌, ◌-◌, inl, inr, ℕ, Bool, [], None, refl, ap, subst, ◌∙◌, arith}
use Rattle.oat_mem.proofs.Words.{words_read_back, other_words_stay}
use Rattle.oat_asm.specs.{word_in, with_word}
use Rattle.oat_follow.specs.{Running, Reaching.RunsTo}
use Rattle.oat_frames.specs.{Code.CodeStands, Code.prologue, Frames.World, Frames.IsLow, Frames.IsStackPointer, Frames.frame_size, Frames.home_of, Frames.home_word, Phases.HasSlots}
use Rattle.oat_frames.specs.{Phases.LocalsStored, Phases.FrameLaid, Moments.next_moment}
use Rattle.oat_frames.proofs.{Reaching.thence, Reaching.counted, Reaching.kept-on, Runs.filled, Slots.IsFrameSize, Slots.frame-size-is, Slots.slot-opens, Slots.slot-small, Registers.with_sp}
use Rattle.oat_frames.proofs.{Registers.with_slot, Steps.sub-sp, Steps.str}

-- below at most 256 frames there is room for another
pub record HasRoom (sp size locals : ℕ) : Type 0 where
  pub fits : size ≤ sp
  pub small : sp < 2 ^ 64
  pub open_ : HasSlots (sp - size) (locals + 1)
  pub inside : 8 * (locals + 1) ≤ size

pub has-room : (sp n locals : ℕ) → IsStackPointer sp n → n ≤ 256 → locals ≤ 255 → HasRoom sp (frame_size locals) locals
has-room sp n locals l few h =
    let f : IsFrameSize locals = frame-size-is locals h in
    by (frame_size locals) f.room f.most f.whole l.aligned l.below l.near where
      by : (size : ℕ) → 8 * (locals + 1) ≤ size → size ≤ 2048 → size % 16 ≡ 0 → sp % 16 ≡ 0 → sp ≤ 0x8000_0000 → 0x8000_0000 ≤ sp + 2048 * n → HasRoom sp size locals
      by size room most whole aligned below near = record { fits = omega arith; small = omega arith; open_ = record { aligned = omega arith; low = omega arith; high = omega arith }; inside = room }

pub opened : (w : World) → IsLow w.image → (leaf : Bool) (params locals : ℕ) (m : Running) → m.end ≡ None → CodeStands w m.machine.regs.pc (prologue leaf params locals) → params ≤ 19
    → HasRoom m.machine.regs.sp (frame_size locals) locals → m.machine.regs.x 30 < 2 ^ 64 → ((j : ℕ) → j < params → m.machine.regs.x j < 2 ^ 64)
    → (k : Running) × FrameLaid w.image leaf params locals (frame_size locals) m k
opened w low leaf params locals m going at few room saved small =
    let size : ℕ = frame_size locals in
    let s : ℕ = m.machine.regs.sp - size in
    let link : ℕ = m.machine.regs.x 30 in
    let m1 : Running = next_moment m (with_sp m.machine s) in
    let m2 : Running = next_moment m1 (with_slot m1.machine (s + 8 * 0) link) in
    let one : RunsTo w.image 1 m m1 [] = sub-sp w.image low m size going at.0 room.fits room.small in
    let two : RunsTo w.image 1 m1 m2 [] = str w.image low m1 30 0 going at.1.0 (slot-small s (locals + 1) 0 room.open_ (omega arith)) (slot-opens s (locals + 1) 0 room.open_ (omega arith)) in
    let rest = filled w low leaf locals params 0 (locals + 1) m2 going at.1.1 few room.open_ (omega arith) small in
    let k : Running = rest.0 in
    let f : LocalsStored w.image leaf params 0 locals m2 k = rest.1 in
    let first : s + 8 * 0 ≡ s = omega arith in
    let fits : size ≤ m.machine.regs.sp = room.fits in
    let inside : 8 * (locals + 1) ≤ size = room.inside in
    let back : word_in k.machine.memory s ≡ link =
    f.others s (inl (omega arith)) ∙ ap (λ (a : ℕ). word_in (with_word m.machine.memory a link) s) first ∙ words_read_back m.machine.memory s link saved in (
      k,
      record {
        runs = counted w.image (1 + (1 + locals)) (2 + locals) m k [] (omega arith)
            (thence w.image 1 (1 + locals) m m1 k [] [] one (thence w.image 1 locals m1 m2 k [] [] two f.runs));
        kept = kept-on m m2 k (record { going = going; inputs = refl; outputs = refl }) f.kept;
        registers = λ j h. elim h [
          | inl a ↦ f.registers j (inl (omega arith))
          | inr a ↦ f.registers j (inr a)
        ];
        sp = ap (λ (a : ℕ). a + size) f.sp ∙ joined m.machine.regs.sp size fits;
        pc = f.pc ∙ plus m.machine.regs.pc locals;
        saved = ap (word_in k.machine.memory) f.sp ∙ back;
        homes = λ i h. ap (λ (a : ℕ). home_word k.machine.regs.x k.machine.memory a (home_of leaf i)) f.sp ∙ f.homes i (omega arith) (omega arith);
        others = λ a h. elim h [
          | inl b ↦ let c : a + 8 ≤ s = subst (λ (q : ℕ). a + 8 ≤ q) f.sp b in
              f.others a (inl (omega arith)) ∙ other_words_stay m.machine.memory (s + 8 * 0) link a (inr (omega arith))
          | inr b ↦ f.others a (inr (over a m.machine.regs.sp size locals fits inside b)) ∙ other_words_stay m.machine.memory (s + 8 * 0) link a (inl (first-over a m.machine.regs.sp size locals fits inside b))
        ];
      },
    ) where
      joined : (sp size : ℕ) → size ≤ sp → sp - size + size ≡ sp
      joined sp size h = omega arith

      plus : (p n : ℕ) → p + 4 + 4 + 4 * n ≡ p + 8 + 4 * n
      plus p n = omega arith

      over : (a sp size n : ℕ) → size ≤ sp → 8 * (n + 1) ≤ size → sp ≤ a → sp - size + 8 * (0 + n + 1) ≤ a
      over a sp size n fits inside h = omega arith

      first-over : (a sp size n : ℕ) → size ≤ sp → 8 * (n + 1) ≤ size → sp ≤ a → sp - size + 8 * 0 + 8 ≤ a
      first-over a sp size n fits inside h = omega arith
