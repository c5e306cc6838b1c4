-- Where locals are held: a slot, or in a leaf a register; one instruction reads a home, and one writes it.
use Rattle.std.proofs.Common.{◌≡◌, ◌+◌, ◌*◌, ◌^◌, ◌<◌, ◌≤◌, ◌⊎◌, inl, inr, ℕ, zero, suc, Bool, true, false, cond, ltb, [], None, refl, sym, ap, subst, ◌∙◌, arith, lit<}
use Rattle.std.proofs.lemmas.Bool.{lt-ltb, ltb-true, cases_lt}
use Rattle.oat_mem.proofs.Words.{words_read_back, other_words_stay}
use Rattle.oat_asm.specs.{OrrReg, Ldr, Str, Regs, reg, goes_on, with_reg, IsInRange, Image, word_in, Stands}
use Rattle.oat_follow.specs.{Running, Reaching.RunsTo}
use Rattle.oat_frames.specs.{Frames.Home, Frames.slot, Frames.register, Frames.home_of, Frames.home_word, Frames.IsLow, Code.IsHome, Code.load_inst, Code.store_inst, Moments.KeepsGoing}
use Rattle.oat_frames.specs.{Moments.next_moment, Phases.HasSlots, Readied.KeepsHomes}
use Rattle.oat_frames.proofs.{Registers.with_x, Registers.with_slot, Registers.set-same, Registers.set-other, Slots.slot-opens, Slots.slot-small, Steps.sets, Steps.ldr, Steps.str}

-- ---- homes

-- a local of a leaf beyond the eighth has a slot like those of other functions
pub home-cases : (leaf : Bool) (i : ℕ) → (home_of leaf i ≡ slot (i + 1)) ⊎ ((home_of leaf i ≡ register (19 + i)) × (i < 8))
home-cases false i = inl refl
home-cases true i = by (ltb i 8) refl where
  by : (t : Bool) → ltb i 8 ≡ t → (home_of true i ≡ slot (i + 1)) ⊎ ((home_of true i ≡ register (19 + i)) × (i < 8))
  by true is = inr (ap (λ (t : Bool). cond t (register (19 + i)) (slot (i + 1))) is, ltb-true i 8 is)
  by false is = inl (ap (λ (t : Bool). cond t (register (19 + i)) (slot (i + 1))) is)

-- the eight registers, one by one
abbrev pub SameEight : (ℕ → ℕ) → (ℕ → ℕ) → Type 0
SameEight x y = (y 19 ≡ x 19) × (y 20 ≡ x 20) × (y 21 ≡ x 21) × (y 22 ≡ x 22) × (y 23 ≡ x 23) × (y 24 ≡ x 24) × (y 25 ≡ x 25) × (y 26 ≡ x 26)

pub keeps-eight : (x y : ℕ → ℕ) → SameEight x y → KeepsHomes x y
keeps-eight x y e zero h = e.0
keeps-eight x y e (suc zero) h = e.1
keeps-eight x y e (suc (suc zero)) h = e.2
keeps-eight x y e (suc (suc (suc zero))) h = e.3
keeps-eight x y e (suc (suc (suc (suc zero)))) h = e.4
keeps-eight x y e (suc (suc (suc (suc (suc zero))))) h = e.5
keeps-eight x y e (suc (suc (suc (suc (suc (suc zero)))))) h = e.6
keeps-eight x y e (suc (suc (suc (suc (suc (suc (suc zero))))))) h = e.7
keeps-eight x y e (suc (suc (suc (suc (suc (suc (suc (suc i)))))))) h = absurd (omega arith)

-- what a home holds stays with its register and with the words from SP on
pub held-on : (leaf : Bool) (x y old new : ℕ → ℕ) (sp i : ℕ) → KeepsHomes x y → ((a : ℕ) → sp ≤ a → word_in new a ≡ word_in old a) → home_word y new sp (home_of leaf i) ≡ home_word x old sp (home_of leaf i)
held-on leaf x y old new sp i keeps same = elim (home-cases leaf i) [
  | inl is ↦ ap (home_word y new sp) is ∙ same (sp + 8 * (i + 1)) (omega arith) ∙ sym (ap (home_word x old sp) is)
  | inr is ↦ ap (home_word y new sp) is.0 ∙ keeps i is.1 ∙ sym (ap (home_word x old sp) is.0)
]

-- ---- the two instructions

pub reg-low : (r : Regs) (n : ℕ) → n < 31 → reg r n ≡ r.x n
reg-low r n h = ap (λ (t : Bool). cond t (r.x n) 0) (lt-ltb n 31 h)

-- a home was written with a word, in one instruction, and else all registers and words are as they were
pub record HomeWritten (image : Image) (leaf : Bool) (i word : ℕ) (m k : Running) : Type 0 where
  pub runs : RunsTo image 1 m k []
  pub kept : KeepsGoing m k
  pub sp : k.machine.regs.sp ≡ m.machine.regs.sp
  pub pc : k.machine.regs.pc ≡ m.machine.regs.pc + 4
  pub here : home_word k.machine.regs.x k.machine.memory m.machine.regs.sp (home_of leaf i) ≡ word
  pub registers : (j : ℕ) → (j ≡ 19 + i → 27 ≤ j) → k.machine.regs.x j ≡ m.machine.regs.x j
  pub others : (a : ℕ) → (m.machine.regs.sp + 8 * (i + 1) + 8 ≤ a) ⊎ (a + 8 ≤ m.machine.regs.sp + 8 * (i + 1)) → word_in k.machine.memory a ≡ word_in m.machine.memory a

-- another home holds what it held
pub other-home : (image : Image) (leaf : Bool) (i word : ℕ) (m k : Running) → HomeWritten image leaf i word m k → (j : ℕ) → (j ≡ i → ⊥)
    → home_word k.machine.regs.x k.machine.memory m.machine.regs.sp (home_of leaf j) ≡ home_word m.machine.regs.x m.machine.memory m.machine.regs.sp (home_of leaf j)
other-home image leaf i word m k h j apart = elim (home-cases leaf j) [
  | inl is ↦ ap (home_word k.machine.regs.x k.machine.memory m.machine.regs.sp) is ∙ slots (cases_lt j i) ∙ sym (ap (home_word m.machine.regs.x m.machine.memory m.machine.regs.sp) is)
  | inr is ↦ ap (home_word k.machine.regs.x k.machine.memory m.machine.regs.sp) is.0 ∙ h.registers (19 + j) (λ e. absurd (apart (same j i e))) ∙ sym (ap (home_word m.machine.regs.x m.machine.memory m.machine.regs.sp) is.0)
] where
  same : (j i : ℕ) → 19 + j ≡ 19 + i → j ≡ i
  same j i e = omega arith

  slots : (j < i) ⊎ (i ≤ j) → word_in k.machine.memory (m.machine.regs.sp + 8 * (j + 1)) ≡ word_in m.machine.memory (m.machine.regs.sp + 8 * (j + 1))
  slots (inl less) = h.others (m.machine.regs.sp + 8 * (j + 1)) (inr (omega arith))
  slots (inr from) = h.others (m.machine.regs.sp + 8 * (j + 1)) (inl (more m.machine.regs.sp from)) where
    more : (sp : ℕ) → i ≤ j → sp + 8 * (i + 1) + 8 ≤ sp + 8 * (j + 1)
    more sp from = omega (arith, apart)

module _ (image : Image) (low : IsLow image) (leaf : Bool) where
  pub writes-home : (m : Running) (rt i n : ℕ) → m.end ≡ None → Stands image.code m.machine.regs.pc (store_inst rt (home_of leaf i)) → HasSlots m.machine.regs.sp n → i + 1 < n → reg m.machine.regs rt < 2 ^ 64
      → (k : Running) × HomeWritten image leaf i (reg m.machine.regs rt) m k
  writes-home m rt i n going at open_ within small = elim (home-cases leaf i) [
    | inl is ↦ into-slot is (subst (λ (home : Home). Stands image.code m.machine.regs.pc (store_inst rt home)) is at)
    | inr is ↦ into-register is.0 is.1 (subst (λ (home : Home). Stands image.code m.machine.regs.pc (store_inst rt home)) is.0 at)
  ] where
    into-slot : home_of leaf i ≡ slot (i + 1) → Stands image.code m.machine.regs.pc (Str rt 31 (i + 1)) → (k : Running) × HomeWritten image leaf i (reg m.machine.regs rt) m k
    into-slot is here = (
      next_moment m (with_slot m.machine (m.machine.regs.sp + 8 * (i + 1)) (reg m.machine.regs rt)),
      record {
        runs = str image low m rt (i + 1) going here (slot-small m.machine.regs.sp n (i + 1) open_ within) (slot-opens m.machine.regs.sp n (i + 1) open_ within);
        kept = record { going = going; inputs = refl; outputs = refl };
        sp = refl;
        pc = refl;
        here = ap (home_word m.machine.regs.x (with_slot m.machine (m.machine.regs.sp + 8 * (i + 1)) (reg m.machine.regs rt)).memory m.machine.regs.sp) is
            ∙ words_read_back m.machine.memory (m.machine.regs.sp + 8 * (i + 1)) (reg m.machine.regs rt) small;
        registers = λ j apart. refl;
        others = λ a apart. other_words_stay m.machine.memory (m.machine.regs.sp + 8 * (i + 1)) (reg m.machine.regs rt) a apart;
      },
    )

    into-register : home_of leaf i ≡ register (19 + i) → i < 8 → Stands image.code m.machine.regs.pc (OrrReg (19 + i) 31 rt) → (k : Running) × HomeWritten image leaf i (reg m.machine.regs rt) m k
    into-register is few here = (
      next_moment m (with_x m.machine (19 + i) (reg m.machine.regs rt)),
      record {
        runs = sets image low m (OrrReg (19 + i) 31 rt) (19 + i) (reg m.machine.regs rt) going here (λ r next. refl) refl;
        kept = record { going = going; inputs = refl; outputs = refl };
        sp = refl;
        pc = refl;
        here = ap (home_word (with_x m.machine (19 + i) (reg m.machine.regs rt)).regs.x m.machine.memory m.machine.regs.sp) is ∙ set-same m.machine.regs.x (19 + i) (reg m.machine.regs rt) (omega arith);
        registers = λ j apart. set-other m.machine.regs.x (19 + i) (reg m.machine.regs rt) j (λ e. absurd (beyond j i few e (apart e)));
        others = λ a apart. refl;
      },
    ) where
      beyond : (j i : ℕ) → i < 8 → j ≡ 19 + i → 27 ≤ j → ⊥
      beyond j i few e far = absurd (omega arith)

  -- into a register from a home, whose word is known
  pub reads-home : (m : Running) (rt i n word : ℕ) → m.end ≡ None → Stands image.code m.machine.regs.pc (load_inst rt (home_of leaf i)) → HasSlots m.machine.regs.sp n → i + 1 < n
      → home_word m.machine.regs.x m.machine.memory m.machine.regs.sp (home_of leaf i) ≡ word → RunsTo image 1 m (next_moment m (with_x m.machine rt word)) []
  reads-home m rt i n word going at open_ within is = subst (λ (v : ℕ). RunsTo image 1 m (next_moment m (with_x m.machine rt v)) []) is (elim (home-cases leaf i) [
    | inl h ↦ subst (λ (home : Home). RunsTo image 1 m (next_moment m (with_x m.machine rt (home_word m.machine.regs.x m.machine.memory m.machine.regs.sp home))) []) (sym h)
        (ldr image low m rt (i + 1) going (subst (λ (home : Home). Stands image.code m.machine.regs.pc (load_inst rt home)) h at) (slot-small m.machine.regs.sp n (i + 1) open_ within) (slot-opens m.machine.regs.sp n (i + 1) open_ within))
    | inr h ↦ subst (λ (home : Home). RunsTo image 1 m (next_moment m (with_x m.machine rt (home_word m.machine.regs.x m.machine.memory m.machine.regs.sp home))) []) (sym h.0)
        (sets image low m (OrrReg rt 31 (19 + i)) rt (m.machine.regs.x (19 + i)) going (subst (λ (home : Home). Stands image.code m.machine.regs.pc (load_inst rt home)) h.0 at) (λ r next. refl)
        (ap (λ (v : ℕ). goes_on m.machine (with_reg m.machine.regs rt v)) (reg-low m.machine.regs (19 + i) (within-31 i h.1))))
  ]) where
    within-31 : (i : ℕ) → i < 8 → 19 + i < 31
    within-31 i few = omega arith

-- ---- the fields of these instructions fit

pub is-home : (leaf : Bool) (i : ℕ) → i < 255 → IsHome (home_of leaf i)
is-home leaf i within = elim (home-cases leaf i) [
  | inl is ↦ subst IsHome (sym is) (in-slot i within)
  | inr is ↦ subst IsHome (sym is.0) (in-register i is.1)
] where
  in-slot : (i : ℕ) → i < 255 → i + 1 < 256
  in-slot i within = omega arith

  in-register : (i : ℕ) → i < 8 → 19 + i < 31
  in-register i few = omega arith

pub load-range : (r : ℕ) (home : Home) → r < 32 → IsHome home → IsInRange (load_inst r home)
load-range r (slot k) low h = (low, (lit< tt, (omega arith, tt)))
load-range r (register q) low h = (low, (lit< tt, (omega arith, tt)))

pub store-range : (r : ℕ) (home : Home) → r < 32 → IsHome home → IsInRange (store_inst r home)
store-range r (slot k) low h = (low, (lit< tt, (omega arith, tt)))
store-range r (register q) low h = (omega arith, (lit< tt, (low, tt)))
