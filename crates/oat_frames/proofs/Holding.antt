-- What holds of frames, callers and globals, where registers and memory change.
use Rattle.std.proofs.Common.{◌≡◌, ◌+◌, ◌-◌, ◌*◌, ◌^◌, ◌<◌, ◌≤◌, inl, inr, ℕ, suc, Bool, true, false, cond, eqb, List, [], ◌∷◌, length, refl, sym, ap, subst, ◌∙◌, arith, ne_eqb, eqb-true, lit<}
use Rattle.std.proofs.lemmas.Bool.{cases_lt, eqb-false}
use Rattle.oat_mem.proofs.Words.{words_read_back, other_words_stay}
use Rattle.oat_asm.specs.{word_in, with_word, global_address, Image}
use Rattle.oat_check.specs.{Ty, I64, Fn, Steps.Frame, Steps.assigned}
use Rattle.oat_follow.specs.{Running}
use Rattle.oat_frames.specs.{Frames.World, Frames.IsWorld, Frames.Home, Frames.slot, Frames.register, Frames.home_word, Frames.home_of, Frames.IsOfType, Frames.value_word, Frames.Represents}
use Rattle.oat_frames.specs.{Frames.IsSlotted, Frames.FrameAt, Frames.ReturnsToFirst, Frames.CallersAt, Frames.GlobalsAt, Frames.HoldsState, Frames.frame_size, Phases.HasSlots, Readied.KeepsHomes}
use Rattle.oat_frames.proofs.{Homes.held-on, Homes.HomeWritten, Homes.other-home, Slots.IsFrameSize, Slots.frame-size-is, Slots.frame-opens}

-- ---- values

pub word-is : (w : World) (ty : Ty) (v a b : ℕ) → a ≡ b → Represents w ty v b → Represents w ty v a
word-is w ty v a b e h = record { known = h.known; is = e ∙ h.is }

pub value-is : (w : World) (ty : Ty) (u v a : ℕ) → u ≡ v → Represents w ty v a → Represents w ty u a
value-is w ty u v a e h = subst (λ (z : ℕ). Represents w ty z a) (sym e) h

word-small : (w : World) → IsWorld w → (ty : Ty) (v : ℕ) → IsOfType w ty v → value_word w ty v < 2 ^ 64
word-small w ok I64 v h = h
word-small w ok (Fn k) v h = by (eqb v 0) where
  by : (t : Bool) → cond t 0 (w.label (v - 1)) < 2 ^ 64
  by true = lit< tt
  by false = let l : w.label (v - 1) < 2 ^ 32 = ok.labels (v - 1) in omega arith

pub value-small : (w : World) → IsWorld w → (ty : Ty) (v a : ℕ) → Represents w ty v a → a < 2 ^ 64
value-small w ok ty v a h = subst (λ (z : ℕ). z < 2 ^ 64) (sym h.is) (word-small w ok ty v h.known)

-- zero and null are the word 0
pub zero-value : (w : World) (ty : Ty) → Represents w ty 0 0
zero-value w I64 = record { known = lit< tt; is = refl }
zero-value w (Fn k) = record { known = inl refl; is = refl }

-- ---- frames

-- where all locals have slots, a frame is its words
pub slot-of : (w : World) (x memory : ℕ → ℕ) (sp func : ℕ) (locals : ℕ → ℕ) → IsSlotted w func → FrameAt w x memory sp func locals
    → (i : ℕ) → i < w.locals func → Represents w (w.ty func i) (locals i) (word_in memory (sp + 8 * (i + 1)))
slot-of w x memory sp func locals slots h i l = word-is w (w.ty func i) (locals i) _ _ (sym (ap (λ (leaf : Bool). home_word x memory sp (home_of leaf i)) slots)) (h i l)

pub frame-of : (w : World) (x memory : ℕ → ℕ) (sp func : ℕ) (locals : ℕ → ℕ) → IsSlotted w func
    → ((i : ℕ) → i < w.locals func → Represents w (w.ty func i) (locals i) (word_in memory (sp + 8 * (i + 1)))) → FrameAt w x memory sp func locals
frame-of w x memory sp func locals slots h i l = word-is w (w.ty func i) (locals i) _ _ (ap (λ (leaf : Bool). home_word x memory sp (home_of leaf i)) slots) (h i l)

held-above : (x old new : ℕ → ℕ) (sp : ℕ) → ((a : ℕ) → sp ≤ a → word_in new a ≡ word_in old a) → (home : Home) → home_word x new sp home ≡ home_word x old sp home
held-above x old new sp same (slot k) = same (sp + 8 * k) (omega arith)
held-above x old new sp same (register r) = refl

pub back-same : (w : World) (gs : List Frame) (a b : ℕ) → a ≡ b → ReturnsToFirst w gs b → ReturnsToFirst w gs a
back-same w gs a b e h = subst (ReturnsToFirst w gs) (sym e) h

-- what is written below the frames leaves them
pub above : (w : World) (old new : ℕ → ℕ) (sp : ℕ) (fs : List Frame) → ((a : ℕ) → sp ≤ a → word_in new a ≡ word_in old a) → CallersAt w old sp fs → CallersAt w new sp fs
above w old new sp [] same h = h
above w old new sp (g ∷ gs) same h = (
  λ x i l. word-is w (w.ty g.func i) (g.locals i) _ _ (held-above x old new sp same (home_of (w.is_leaf g.func) i)) (h.0 x i l),
  back-same w gs (word_in new sp) (word_in old sp) (same sp (omega arith)) h.1,
  above w old new (sp + frame_size (w.locals g.func)) gs (λ a l. same a (omega arith)) h.2,
)

-- and the globals lie below the stack
pub globals-stay : (w : World) → IsWorld w → (old new : ℕ → ℕ) (s : ℕ) (globals : ℕ → ℕ) → 0x7FF0_0000 ≤ s
    → ((a : ℕ) → a + 8 ≤ s → word_in new a ≡ word_in old a) → GlobalsAt w old globals → GlobalsAt w new globals
globals-stay w ok old new s globals high same h i l =
    word-is w (w.global_ty i) (globals i) _ _ (same (global_address i) (low i s (w.globals) l ok.globals high)) (h i l) where
      low : (k s n : ℕ) → k < n → n ≤ 65536 → 0x7FF0_0000 ≤ s → global_address k + 8 ≤ s
      low k s n l small high = omega arith

-- ---- the whole

pub opens : (w : World) → IsWorld w → (func : ℕ) (locals : ℕ → ℕ) (callers : List Frame) (globals x : ℕ → ℕ) (sp : ℕ) (memory : ℕ → ℕ) → HoldsState w func locals callers globals x sp memory → HasSlots sp (w.locals func + 1)
opens w ok func locals callers globals x sp memory h = frame-opens w ok memory sp func callers h.above h.few

-- words at places that are d apart, where one is assigned
assigned-words : (w : World) (ty : ℕ → Ty) (old new at : ℕ → ℕ) (values : ℕ → ℕ) (n d v : ℕ) → ((i : ℕ) → i < n → Represents w (ty i) (values i) (word_in old (at i)))
    → ((i : ℕ) → i < n → (i ≡ d → ⊥) → word_in new (at i) ≡ word_in old (at i)) → Represents w (ty d) v (word_in new (at d))
    → (i : ℕ) → i < n → Represents w (ty i) (assigned values d v i) (word_in new (at i))
assigned-words w ty old new at values n d v was others here i h = by (eqb i d) refl where
  other : (i ≡ d → ⊥) → Represents w (ty i) (assigned values d v i) (word_in new (at i))
  other apart = value-is w (ty i) (assigned values d v i) (values i) _ (ap (λ (t : Bool). cond t v (values i)) (ne_eqb i d apart)) (word-is w (ty i) (values i) _ _ (others i h apart) (was i h))

  by : (t : Bool) → eqb i d ≡ t → Represents w (ty i) (assigned values d v i) (word_in new (at i))
  by true is =
      let e : i ≡ d = eqb-true i d is in
      value-is w (ty i) (assigned values d v i) v _ (ap (λ (t : Bool). cond t v (values i)) is) (subst (λ (j : ℕ). Represents w (ty j) v (word_in new (at j))) (sym e) here)
  by false is = other (eqb-false i d is)

-- scratch registers may be anything
pub scratched : (w : World) (func : ℕ) (locals : ℕ → ℕ) (callers : List Frame) (globals x y : ℕ → ℕ) (sp : ℕ) (memory : ℕ → ℕ) → HoldsState w func locals callers globals x sp memory → y 28 ≡ x 28 → KeepsHomes x y
    → HoldsState w func locals callers globals y sp memory
scratched w func locals callers globals x y sp memory h count keeps = record {
  depth = count ∙ h.depth;
  few = h.few;
  frame = λ i l. word-is w (w.ty func i) (locals i) _ _ (held-on (w.is_leaf func) x y memory memory sp i keeps (λ a m. refl)) (h.frame i l);
  back = h.back;
  above = h.above;
  words = h.words;
}

-- a local is assigned: its home was written
pub puts-home : (w : World) → IsWorld w → (func : ℕ) (locals : ℕ → ℕ) (callers : List Frame) (globals : ℕ → ℕ) (to v word : ℕ) (m k : Running)
    → HoldsState w func locals callers globals m.machine.regs.x m.machine.regs.sp m.machine.memory → HomeWritten w.image (w.is_leaf func) to word m k → to < w.locals func → Represents w (w.ty func to) v word
    → HoldsState w func (assigned locals to v) callers globals k.machine.regs.x k.machine.regs.sp k.machine.memory
puts-home w ok func locals callers globals to v word m k h put inside value =
    let sp : ℕ = m.machine.regs.sp in
    let old : ℕ → ℕ = m.machine.memory in
    let new : ℕ → ℕ = k.machine.memory in
    let x : ℕ → ℕ = m.machine.regs.x in
    let f : IsFrameSize (w.locals func) = frame-size-is (w.locals func) (ok.few func) in
    let room : 8 * (w.locals func + 1) ≤ frame_size (w.locals func) = f.room in
    let o : HasSlots sp (w.locals func + 1) = opens w ok func locals callers globals x sp old h in
    let low : 0x7FF0_0000 ≤ sp = o.low in
    subst (λ (s : ℕ). HoldsState w func (assigned locals to v) callers globals k.machine.regs.x s k.machine.memory) (sym put.sp)
    (record {
      depth = put.registers 28 (λ e. omega arith) ∙ h.depth;
      few = h.few;
      frame = λ i l. by i l (eqb i to) refl;
      back = back-same w callers (word_in new sp) (word_in old sp) (put.others sp (inr (omega arith))) h.back;
      above = above w old new (sp + frame_size (w.locals func)) callers
          (λ a l. put.others a (inl (over a sp (frame_size (w.locals func)) (w.locals func) to room inside l))) h.above;
      words = globals-stay w ok old new sp globals low (λ a l. put.others a (inr (omega arith))) h.words;
    }) where
      over : (a sp size n to : ℕ) → 8 * (n + 1) ≤ size → to < n → sp + size ≤ a → sp + 8 * (to + 1) + 8 ≤ a
      over a sp size n to room low h = omega arith

      by : (i : ℕ) → i < w.locals func → (t : Bool) → eqb i to ≡ t → Represents w (w.ty func i) (assigned locals to v i) (home_word k.machine.regs.x k.machine.memory m.machine.regs.sp (home_of (w.is_leaf func) i))
      by i l true is =
          let e : i ≡ to = eqb-true i to is in
          let here : Represents w (w.ty func to) v (home_word k.machine.regs.x k.machine.memory m.machine.regs.sp (home_of (w.is_leaf func) to)) = word-is w (w.ty func to) v _ word put.here value in
          value-is w (w.ty func i) (assigned locals to v i) v _ (ap (λ (t : Bool). cond t v (locals i)) is)
          (subst (λ (j : ℕ). Represents w (w.ty func j) v (home_word k.machine.regs.x k.machine.memory m.machine.regs.sp (home_of (w.is_leaf func) j))) (sym e) here)
      by i l false is =
          value-is w (w.ty func i) (assigned locals to v i) (locals i) _ (ap (λ (t : Bool). cond t v (locals i)) is)
          (word-is w (w.ty func i) (locals i) _ _ (other-home w.image (w.is_leaf func) to word m k put i (eqb-false i to is)) (h.frame i l))

-- a word of global data is stored
pub puts-global : (w : World) → IsWorld w → (func : ℕ) (locals : ℕ → ℕ) (callers : List Frame) (globals x y : ℕ → ℕ) (sp : ℕ) (memory : ℕ → ℕ) → HoldsState w func locals callers globals x sp memory → y 28 ≡ x 28 → KeepsHomes x y
    → (to v word : ℕ) → to < w.globals → Represents w (w.global_ty to) v word
    → HoldsState w func locals callers (assigned globals to v) y sp (with_word memory (global_address to) word)
puts-global w ok func locals callers globals x y sp memory h count keeps to v word inside value =
    let s : ℕ = global_address to in
    let new : ℕ → ℕ = with_word memory s word in
    let o : HasSlots sp (w.locals func + 1) = opens w ok func locals callers globals x sp memory h in
    let same : (a : ℕ) → sp ≤ a → word_in new a ≡ word_in memory a = λ a l. other_words_stay memory s word a (inl (low to a sp w.globals inside ok.globals o.low l)) in
    record {
      depth = count ∙ h.depth;
      few = h.few;
      frame = λ i l. word-is w (w.ty func i) (locals i) _ _ (held-on (w.is_leaf func) x y memory new sp i keeps same) (h.frame i l);
      back = back-same w callers (word_in new sp) (word_in memory sp) (same sp (omega arith)) h.back;
      above = above w memory new (sp + frame_size (w.locals func)) callers (λ a l. same a (omega arith)) h.above;
      words = assigned-words w w.global_ty memory new global_address globals w.globals to v h.words (λ i l apart. apart_words memory word to i apart)
          (word-is w (w.global_ty to) v (word_in new s) word (words_read_back memory s word (value-small w ok (w.global_ty to) v word value)) value);
    } where
      low : (k a sp n : ℕ) → k < n → n ≤ 65536 → 0x7FF0_0000 ≤ sp → sp ≤ a → global_address k + 8 ≤ a
      low k a sp n l small high m = omega arith

      apart_words : (memory : ℕ → ℕ) (word to i : ℕ) → (i ≡ to → ⊥) → word_in (with_word memory (global_address to) word) (global_address i) ≡ word_in memory (global_address i)
      apart_words memory word to i apart = elim (cases_lt i to) [
        | inl less ↦ other_words_stay memory (global_address to) word (global_address i) (inr (omega arith))
        | inr from ↦ other_words_stay memory (global_address to) word (global_address i) (inl (more from))
      ] where
        more : to ≤ i → global_address to + 8 ≤ global_address i
        more from = omega (arith, apart)

-- the running function has returned: its caller holds what it held, at its own frame
pub popped : (w : World) (func : ℕ) (locals : ℕ → ℕ) (g : Frame) (callers : List Frame) (globals x y : ℕ → ℕ) (sp : ℕ) (memory : ℕ → ℕ) → HoldsState w func locals (g ∷ callers) globals x sp memory → y 28 ≡ length callers
    → HoldsState w g.func g.locals callers globals y (sp + frame_size (w.locals func)) memory
popped w func locals g callers globals x y sp memory h count =
    let few : suc (length callers) ≤ 256 = h.few in
    record { depth = count; few = omega arith; frame = h.above.0 y; back = h.above.1; above = h.above.2; words = h.words }
