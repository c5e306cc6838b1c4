-- Bounds of slots and of stack pointers.
use Rattle.std.proofs.Common.{◌≡◌, ◌+◌, ◌*◌, ◌%◌, ◌^◌, ◌<◌, ◌≤◌, ℕ, suc, true, eqb, leb, List, [], ◌∷◌, length, arith, eq-eqb}
use Rattle.std.proofs.lemmas.Bool.{le-leb, and_from, or_left, or_right}
use Rattle.oat_asm.specs.{can_access, fits, lies_in, global_base, global_size, stack_base, stack_size, global_address}
use Rattle.oat_check.specs.Steps.{Frame}
use Rattle.oat_frames.specs.{Frames.World, Frames.IsWorld, Frames.CallersAt, Frames.IsStackPointer, Frames.frame_size, Phases.HasSlots}

-- a word of the stack can be read and written
pub stack-opens : (a : ℕ) → a % 8 ≡ 0 → 0x7FF0_0000 ≤ a → a + 8 ≤ 0x8000_0000 → can_access a ≡ true
unfolding can_access fits
stack-opens a aligned low high =
    and_from (eqb (a % 8) 0) _ (eq-eqb (a % 8) 0 aligned)
    (or_right (lies_in global_base global_size a 8) (lies_in stack_base stack_size a 8)
    (and_from (leb stack_base a) (leb (a + 8) (stack_base + stack_size)) (le-leb stack_base a low) (le-leb (a + 8) (stack_base + stack_size) high)))

-- a word of global data can be read and written
pub global-opens : (index : ℕ) → index < 65536 → can_access (global_address index) ≡ true
unfolding can_access fits
global-opens index h =
    let a : ℕ = global_address index in
    let aligned : a % 8 ≡ 0 = omega arith in
    and_from (eqb (a % 8) 0) _ (eq-eqb (a % 8) 0 aligned)
    (or_left (lies_in global_base global_size a 8) (lies_in stack_base stack_size a 8)
    (and_from (leb global_base a) (leb (a + 8) (global_base + global_size)) (le-leb global_base a (omega arith)) (le-leb (a + 8) (global_base + global_size) (omega arith))))

pub slot-opens : (sp n k : ℕ) → HasSlots sp n → k < n → can_access (sp + 8 * k) ≡ true
slot-opens sp n k o h =
    let aligned = o.aligned in
    let low = o.low in
    let high = o.high in
    stack-opens (sp + 8 * k) (omega arith) (omega arith) (omega arith)

pub slot-small : (sp n k : ℕ) → HasSlots sp n → k < n → sp + 8 * k < 2 ^ 64
slot-small sp n k o h = let high = o.high in omega arith

-- a frame of at most 255 locals
pub record IsFrameSize (locals : ℕ) : Type 0 where
  pub room : 8 * (locals + 1) ≤ frame_size locals
  pub most : frame_size locals ≤ 2048
  pub whole : frame_size locals % 16 ≡ 0

pub frame-size-is : (locals : ℕ) → locals ≤ 255 → IsFrameSize locals
frame-size-is locals h = record { room = omega arith; most = omega arith; whole = omega arith }

-- all bounds of stack pointers follow from the frames above
pub lies : (w : World) → IsWorld w → (memory : ℕ → ℕ) (sp : ℕ) (fs : List Frame) → CallersAt w memory sp fs → IsStackPointer sp (length fs)
lies w ok memory sp [] h = record { aligned = omega arith; below = omega arith; near = omega arith }
lies w ok memory sp (g ∷ gs) h =
    let n : ℕ = frame_size (w.locals g.func) in
    let l : IsStackPointer (sp + n) (length gs) = lies w ok memory (sp + n) gs h.2 in
    let f : IsFrameSize (w.locals g.func) = frame-size-is (w.locals g.func) (ok.few g.func) in
    let most : n ≤ 2048 = f.most in
    let whole : n % 16 ≡ 0 = f.whole in
    let aligned : (sp + n) % 16 ≡ 0 = l.aligned in
    let below : sp + n ≤ 0x8000_0000 = l.below in
    let near : 0x8000_0000 ≤ sp + n + 2048 * length gs = l.near in
    lower sp n (length gs) most whole aligned below near where
      lower : (sp n k : ℕ) → n ≤ 2048 → n % 16 ≡ 0 → (sp + n) % 16 ≡ 0 → sp + n ≤ 0x8000_0000 → 0x8000_0000 ≤ sp + n + 2048 * k → IsStackPointer sp (suc k)
      lower sp n k most whole aligned below near = record { aligned = omega arith; below = omega arith; near = omega arith }

-- the frame of the running function is open
pub frame-opens : (w : World) → IsWorld w → (memory : ℕ → ℕ) (sp func : ℕ) (fs : List Frame) → CallersAt w memory (sp + frame_size (w.locals func)) fs → length fs ≤ 256
    → HasSlots sp (w.locals func + 1)
frame-opens w ok memory sp func fs h few =
    let n : ℕ = frame_size (w.locals func) in
    let l : IsStackPointer (sp + n) (length fs) = lies w ok memory (sp + n) fs h in
    let f : IsFrameSize (w.locals func) = frame-size-is (w.locals func) (ok.few func) in
    opens sp n (length fs) (w.locals func) f.room f.most f.whole l.aligned l.below l.near few where
      opens : (sp n k locals : ℕ) → 8 * (locals + 1) ≤ n → n ≤ 2048 → n % 16 ≡ 0 → (sp + n) % 16 ≡ 0 → sp + n ≤ 0x8000_0000 → 0x8000_0000 ≤ sp + n + 2048 * k → k ≤ 256 → HasSlots sp (locals + 1)
      opens sp n k locals room most whole aligned below near few = record { aligned = omega arith; low = omega arith; high = omega arith }
