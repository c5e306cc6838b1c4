-- What the parts of a call leave: runs of loads and of stores, each as one record.
use Rattle.std.specs.Prelude.{◌≡◌, ◌+◌, ◌*◌, ◌%◌, ◌<◌, ◌≤◌, ◌⊎◌, ℕ, Bool, nat_lt, if◌then◌else◌, List, [], length, get_or}
use Rattle.oat_asm.specs.{Image, word_in}
use Rattle.oat_follow.specs.{Running, Reaching.RunsTo}
use Rattle.oat_frames.specs.{Frames.home_of, Frames.home_word, Moments.KeepsGoing}

-- n slots from a stack pointer on can be read and written
pub record HasSlots (sp n : ℕ) : Type 0 where
  pub aligned : sp % 16 ≡ 0
  pub low : 0x7FF0_0000 ≤ sp
  pub high : sp + 8 * n ≤ 0x8000_0000

-- the locals ks stand in the registers from r on
pub record ArgumentsLoaded (image : Image) (r : ℕ) (ks : List ℕ) (m k : Running) : Type 0 where
  pub runs : RunsTo image (length ks) m k []
  pub kept : KeepsGoing m k
  pub memory : k.machine.memory ≡ m.machine.memory
  pub sp : k.machine.regs.sp ≡ m.machine.regs.sp
  pub pc : k.machine.regs.pc ≡ m.machine.regs.pc + 4 * length ks
  pub values : (i : ℕ) → i < length ks → k.machine.regs.x (r + i) ≡ word_in m.machine.memory (m.machine.regs.sp + 8 * (get_or ks i 0 + 1))
  pub others : (j : ℕ) → (j < r) ⊎ (r + length ks ≤ j) → k.machine.regs.x j ≡ m.machine.regs.x j

-- what local i begins with: a parameter from its register, else zero
abbrev pub first_value : (ℕ → ℕ) → ℕ → ℕ → ℕ
first_value x params i = if nat_lt i params then x i else 0

-- n homes from one on are filled, and registers other than theirs stay
pub record LocalsStored (image : Image) (leaf : Bool) (params from n : ℕ) (m k : Running) : Type 0 where
  pub runs : RunsTo image n m k []
  pub kept : KeepsGoing m k
  pub sp : k.machine.regs.sp ≡ m.machine.regs.sp
  pub pc : k.machine.regs.pc ≡ m.machine.regs.pc + 4 * n
  pub homes : (i : ℕ) → from ≤ i → i < from + n → home_word k.machine.regs.x k.machine.memory m.machine.regs.sp (home_of leaf i) ≡ first_value m.machine.regs.x params i
  pub registers : (j : ℕ) → (j < 19 + from) ⊎ (27 ≤ j) → k.machine.regs.x j ≡ m.machine.regs.x j
  pub others : (a : ℕ) → (a + 8 ≤ m.machine.regs.sp + 8 * (from + 1)) ⊎ (m.machine.regs.sp + 8 * (from + n + 1) ≤ a) → word_in k.machine.memory a ≡ word_in m.machine.memory a

-- tested, counted, and the arguments in their registers
pub record CallCounted (image : Image) (args : List ℕ) (m k : Running) : Type 0 where
  pub runs : RunsTo image (3 + length args) m k []
  pub kept : KeepsGoing m k
  pub memory : k.machine.memory ≡ m.machine.memory
  pub sp : k.machine.regs.sp ≡ m.machine.regs.sp
  pub pc : k.machine.regs.pc ≡ m.machine.regs.pc + 16 + 4 * length args
  pub depth : k.machine.regs.x 28 ≡ m.machine.regs.x 28 + 1
  pub nine : k.machine.regs.x 9 ≡ m.machine.regs.x 9
  pub values : (i : ℕ) → i < length args → k.machine.regs.x i ≡ word_in m.machine.memory (m.machine.regs.sp + 8 * (get_or args i 0 + 1))

-- the frame of a function with so many locals is laid: X30 in its slot and each local in its home, and else registers and words as they were
pub record FrameLaid (image : Image) (leaf : Bool) (params locals size : ℕ) (m k : Running) : Type 0 where
  pub runs : RunsTo image (2 + locals) m k []
  pub kept : KeepsGoing m k
  pub registers : (j : ℕ) → (j < 19) ⊎ (27 ≤ j) → k.machine.regs.x j ≡ m.machine.regs.x j
  pub sp : k.machine.regs.sp + size ≡ m.machine.regs.sp
  pub pc : k.machine.regs.pc ≡ m.machine.regs.pc + 8 + 4 * locals
  pub saved : word_in k.machine.memory k.machine.regs.sp ≡ m.machine.regs.x 30
  pub homes : (i : ℕ) → i < locals → home_word k.machine.regs.x k.machine.memory k.machine.regs.sp (home_of leaf i) ≡ first_value m.machine.regs.x params i
  pub others : (a : ℕ) → (a + 8 ≤ k.machine.regs.sp) ⊎ (m.machine.regs.sp ≤ a) → word_in k.machine.memory a ≡ word_in m.machine.memory a
