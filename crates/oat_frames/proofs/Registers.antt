-- Numbers and registers of a machine, and the machines and moments that instructions leave.
use Rattle.std.proofs.Common.{◌≡◌, ◌+◌, ◌^◌, ◌<◌, ◌≤◌, ◌-◌, ℕ, Bool, true, false, cond, ◌&&◌, eqb, ltb, refl, ap, arith, eq-eqb, ne_eqb}
use Rattle.std.proofs.Math.Path.{fun_ext}
use Rattle.std.proofs.lemmas.Bool.{lt-ltb}
use Rattle.oat_asm.specs.{Machine, goes_on, set, with_reg, with_flags, wrap, difference, with_word}
use Rattle.oat_follow.specs.{Running, makes}
use Rattle.oat_frames.specs.Moments.{next_moment}

-- ---- numbers

pub wrap-is : (a : ℕ) → a < 2 ^ 64 → wrap a ≡ a
wrap-is a h = omega arith

pub difference-is : (a b : ℕ) → b ≤ a → a < 2 ^ 64 → difference a b ≡ a - b
difference-is a b h l = omega arith

dropped : (b : Bool) (v w : ℕ) → cond (b && false) v w ≡ w
dropped true v w = refl
dropped false v w = refl

-- a write to register 31 leaves the registers
pub set-31 : (x : ℕ → ℕ) (v : ℕ) → set x 31 v ≡ x
set-31 x v = fun_ext (λ j. dropped (eqb j 31) v (x j))

pub set-same : (x : ℕ → ℕ) (n v : ℕ) → n < 31 → set x n v n ≡ v
set-same x n v h = by (eqb n n) (ltb n 31) (eq-eqb n n refl) (lt-ltb n 31 h) where
  by : (a b : Bool) → a ≡ true → b ≡ true → cond (a && b) v (x n) ≡ v
  by a b p q = rw (p, q) refl

pub set-other : (x : ℕ → ℕ) (n v k : ℕ) → (k ≡ n → ⊥) → set x n v k ≡ x k
set-other x n v k h = by (eqb k n) (ltb n 31) (ne_eqb k n h) where
  by : (a b : Bool) → a ≡ false → cond (a && b) v (x k) ≡ x k
  by a b p = rw p refl

set-again : (b : Bool) (u v w : ℕ) → cond b v (cond b u w) ≡ cond b v w
set-again true u v w = refl
set-again false u v w = refl

pub set-twice : (x : ℕ → ℕ) (n u v : ℕ) → set (set x n u) n v ≡ set x n v
set-twice x n u v = fun_ext (λ j. set-again (eqb j n && ltb n 31) u v (x j))

-- ---- the machines that are left

abbrev pub with_x : Machine → ℕ → ℕ → Machine
with_x k rd v = record k { regs = with_reg k.regs rd v }

abbrev pub with_sp : Machine → ℕ → Machine
with_sp k v = record k { regs = record k.regs { sp = v } }

abbrev pub with_slot : Machine → ℕ → ℕ → Machine
with_slot k address v = record k { memory = with_word k.memory address v }

abbrev pub compared : Machine → ℕ → ℕ → Machine
compared k a b = record k { regs = with_flags k.regs a b }

pub next-is : (m : Running) (k : Machine) → k.regs.pc + 4 < 2 ^ 64 → makes m (goes_on k k.regs) ≡ next_moment m k
next-is m k low =
    ap (λ (a : ℕ). record m { machine = record k { regs = record k.regs { pc = a } }; made = m.made + 1 }) (wrap-is (k.regs.pc + 4) low)
