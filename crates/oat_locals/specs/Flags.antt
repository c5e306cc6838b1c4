-- The conditions of the Arm A64 manual behind SUBS (C1.2.4, "Condition code"), each as a comparison of two words.
use Rattle.std.specs.Prelude.{◌≡◌, ◌^◌, ◌<◌, nat_eq, nat_lt, nat_le, ℕ, int_lt, int_le}
use Rattle.oat_frames.specs.{signed, Regs, holds, with_flags}

pub record FlagsCompare : Type 0 where
  -- EQ, LT and LE
  pub equal : (a b : ℕ) (r : Regs) → a < 2 ^ 64 → b < 2 ^ 64 → holds 0 (with_flags r a b) ≡ nat_eq a b
  pub less : (a b : ℕ) (r : Regs) → a < 2 ^ 64 → b < 2 ^ 64 → holds 11 (with_flags r a b) ≡ int_lt (signed a) (signed b)
  pub at_most : (a b : ℕ) (r : Regs) → a < 2 ^ 64 → b < 2 ^ 64 → holds 13 (with_flags r a b) ≡ int_le (signed a) (signed b)
  -- LO and LS
  pub lower : (a b : ℕ) (r : Regs) → holds 3 (with_flags r a b) ≡ nat_lt a b
  pub same_or_lower : (a b : ℕ) (r : Regs) → a < 2 ^ 64 → b < 2 ^ 64 → holds 9 (with_flags r a b) ≡ nat_le a b
