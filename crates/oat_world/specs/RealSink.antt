-- What a sink of the system stands on (docs/DEFINITIONS.md).
use Rattle.std.specs.Prelude.{ℕ}

-- the writer that takes the bytes, and the count of faults
pub record Onto (W : Type 0) : Type 0 where
  pub writer : W
  pub faults : ℕ
