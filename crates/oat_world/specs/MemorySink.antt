-- What a sink in memory holds (docs/DEFINITIONS.md).
use Rattle.std.specs.{Prelude.ℕ, Prelude.List, declared.alloc.Global.Global}
use Rattle.oat_world.specs.FailingCalls.{Calls}

-- the bytes put and their allocator, the most that a put takes, the puts that fail, and the count of faults
pub record HeldBytes : Type 0 where
  pub bytes : List ℕ
  pub allocator : Global
  pub most : ℕ
  pub puts : Calls
  pub faults : ℕ
