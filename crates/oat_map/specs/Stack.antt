-- The open calls of a list of steps, as a stack of their return sites. Walks are defined by the last
-- call at a depth, without a stack (docs/DEFINITIONS.md): this says which stack a machine that walks
-- them keeps.
use Rattle.std.specs.{Prelude.ℕ, Prelude.◌≡◌, Prelude.◌+◌, Prelude.List, Prelude.length, Prelude.slice_get, Prelude.Some, List.sum_by}
use Rattle.oat_map.specs.Walk.{Step, call_count, return_count, LastCall}

-- the stack has one return site for each call that is open behind the steps: at each level it is that
-- of the last call made at this depth
pub record IsStack (steps : List Step) (stack : List ℕ) : Type 0 where
  pub count : sum_by call_count steps ≡ length stack + sum_by return_count steps
  pub calls : (level back : ℕ) → slice_get stack level ≡ Some back → (place : ℕ) × LastCall steps level place back
