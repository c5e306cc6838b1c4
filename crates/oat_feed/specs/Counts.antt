-- A count at a place of bytes that begin a blob.
use Rattle.std.specs.{Prelude.◌≡◌, Prelude.ℕ, Prelude.◌+◌, Prelude.◌<◌, Prelude.◌≤◌, Prelude.List, Prelude.length, Prelude.take, Prelude.drop, Int.w32, Int.from_be_bytes}

-- it is 0 as long as its bytes haven't come
pub record IsCountAt (front : List ℕ) (at count : ℕ) : Type 0 where
  pub wanting : length front < at + 4 → count ≡ 0
  pub whole : at + 4 ≤ length front → count ≡ from_be_bytes w32 (take 4 (drop at front))
