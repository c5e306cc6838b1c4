-- Where bytes stop being a blob (docs/FORMATS.md).
use Rattle.std.specs.Prelude.{ℕ, ◌<◌, ◌≤◌, List, ◌++◌, length, take}
use Rattle.oat_blob.specs.{Body.Body, Layout.IsBlob}

-- some blob has these bytes in front
abbrev pub BeginsBlob : List ℕ → Type 0
BeginsBlob front = (body : Body) × (mac : List ℕ) × (rest : List ℕ) × IsBlob (front ++ rest) body mac

-- the first byte that no blob with the bytes before it can have, or the length where bytes are wanting
pub record IsFormOffset (bytes : List ℕ) (offset : ℕ) : Type 0 where
  pub within : offset ≤ length bytes
  pub begins : BeginsBlob (take offset bytes)
  pub longest : (more : ℕ) → offset < more → more ≤ length bytes → BeginsBlob (take more bytes) → ⊥
  pub no_blob : (body : Body) (mac : List ℕ) → IsBlob bytes body mac → ⊥
