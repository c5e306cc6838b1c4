-- Which bytes that come are record bytes: those of a blob's bits and targets (docs/FORMATS.md). Memory grows by them alone.
use Rattle.std.specs.Prelude.{ℕ, suc, ◌+◌, ◌*◌, ◌<◌, ◌≤◌, List, ◌++◌, length, take}
use Rattle.oat_verify.specs.{Body, IsBlob, head_part, packed}

-- where a blob's bits begin, and where its targets: each behind their count
unfoldable pub bits_place : Body → ℕ
bits_place body = length (head_part body.head) + 4

abbrev pub bits_size : Body → ℕ
bits_size body = length (packed body.bits)

abbrev pub targets_place : Body → ℕ
targets_place body = bits_place body + bits_size body + 4

abbrev pub targets_size : Body → ℕ
targets_size body = length body.targets * 8

pub data StandsInRecords (body : Body) (place : ℕ) : Type 0 where
  in_bits : bits_place body ≤ place → place < bits_place body + bits_size body → StandsInRecords body place
  in_targets : targets_place body ≤ place → place < targets_place body + targets_size body → StandsInRecords body place

-- the bytes up to and including the one at this place begin a blob, among whose records it stands
pub record IsRecordByte (bytes : List ℕ) (place : ℕ) : Type 0 where
  pub within : place < length bytes
  pub body : Body
  pub mac : List ℕ
  pub rest : List ℕ
  pub begins : IsBlob (take (suc place) bytes ++ rest) body mac
  pub stands : StandsInRecords body place

-- one of the bytes of a piece, which comes behind others, is a record byte
abbrev pub HasRecordByte : (came piece : List ℕ) → Type 0
HasRecordByte came piece = (place : ℕ) × (length came ≤ place) × IsRecordByte (came ++ piece) place
