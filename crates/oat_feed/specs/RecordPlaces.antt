-- Where records stand in bytes that begin a blob, as far as their counts have come.
use Rattle.std.specs.Prelude.{◌≡◌, ℕ, ◌+◌, ◌-◌, ◌*◌, ◌/◌, ◌<◌, ◌≤◌, Bool, List, ◌++◌, length, take, drop, min}
use Rattle.oat_verify.specs.{bits_in, Body, IsBlob, targets_in}
use Rattle.oat_feed.specs.{declared.places.RecordPlaces.RecordPlaces, RecordBytes.bits_place, RecordBytes.bits_size, RecordBytes.targets_place, RecordBytes.targets_size}

-- how many of the first n places stand in a part of such a size from `from` on
abbrev pub in_part : (n from size : ℕ) → ℕ
in_part n from size = min (n - from) size

-- how many of the first n bytes of a blob are record bytes
abbrev pub records_before : Body → ℕ → ℕ
records_before body n = in_part n (bits_place body) (bits_size body) + in_part n (targets_place body) (targets_size body)

-- the places are those of the body, in so many bytes; a part whose count hasn't come is empty
pub record AreRecordPlaces (places : RecordPlaces) (body : Body) (n : ℕ) : Type 0 where
  pub bits : bits_place body ≤ n → (places.bits_at ≡ bits_place body) × (places.bit_count ≡ length body.bits)
  pub no_bits : n < bits_place body → places.bit_count ≡ 0
  pub targets : targets_place body ≤ n → (places.targets_at ≡ targets_place body) × (places.target_count ≡ length body.targets)
  pub no_targets : n < targets_place body → places.target_count ≡ 0

-- so whatever blob the bytes begin
abbrev pub ShowsRecordPlaces : List ℕ → RecordPlaces → Type 0
ShowsRecordPlaces front places = (body : Body) (mac rest : List ℕ) → IsBlob (front ++ rest) body mac → AreRecordPlaces places body (length front)

-- the bits and the targets at their places
abbrev pub kept_bits : RecordPlaces → List ℕ → List Bool
kept_bits places bytes = bits_in places.bit_count (take ((places.bit_count + 7) / 8) (drop places.bits_at bytes))

abbrev pub kept_targets : RecordPlaces → List ℕ → List ℕ
kept_targets places bytes = targets_in places.target_count (drop places.targets_at bytes)

-- there are bytes for each record
pub record HoldsRecords (places : RecordPlaces) (bytes : List ℕ) : Type 0 where
  pub bits : places.bits_at + (places.bit_count + 7) / 8 ≤ length bytes
  pub targets : places.targets_at + places.target_count * 8 ≤ length bytes
