-- How many bytes of a blob are no record bytes, and where a record byte stands among those that came.
use Rattle.std.proofs.Common.{◌≡◌, ℕ, suc, ◌+◌, ◌*◌, ◌/◌, ◌<◌, ◌≤◌, List, ◌++◌, length, take, drop, ap, sym, subst, ◌∙◌, arith, append_assoc, length-append, inl, inr}
use Rattle.std.specs.{Prelude.is_some, Prelude.Bool, Prelude.true, Prelude.false, Prelude.Option, Prelude.Some, Prelude.None, Int.w32, Int.to_be_bytes}
use Rattle.std.proofs.lemmas.{Bool.cases_lt, List.take-append-drop, List.take-append-le}
use Rattle.oat_bits.proofs.PackedForm.{length-packed}
use Rattle.oat_verify.specs.{packed, Violation, Body, flag_place, IsBlob, bits_part, targets_part, violation_part, addresses_part, head_part}
use Rattle.oat_feed.specs.{RecordBytes.HasRecordByte, RecordBytes.StandsInRecords, RecordBytes.in_bits, RecordBytes.in_targets, RecordBytes.bits_place, RecordBytes.bits_size}
use Rattle.oat_feed.specs.{RecordBytes.targets_place, RecordBytes.targets_size, RecordPlaces.AreRecordPlaces, RecordPlaces.in_part, RecordPlaces.records_before}
use Rattle.oat_feed.specs.{declared.places.RecordPlaces.RecordPlaces}
use Rattle.oat_feed.proofs.PartsAt.{bits_place_is, length-addresses_part, length-head_part, parted}

-- ---- lengths

flag_place_below : (numbered : Bool) → flag_place numbered ≤ 91
flag_place_below false = omega arith
flag_place_below true = omega arith

flagged_below : (violation : Option Violation) → length (violation_part violation) ≤ 21
flagged_below None = omega arith
flagged_below (Some violation) = omega arith

pub record HasSizes (bytes : List ℕ) (body : Body) : Type 0 where
  pub head : bits_place body ≤ 116
  pub whole : length bytes ≡ targets_place body + targets_size body + 32

pub sizes : (bytes mac : List ℕ) (body : Body) → IsBlob bytes body mac → HasSizes bytes body
sizes bytes mac body blob =
    let place = bits_place_is body in
    let head = length-head_part body blob.body_fits in
    let flag = flag_place_below (is_some body.head.serial) in
    let violation = flagged_below body.head.violation in
    let addresses = length-addresses_part body.targets in
    let whole = ap length (parted bytes mac body blob) in
    let first = length-append (head_part body.head) (bits_part body.bits ++ (targets_part body.targets ++ mac)) in
    let second = length-append (bits_part body.bits) (targets_part body.targets ++ mac) in
    let third = length-append (targets_part body.targets) mac in
    let bits = length-append (to_be_bytes w32 (length body.bits)) (packed body.bits) in
    let targets = length-append (to_be_bytes w32 (length body.targets)) (addresses_part body.targets) in
    record {
      head = omega (arith, place, head, flag, violation);
      whole = whole ∙ omega (arith, place, first, second, third, bits, targets, addresses, blob.mac_fits.counted);
    }

-- at most 152 bytes of a blob are no record bytes
pub others_are_few : (front rest mac : List ℕ) (body : Body) → IsBlob (front ++ rest) body mac → length front ≤ records_before body (length front) + 152
others_are_few front rest mac body blob =
    let size = sizes (front ++ rest) mac body blob in
    let sum = length-append front rest in
    omega (arith, size.head, size.whole, sum)

-- how many record bytes the places show
pub records_are : (places : RecordPlaces) (body : Body) (n : ℕ) → AreRecordPlaces places body n
    → in_part n places.bits_at ((places.bit_count + 7) / 8) + in_part n places.targets_at (places.target_count * 8) ≡ records_before body n
records_are places body n are = elim (cases_lt n (bits_place body)) [
  | inl short ↦ omega (arith, short, are.no_bits short, are.no_targets (omega (arith, short)))
  | inr behind ↦
      let bits = are.bits behind in
      let size : (places.bit_count + 7) / 8 ≡ bits_size body = ap (λ n. (n + 7) / 8) bits.1 ∙ sym (length-packed body.bits) in
      elim (cases_lt n (targets_place body)) [
        | inl short ↦ omega (arith, bits.0, size, short, are.no_targets short)
        | inr far ↦
            let targets = are.targets far in
            omega (arith, bits.0, size, targets.0, targets.1)
      ]
]

-- ---- a record byte among those that came

part_grows : (from size n m : ℕ) → in_part n from size < in_part m from size → (place : ℕ) × (n ≤ place) × (place < m) × (from ≤ place) × (place < from + size)
part_grows from size n m grows = elim (cases_lt n from) [
  | inl before ↦ (from, omega arith, omega arith, omega arith, omega arith)
  | inr behind ↦ (n, omega arith, omega arith, omega arith, omega arith)
]

grows : (body : Body) (n m : ℕ) → records_before body n < records_before body m → (place : ℕ) × (n ≤ place) × (place < m) × StandsInRecords body place
grows body n m more = elim (cases_lt (in_part n (bits_place body) (bits_size body)) (in_part m (bits_place body) (bits_size body))) [
  | inl bits ↦ let found = part_grows (bits_place body) (bits_size body) n m bits in (found.0, found.1, found.2, in_bits found.3 found.4)
  | inr above ↦ let found = part_grows (targets_place body) (targets_size body) n m (omega (arith, above, more)) in (found.0, found.1, found.2, in_targets found.3 found.4)
]

-- where more record bytes stand in the longer front, one of the bytes behind the shorter is a record byte
pub found : (front chunk rest mac : List ℕ) (body : Body) → IsBlob ((front ++ chunk) ++ rest) body mac
    → records_before body (length front) < records_before body (length (front ++ chunk)) → HasRecordByte front chunk
found front chunk rest mac body blob more =
    let whole : List ℕ = front ++ chunk in
    let at = grows body (length front) (length whole) more in
    let same : whole ++ rest ≡ take (suc at.0) whole ++ (drop (suc at.0) whole ++ rest) =
    ap (λ xs. xs ++ rest) (sym (take-append-drop (suc at.0) whole)) ∙ append_assoc (take (suc at.0) whole) (drop (suc at.0) whole) rest in (
      at.0,
      at.1,
      record {
        within = at.2;
        body = body;
        mac = mac;
        rest = drop (suc at.0) whole ++ rest;
        begins = subst (λ (bytes : List ℕ). IsBlob bytes body mac) same blob;
        stands = at.3;
      },
    )

-- it is one of more bytes too
pub found_more : (came piece more : List ℕ) → HasRecordByte came piece → HasRecordByte came (piece ++ more)
found_more came piece more (place, behind, byte) =
    let sum = length-append (came ++ piece) more in
    let same : (came ++ piece) ++ more ≡ came ++ (piece ++ more) = append_assoc came piece more in
    let fronts : take (suc place) (came ++ piece) ≡ take (suc place) (came ++ (piece ++ more)) =
    sym (take-append-le (suc place) (came ++ piece) more (omega (arith, byte.within))) ∙ ap (take (suc place)) same in (
      place,
      behind,
      record {
        within = subst (λ (bytes : List ℕ). place < length bytes) same (omega (arith, sum, byte.within));
        body = byte.body;
        mac = byte.mac;
        rest = byte.rest;
        begins = subst (λ (front : List ℕ). IsBlob (front ++ byte.rest) byte.body byte.mac) fronts byte.begins;
        stands = byte.stands;
      },
    )
