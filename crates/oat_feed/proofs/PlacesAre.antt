-- The places of a blob's records, by its counts, and the records that stand there.
use Rattle.std.proofs.Common.{◌≡◌, ℕ, ◌+◌, ◌*◌, ◌/◌, ◌<◌, ◌≤◌, ◌^◌, List, [], ◌∷◌, ◌++◌, length, take, drop, map, refl, ap, sym, subst, ◌∙◌, arith, length-append, inl, inr}
use Rattle.std.specs.{Prelude.slice_get, Prelude.Some, Int.w32, Int.w64, Int.to_be_bytes, Int.from_be_bytes, List.All, List.range_with_len}
use Rattle.std.proofs.lemmas.{Bool.cases_lt, List.append-nil, List.drop-drop, List.drop_at, List.FromFn.length-map-range_with_len, List.Elements.All-head, List.Elements.All-tail}
use Rattle.std.proofs.lemmas.{Nat.from_be_bytes-to_be_bytes_4, Nat.from_be_bytes-to_be_bytes_8}
use Rattle.oat_bits.proofs.PackedForm.{bits_in-packed, length-packed, slice_get-map-range}
use Rattle.oat_verify.specs.{packed, bits_in, Body, IsBlob, bits_part, addresses_part, head_part, target_in, targets_in}
use Rattle.oat_feed.specs.{declared.places.RecordPlaces.RecordPlaces, RecordBytes.bits_place, RecordBytes.bits_size, Counts.IsCountAt, RecordPlaces.AreRecordPlaces, RecordPlaces.HoldsRecords}
use Rattle.oat_feed.specs.{RecordPlaces.ShowsRecordPlaces, RecordPlaces.kept_bits, RecordPlaces.kept_targets}
use Rattle.oat_feed.proofs.{PartsAt.at_bit_count, PartsAt.at_bits, PartsAt.at_target_count, PartsAt.at_targets, PartsAt.bits_place_is, PartsAt.part_at, RoomLeft.sizes}

-- ---- counts

count_is : (front rest before behind : List ℕ) (at count n : ℕ) → front ++ rest ≡ before ++ (to_be_bytes w32 n ++ behind) → length before ≡ at → n < 2 ^ 32
    → IsCountAt front at count → at + 4 ≤ length front → count ≡ n
count_is front rest before behind at count n same starts few counts within =
    counts.whole within ∙ (ap (from_be_bytes w32) (part_at front rest before (to_be_bytes w32 n) behind at 4 same starts refl within) ∙ from_be_bytes-to_be_bytes_4 n few)

length-before_targets : (body : Body) → length (head_part body.head ++ bits_part body.bits) ≡ bits_place body + bits_size body
length-before_targets body =
    let place = bits_place_is body in
    let sum = length-append (head_part body.head) (bits_part body.bits) in
    let bits = length-append (to_be_bytes w32 (length body.bits)) (packed body.bits) in
    omega (arith, place, sum, bits)

pub places_are : (front rest mac : List ℕ) (body : Body) (size bit_count bits_end target_count : ℕ) → IsBlob (front ++ rest) body mac → size + 4 ≡ bits_place body → IsCountAt front size bit_count
    → bits_end ≡ size + 4 + (bit_count + 7) / 8 → IsCountAt front bits_end target_count
    → AreRecordPlaces (record { bits_at = size + 4; bit_count = bit_count; targets_at = bits_end + 4; target_count = target_count }) body (length front)
places_are front rest mac body size bit_count bits_end target_count blob placed bits ends targets =
    let place = bits_place_is body in
    let bits_are : bits_place body ≤ length front → bit_count ≡ length body.bits =
    λ le. count_is front rest (head_part body.head) _ size bit_count (length body.bits) (at_bit_count (front ++ rest) mac body blob) (omega (arith, place, placed)) blob.body_fits.bits bits (omega (arith, placed, le)) in
    let end_is : bits_place body ≤ length front → bits_end ≡ bits_place body + bits_size body =
    λ le. ends ∙ (ap (λ n. size + 4 + (n + 7) / 8) (bits_are le) ∙ omega (arith, placed, length-packed body.bits)) in
    record {
      bits = λ le. (placed, bits_are le);
      no_bits = λ short. bits.wanting (omega (arith, placed, short));
      targets = λ le. (
        ap (λ n. n + 4) (end_is (omega (arith, le))),
        count_is front rest (head_part body.head ++ bits_part body.bits) _ bits_end target_count (length body.targets) (at_target_count (front ++ rest) mac body blob)
            (length-before_targets body ∙ sym (end_is (omega (arith, le)))) blob.body_fits.targets targets (omega (arith, le, end_is (omega (arith, le)))),
      );
      no_targets = λ short. targets.wanting (elim (cases_lt (length front) (bits_place body)) [
        | inl none ↦ omega (arith, none, ends, placed)
        | inr some ↦ omega (arith, end_is some, short)
      ]);
    }

pub no_places : (front rest mac : List ℕ) (body : Body) → IsBlob (front ++ rest) body mac → length front < bits_place body
    → AreRecordPlaces (record { bits_at = 0; bit_count = 0; targets_at = 0; target_count = 0 }) body (length front)
no_places front rest mac body blob short = record {
  bits = λ le. absurd (omega (arith, le, short));
  no_bits = λ _. refl;
  targets = λ le. absurd (omega (arith, le, short));
  no_targets = λ _. refl;
}

-- ---- records

targets_again : (targets : List ℕ) (from : ℕ) (bytes rest : List ℕ) → All (λ target. target < 2 ^ 64) targets → drop (from * 8) bytes ≡ addresses_part targets ++ rest
    → map (target_in bytes) (range_with_len from (length targets)) ≡ targets
targets_again [] from bytes rest all at = refl
targets_again (target ∷ targets) from bytes rest all at =
    let here : target_in bytes from ≡ target =
    ap (λ xs. from_be_bytes w64 (take 8 xs)) at ∙ from_be_bytes-to_be_bytes_8 target (All-head (λ target. target < 2 ^ 64) target targets all) in
    let further : (from + 1) * 8 ≡ from * 8 + 8 = omega arith in
    let next : drop ((from + 1) * 8) bytes ≡ addresses_part targets ++ rest = ap (λ n. drop n bytes) further ∙ (sym (drop-drop 8 (from * 8) bytes) ∙ ap (drop 8) at) in
    let others = targets_again targets (from + 1) bytes rest (All-tail (λ target. target < 2 ^ 64) target targets all) next in
    ap (λ n. n ∷ map (target_in bytes) (range_with_len (from + 1) (length targets))) here ∙ ap (λ xs. target ∷ xs) others

targets_in_again : (targets rest : List ℕ) → All (λ target. target < 2 ^ 64) targets → targets_in (length targets) (addresses_part targets ++ rest) ≡ targets
unfolding targets_in
targets_in_again targets rest all = targets_again targets 0 (addresses_part targets ++ rest) rest all refl

pub length-targets_in : (count : ℕ) (bytes : List ℕ) → length (targets_in count bytes) ≡ count
unfolding targets_in
length-targets_in count bytes = length-map-range_with_len (target_in bytes) 0 count

pub slice_get-targets_in : (count : ℕ) (bytes : List ℕ) (i : ℕ) → i < count → slice_get (targets_in count bytes) i ≡ Some (target_in bytes i)
unfolding targets_in
slice_get-targets_in count bytes i below = slice_get-map-range (target_in bytes) 0 count i i below (omega arith)

-- the places of a whole blob, and what stands there
pub record HasRecords (places : RecordPlaces) (bytes : List ℕ) (body : Body) : Type 0 where
  pub within : HoldsRecords places bytes
  pub bits : kept_bits places bytes ≡ body.bits
  pub targets : kept_targets places bytes ≡ body.targets

pub has_records : (bytes mac : List ℕ) (body : Body) (places : RecordPlaces) → IsBlob bytes body mac → ShowsRecordPlaces bytes places → HasRecords places bytes body
has_records bytes mac body places blob shows =
    let are = shows body mac [] (subst (λ (xs : List ℕ). IsBlob xs body mac) (sym (append-nil bytes)) blob) in
    let whole = sizes bytes mac body blob in
    let bits = are.bits (omega (arith, whole.whole)) in
    let targets = are.targets (omega (arith, whole.whole)) in
    let size : (places.bit_count + 7) / 8 ≡ bits_size body = ap (λ n. (n + 7) / 8) bits.1 ∙ sym (length-packed body.bits) in
    let place = bits_place_is body in
    let before = length-append (head_part body.head) (to_be_bytes w32 (length body.bits)) in
    let more = length-append (head_part body.head ++ bits_part body.bits) (to_be_bytes w32 (length body.targets)) in
    let behind = length-before_targets body in
    let held : take ((places.bit_count + 7) / 8) (drop places.bits_at bytes) ≡ packed body.bits =
    part_at bytes [] (head_part body.head ++ to_be_bytes w32 (length body.bits)) (packed body.bits) _ places.bits_at ((places.bit_count + 7) / 8)
    (append-nil bytes ∙ at_bits bytes mac body blob) (omega (arith, before, place, bits.0)) (sym size) (omega (arith, size, bits.0, whole.whole)) in
    let left : drop places.targets_at bytes ≡ addresses_part body.targets ++ mac =
    ap (drop places.targets_at) (at_targets bytes mac body blob)
    ∙ drop_at ((head_part body.head ++ bits_part body.bits) ++ to_be_bytes w32 (length body.targets)) (addresses_part body.targets ++ mac) places.targets_at (omega (arith, more, behind, targets.0)) in
    record {
      within = record { bits = omega (arith, size, bits.0, whole.whole); targets = omega (arith, targets.0, targets.1, whole.whole) };
      bits = ap (bits_in places.bit_count) held ∙ (ap (λ n. bits_in n (packed body.bits)) bits.1 ∙ bits_in-packed body.bits);
      targets = ap (targets_in places.target_count) left ∙ (ap (λ n. targets_in n (addresses_part body.targets ++ mac)) targets.1 ∙ targets_in_again body.targets mac blob.body_fits.addresses);
    }

-- no places, no records
abbrev none : RecordPlaces
none = record { bits_at = 0; bit_count = 0; targets_at = 0; target_count = 0 }

pub none_kept : (bytes : List ℕ) → (kept_bits none bytes ≡ []) × (kept_targets none bytes ≡ [])
unfolding bits_in targets_in
none_kept bytes = (refl, refl)
