-- A count, and as many records behind it.
use Rattle.std.proofs.Common.{◌≡◌, ℕ, zero, suc, ◌+◌, ◌-◌, ◌*◌, ◌/◌, ◌%◌, ◌<◌, ◌≤◌, ◌^◌, Bool, false, List, [], ◌∷◌, ◌++◌, length, map, take, drop, get_or, replicate, refl, ap, sym, subst, ◌∙◌, arith}
use Rattle.std.proofs.Common.{append_assoc, length-append, length-drop}
use Rattle.std.specs.{Prelude.slice_index, Int.w32, Int.w64, Int.to_be_bytes, Int.from_be_bytes, List.All, List.flat_map, List.range_with_len}
use Rattle.std.proofs.Math.Nat.{zero-mod}
use Rattle.std.proofs.lemmas.{List.drop-drop, List.get_or_past, List.length-replicate, List.length-take-le, List.nil_from_length, List.take-append-drop, List.take_all, List.take_at}
use Rattle.std.proofs.lemmas.{List.Elements.All-append, List.Elements.All-cons, List.Elements.All-drop, List.Elements.All-nil, List.Elements.All-replicate, List.Elements.All-take, Nat.be_bytes_8}
use Rattle.oat_bits.specs.{Packed.packed, Bits.bits_in}
use Rattle.oat_bits.proofs.{PackedForm.length-bits_in, PackedForm.length-packed, Filling.packed-bits_in, Filling.packed-filled}
use Rattle.oat_blob.specs.{Body.AreBytes, Parts.AreBits, Parts.AreFewBits, Parts.AreFewTargets, Parts.AreTargets, Parts.IsBelow, Parts.IsFront, Parts.Breaks, Parts.addresses_part, Shown.target_in}
use Rattle.oat_blob.specs.{Shown.targets_in}
use Rattle.oat_blob.proofs.{Parts.number_part_32, Reading.length-targets_in, Fixed.byte_within, Fixed.filled, Fixed.filled_bytes, Fixed.number_bound_8, Fixed.wanting, Joined.IsRecoded}
use Rattle.oat_blob.proofs.{Joined.joined_fits, Joined.joined_front, Joined.joined_part, Joined.recoded_front, Joined.recoded_stops, Joined.stops_first, Joined.stops_second}

-- ---- packed bits

zeros_at : (bytes : List ℕ) (count place : ℕ) → length bytes ≤ place → get_or (bytes ++ replicate count 0) place 0 ≡ 0
zeros_at [] zero place past = refl
zeros_at [] (suc count) zero past = refl
zeros_at [] (suc count) (suc place) past = zeros_at [] count place (omega arith)
zeros_at (b ∷ bytes) count zero past = absurd (omega arith)
zeros_at (b ∷ bytes) count (suc place) past = zeros_at bytes count place (omega arith)

zero_byte : (bytes : List ℕ) (place weight : ℕ) → get_or bytes place 0 ≡ 0 → slice_index bytes place % weight ≡ 0
zero_byte bytes place weight none = rw none (zero-mod weight)

pub packed_front : (count : ℕ) (bytes block rest : List ℕ) → bytes ≡ block ++ rest → length block ≡ (count + 7) / 8 → All (λ byte. byte < 256) block
    → slice_index block (count / 8) % 2 ^ (8 - count % 8) ≡ 0 → IsFront packed (AreBits count) bytes (bits_in count block) rest
packed_front count bytes block rest parted long below filling = record {
  fitting = length-bits_in count block;
  spelled = parted ∙ ap (λ xs. xs ++ rest) (sym (packed-bits_in count block long below filling));
}

pub packed_wanting : (count : ℕ) (bytes : List ℕ) (left : ℕ) → All (λ byte. byte < 256) bytes → length bytes < (count + 7) / 8 → left ≡ 0 → Breaks packed (AreBits count) bytes left
packed_wanting count bytes left all short ends =
    let whole = filled_bytes ((count + 7) / 8) bytes all short in
    let none = zeros_at bytes ((count + 7) / 8 - length bytes) (count / 8) (omega arith) in
    wanting packed (AreBits count) (bits_in count) ((count + 7) / 8) bytes left
    (λ bits are. length-packed bits ∙ ap (λ n. (n + 7) / 8) are)
    (length-bits_in count (filled ((count + 7) / 8) bytes))
    (packed-bits_in count (filled ((count + 7) / 8) bytes) whole.counted whole.below (zero_byte (filled ((count + 7) / 8) bytes) (count / 8) (2 ^ (8 - count % 8)) none))
    short ends

-- the last byte of so many bits, with one filling bit at least
last_byte : (count : ℕ) (block : List ℕ) → length block ≡ (count + 7) / 8 → (slice_index block (count / 8) % 2 ^ (8 - count % 8) ≡ 0 → ⊥) → length block ≡ suc (count / 8)
last_byte count block long apart = held (count % 8) refl where
  held : (used : ℕ) → count % 8 ≡ used → length block ≡ suc (count / 8)
  held zero whole = absurd (apart (zero_byte block (count / 8) (2 ^ (8 - count % 8)) (get_or_past block (count / 8) 0 (omega arith))))
  held (suc used) part = omega arith

wrong_filling : (count : ℕ) (bytes block rest : List ℕ) (front : List ℕ) → bytes ≡ block ++ rest → length block ≡ (count + 7) / 8 → suc (length front) ≡ length block
    → (slice_index block (count / 8) % 2 ^ (8 - count % 8) ≡ 0 → ⊥)
    → (other : List Bool) (more : List ℕ) → AreBits count other → bytes ≡ take (suc (length front)) (packed other) ++ more → ⊥
wrong_filling count bytes block rest front parted long last apart other more are same =
    let size : length (packed other) ≡ length block = length-packed other ∙ (ap (λ n. (n + 7) / 8) are ∙ sym long) in
    let all : take (suc (length front)) (packed other) ≡ packed other = take_all (suc (length front)) (packed other) (omega arith) in
    let both : packed other ++ more ≡ block ++ rest = sym (ap (λ xs. xs ++ more) all) ∙ (sym same ∙ parted) in
    let one : packed other ≡ block = sym (take_at (packed other) more (length block) size) ∙ (ap (take (length block)) both ∙ take_at block rest (length block) refl) in
    let filling : slice_index block (count / 8) % 2 ^ (8 - count % 8) ≡ 0 =
    subst (λ (n : ℕ). slice_index block (n / 8) % 2 ^ (8 - n % 8) ≡ 0) are
    (subst (λ (xs : List ℕ). slice_index xs (length other / 8) % 2 ^ (8 - length other % 8) ≡ 0) one (packed-filled other)) in
    apart filling

pub packed_wrong : (count : ℕ) (bytes block rest : List ℕ) → bytes ≡ block ++ rest → length block ≡ (count + 7) / 8 → All (λ byte. byte < 256) block
    → (slice_index block (count / 8) % 2 ^ (8 - count % 8) ≡ 0 → ⊥) → Breaks packed (AreBits count) bytes (length rest + 1)
packed_wrong count bytes block rest parted long below apart =
    let last = last_byte count block long apart in
    let front : List ℕ = take (count / 8) block in
    let short : length front ≡ count / 8 = length-take-le (count / 8) block (omega arith) in
    let end = length-drop (count / 8) block in
    let sum = length-append (drop (count / 8) block) rest in
    let with_zero = length-append front (0 ∷ []) in
    let zero_last = zeros_at front 1 (count / 8) (omega arith) in
    record {
      front = front;
      behind = drop (count / 8) block ++ rest;
      parted = parted ∙ (ap (λ xs. xs ++ rest) (sym (take-append-drop (count / 8) block)) ∙ append_assoc front (drop (count / 8) block) rest);
      counted = omega arith;
      value = bits_in count (front ++ 0 ∷ []);
      more = 0 ∷ [];
      fitting = length-bits_in count (front ++ 0 ∷ []);
      begins = sym (packed-bits_in count (front ++ 0 ∷ []) (omega arith)
          (All-append (λ byte. byte < 256) front (0 ∷ []) (All-take (λ byte. byte < 256) (count / 8) block below) (All-replicate (λ byte. byte < 256) 1 0 (omega arith)))
          (zero_byte (front ++ 0 ∷ []) (count / 8) (2 ^ (8 - count % 8)) zero_last));
      halts = wrong_filling count bytes block rest front parted long (omega arith) apart;
    }

-- ---- addresses

addresses_again : (count from : ℕ) (bytes block : List ℕ) → All (λ byte. byte < 256) block → drop (from * 8) bytes ≡ block → length block ≡ count * 8
    → (flat_map (to_be_bytes w64) (map (target_in bytes) (range_with_len from count)) ≡ block) × All (λ target. target < 2 ^ 64) (map (target_in bytes) (range_with_len from count))
addresses_again zero from bytes block all at long = (sym (nil_from_length block (omega arith)), All-nil (λ target. target < 2 ^ 64))
addresses_again (suc count) from bytes block all at long =
    let field : AreBytes 8 (take 8 block) = record { counted = length-take-le 8 block (omega arith); below = All-take (λ byte. byte < 256) 8 block all } in
    let number = from_be_bytes w64 (take 8 block) in
    let here : target_in bytes from ≡ number = ap (λ xs. from_be_bytes w64 (take 8 xs)) at in
    let again : to_be_bytes w64 number ≡ take 8 block = be_bytes_8 (take 8 block) number field.counted (byte_within (take 8 block) field.below) refl in
    let further : (from + 1) * 8 ≡ from * 8 + 8 = omega arith in
    let next : drop ((from + 1) * 8) bytes ≡ drop 8 block = ap (λ n. drop n bytes) further ∙ (sym (drop-drop 8 (from * 8) bytes) ∙ ap (drop 8) at) in
    let rest = length-drop 8 block in
    let others = addresses_again count (from + 1) bytes (drop 8 block) (All-drop (λ byte. byte < 256) 8 block all) next (omega arith) in
    let first_below : target_in bytes from < 2 ^ 64 = rw here (number_bound_8 (take 8 block) field) in (
      ap (λ n. to_be_bytes w64 n ++ flat_map (to_be_bytes w64) (map (target_in bytes) (range_with_len (from + 1) count))) here
          ∙ (ap (λ xs. xs ++ flat_map (to_be_bytes w64) (map (target_in bytes) (range_with_len (from + 1) count))) again
          ∙ (ap (λ xs. take 8 block ++ xs) others.0 ∙ take-append-drop 8 block)),
      All-cons (λ target. target < 2 ^ 64) (target_in bytes from) (map (target_in bytes) (range_with_len (from + 1) count)) first_below others.1,
    )

targets_again : (count : ℕ) (block : List ℕ) → All (λ byte. byte < 256) block → length block ≡ count * 8 → (addresses_part (targets_in count block) ≡ block) × AreTargets count (targets_in count block)
unfolding targets_in
targets_again count block all long =
    let both = addresses_again count 0 block block all refl long in
    (both.0, record { counted = length-targets_in count block; addresses = both.1 })

length-addresses : (targets : List ℕ) → length (addresses_part targets) ≡ length targets * 8
length-addresses [] = refl
length-addresses (target ∷ targets) =
    let sum = length-append (to_be_bytes w64 target) (addresses_part targets) in
    let rest = length-addresses targets in
    omega arith

pub addresses_front : (count : ℕ) (bytes block rest : List ℕ) → bytes ≡ block ++ rest → length block ≡ count * 8 → All (λ byte. byte < 256) block → IsFront addresses_part (AreTargets count) bytes (targets_in count block) rest
addresses_front count bytes block rest parted long all =
    let both = targets_again count block all long in
    record { fitting = both.1; spelled = parted ∙ ap (λ xs. xs ++ rest) (sym both.0) }

pub addresses_wanting : (count : ℕ) (bytes : List ℕ) (left : ℕ) → All (λ byte. byte < 256) bytes → length bytes < count * 8 → left ≡ 0 → Breaks addresses_part (AreTargets count) bytes left
addresses_wanting count bytes left all short ends =
    let whole = filled_bytes (count * 8) bytes all short in
    let both = targets_again count (filled (count * 8) bytes) whole.below whole.counted in
    wanting addresses_part (AreTargets count) (targets_in count) (count * 8) bytes left (λ targets are. length-addresses targets ∙ ap (λ n. n * 8) are.counted) both.1 both.0 short ends

-- ---- with the count in front

pub record IsCounted {Y : Type 0} (size : Y → ℕ) (fits : Y → Type 0) (at : ℕ → Y → Type 0) : Type 0 where
  pub to_fits : (n : ℕ) (y : Y) → n < 2 ^ 32 → at n y → fits y
  pub sized : (n : ℕ) (y : Y) → at n y → size y ≡ n
  pub few : (y : Y) → fits y → size y < 2 ^ 32
  pub at_size : (y : Y) → fits y → at (size y) y
  pub some : (n : ℕ) → n < 2 ^ 32 → (y : Y) × at n y

abbrev pub counted_part : {Y : Type 0} → (Y → List ℕ) → (Y → ℕ) → Y → List ℕ
counted_part block size y = to_be_bytes w32 (size y) ++ block y

counted_code : {Y : Type 0} (block : Y → List ℕ) (size : Y → ℕ) (fits : Y → Type 0) (at : ℕ → Y → Type 0) → IsCounted size fits at
    → IsRecoded (joined_part (to_be_bytes w32) block) (joined_fits (IsBelow 32) at) (counted_part block size) fits (λ p. p.1) (λ y. (size y, y))
counted_code block size fits at counts = record {
  to_fits = λ p of_p. counts.to_fits p.0 p.1 of_p.0 of_p.1;
  to_same = λ p of_p. ap (λ n. to_be_bytes w32 n ++ block p.1) (sym (counts.sized p.0 p.1 of_p.1));
  from_fits = λ y of_y. (counts.few y of_y, counts.at_size y of_y);
  from_same = λ y of_y. refl;
}

pub count_stops : {Y : Type 0} (block : Y → List ℕ) (size : Y → ℕ) (fits : Y → Type 0) (at : ℕ → Y → Type 0) (bytes : List ℕ) (left : ℕ) → IsCounted size fits at
    → Breaks (to_be_bytes w32) (IsBelow 32) bytes left → Breaks (counted_part block size) fits bytes left
count_stops {Y} block size fits at bytes left counts stops =
    recoded_stops (joined_part (to_be_bytes w32) block) (joined_fits (IsBelow 32) at) (counted_part block size) fits (λ p. p.1) (λ y. (size y, y)) bytes left (counted_code block size fits at counts)
    (stops_first (to_be_bytes w32) block (IsBelow 32) at bytes left counts.some stops)

pub block_stops : {Y : Type 0} (block : Y → List ℕ) (size : Y → ℕ) (fits : Y → Type 0) (at : ℕ → Y → Type 0) (bytes middle : List ℕ) (count left : ℕ) → IsCounted size fits at
    → IsFront (to_be_bytes w32) (IsBelow 32) bytes count middle → Breaks block (at count) middle left → Breaks (counted_part block size) fits bytes left
block_stops {Y} block size fits at bytes middle count left counts front stops =
    recoded_stops (joined_part (to_be_bytes w32) block) (joined_fits (IsBelow 32) at) (counted_part block size) fits (λ p. p.1) (λ y. (size y, y)) bytes left (counted_code block size fits at counts)
    (stops_second (to_be_bytes w32) block (IsBelow 32) at bytes middle count left number_part_32 front stops)

pub counted_front : {Y : Type 0} (block : Y → List ℕ) (size : Y → ℕ) (fits : Y → Type 0) (at : ℕ → Y → Type 0) (bytes middle rest : List ℕ) (count : ℕ) (y : Y) → IsCounted size fits at
    → IsFront (to_be_bytes w32) (IsBelow 32) bytes count middle → IsFront block (at count) middle y rest → IsFront (counted_part block size) fits bytes y rest
counted_front {Y} block size fits at bytes middle rest count y counts front records =
    recoded_front (joined_part (to_be_bytes w32) block) (joined_fits (IsBelow 32) at) (counted_part block size) fits (λ p. p.1) (λ y. (size y, y)) bytes rest (count, y) (counted_code block size fits at counts)
    (joined_front (to_be_bytes w32) block (IsBelow 32) at bytes middle rest count y front records)

pub few_bits : IsCounted length AreFewBits AreBits
few_bits = record {
  to_fits = λ n y few at. omega arith;
  sized = λ n y at. at;
  few = λ y fits. fits;
  at_size = λ y fits. refl;
  some = λ n few. (replicate n false, length-replicate n false);
}

pub few_targets : IsCounted length AreFewTargets AreTargets
few_targets = record {
  to_fits = λ n y few at. record { few = omega (arith, at.counted); addresses = at.addresses };
  sized = λ n y at. at.counted;
  few = λ y fits. fits.few;
  at_size = λ y fits. record { counted = refl; addresses = fits.addresses };
  some = λ n few. (replicate n 0, record { counted = length-replicate n 0; addresses = All-replicate (λ target. target < 2 ^ 64) n 0 (omega arith) });
}
