-- Parts of a fixed length: arrays, numbers, the magic and a violation.
use Rattle.std.proofs.Common.{◌≡◌, ℕ, zero, suc, ◌+◌, ◌-◌, ◌<◌, ◌≤◌, ◌^◌, ◌/◌, Bool, true, false, List, [], ◌∷◌, ◌++◌, Option, Some, None, length, take, drop, get_or, replicate, refl, ap, sym, ◌∙◌}
use Rattle.std.proofs.Common.{arith, length-append, append_assoc, Fits, w8}
use Rattle.std.specs.{Int.w16, Int.w32, Int.w64, Int.to_be_bytes, Int.from_be_bytes, Int.byte_at, Int.bytes_high_first, List.All}
use Rattle.std.proofs.lemmas.{List.append-nil, List.append_cancel_left, List.take_more, List.length-replicate, List.length-take-le, List.take-append-drop, List.take_all, List.take_at}
use Rattle.std.proofs.lemmas.{List.Elements.All-append, List.Elements.All-cons, List.Elements.All-same, List.Elements.All-from_get_or, List.Elements.All-head, List.Elements.All-nil}
use Rattle.std.proofs.lemmas.{List.Elements.All-replicate, List.Elements.All-tail, List.Elements.All-take, Bool.false≢true, Nat.be_bytes_2, Nat.be_bytes_4, Nat.be_bytes_8, Nat.mod_below}
use Rattle.oat_blob.specs.{declared.body.Violation.Violation, Body.AreBytes, Body.IsViolation, Layout.magic, Layout.serial_part, Layout.version_part, Layout.violation_part, Parts.IfViolation}
use Rattle.oat_blob.specs.{Parts.IsBelow, Parts.IsCut, Parts.IsFront, Parts.IsMagic, Parts.IsSerial, Parts.IsVersion, Parts.Breaks, Parts.plain_part, Parts.violation_fields}
use Rattle.oat_blob.proofs.{Parts.number_part_32, Parts.number_part_64, Joined.IsRecoded, Joined.joined_fits, Joined.joined_front, Joined.joined_part, Joined.recoded_front, Joined.recoded_stops}
use Rattle.oat_blob.proofs.{Joined.stops_first, Joined.stops_second}

-- a slice of bytes holds bytes
pub all_bytes : (bytes : List ℕ) → ((i : ℕ) → Fits w8 (get_or bytes i 0)) → All (λ byte. byte < 256) bytes
all_bytes bytes fits = All-from_get_or (λ byte. byte < 256) bytes 0 (λ i below. let here = fits i in omega arith)

pub byte_within : (bytes : List ℕ) → All (λ byte. byte < 256) bytes → (i : ℕ) → get_or bytes i 0 < 256
byte_within [] all i = omega arith
byte_within (b ∷ bytes) all zero = All-head (λ byte. byte < 256) b bytes all
byte_within (b ∷ bytes) all (suc i) = byte_within bytes (All-tail (λ byte. byte < 256) b bytes all) i

-- bytes can't have one byte more than they have
pub too_short : (bytes text rest : List ℕ) → length bytes < length text → bytes ≡ take (suc (length bytes)) text ++ rest → ⊥
too_short bytes text rest short same =
    let front = length-take-le (suc (length bytes)) text (omega arith) in
    let whole = length-append (take (suc (length bytes)) text) rest in
    let lengths : length bytes ≡ length (take (suc (length bytes)) text ++ rest) = ap length same in
    absurd (omega arith)

-- the bytes, and zeros up to a length
abbrev pub filled : ℕ → List ℕ → List ℕ
filled count bytes = bytes ++ replicate (count - length bytes) 0

pub filled_bytes : (count : ℕ) (bytes : List ℕ) → All (λ byte. byte < 256) bytes → length bytes < count → AreBytes count (filled count bytes)
filled_bytes count bytes all short =
    let sum = length-append bytes (replicate (count - length bytes) 0) in
    record {
      counted = omega (arith, length-replicate {A = ℕ} (count - length bytes) 0);
      below = All-append (λ byte. byte < 256) bytes (replicate (count - length bytes) 0) all (All-replicate (λ byte. byte < 256) (count - length bytes) 0 (omega arith));
    }

-- bytes that end within a part of so many
pub wanting : {X : Type 0} (spell : X → List ℕ) (fits : X → Type 0) (read : List ℕ → X) (count : ℕ) (bytes : List ℕ) (left : ℕ)
    → ((x : X) → fits x → length (spell x) ≡ count) → fits (read (filled count bytes)) → spell (read (filled count bytes)) ≡ filled count bytes
    → length bytes < count → left ≡ 0 → Breaks spell fits bytes left
wanting spell fits read count bytes left long fit again short none = record {
  front = bytes;
  behind = [];
  parted = sym (append-nil bytes);
  counted = sym none;
  value = read (filled count bytes);
  more = replicate (count - length bytes) 0;
  fitting = fit;
  begins = sym again;
  halts = λ other rest fits same. let size = long other fits in too_short bytes (spell other) rest (omega arith) same;
}

pub array_stops : (count : ℕ) (bytes : List ℕ) → All (λ byte. byte < 256) bytes → length bytes < count → Breaks plain_part (AreBytes count) bytes 0
array_stops count bytes all short =
    wanting plain_part (AreBytes count) (λ bytes. bytes) count bytes 0 (λ x are. are.counted) (filled_bytes count bytes all short) refl short refl

pub array_front : (count : ℕ) (bytes field rest : List ℕ) → All (λ byte. byte < 256) bytes → count ≤ length bytes → field ≡ take count bytes → rest ≡ drop count bytes → IsFront plain_part (AreBytes count) bytes field rest
array_front count bytes field rest all long front behind = record {
  fitting = rw front (record { counted = length-take-le count bytes long; below = All-take (λ byte. byte < 256) count bytes all });
  spelled = rw (front, behind) (sym (take-append-drop count bytes));
}

-- ---- numbers

number_bound_2 : (bytes : List ℕ) → AreBytes 2 bytes → from_be_bytes w16 bytes < 2 ^ 16
number_bound_2 bytes are =
    let a = byte_within bytes are.below 0 in
    let b = byte_within bytes are.below 1 in
    omega arith

number_bound_4 : (bytes : List ℕ) → AreBytes 4 bytes → from_be_bytes w32 bytes < 2 ^ 32
number_bound_4 bytes are =
    let a = byte_within bytes are.below 0 in
    let b = byte_within bytes are.below 1 in
    let c = byte_within bytes are.below 2 in
    let d = byte_within bytes are.below 3 in
    omega arith

pub number_bound_8 : (bytes : List ℕ) → AreBytes 8 bytes → from_be_bytes w64 bytes < 2 ^ 64
number_bound_8 bytes are =
    let a = byte_within bytes are.below 0 in
    let b = byte_within bytes are.below 1 in
    let c = byte_within bytes are.below 2 in
    let d = byte_within bytes are.below 3 in
    let e = byte_within bytes are.below 4 in
    let f = byte_within bytes are.below 5 in
    let g = byte_within bytes are.below 6 in
    let h = byte_within bytes are.below 7 in
    omega arith

byte_below : (place n : ℕ) → byte_at place n < 256
byte_below zero n = mod_below n 256 (omega arith)
byte_below (suc place) n = mod_below (n / 256 ^ suc place) 256 (omega arith)

high_first_bytes : (count n : ℕ) → All (λ byte. byte < 256) (bytes_high_first count n)
high_first_bytes zero n = All-nil (λ byte. byte < 256)
high_first_bytes (suc count) n = All-cons (λ byte. byte < 256) (byte_at count n) (bytes_high_first count n) (byte_below count n) (high_first_bytes count n)

pub number_16 : IsRecoded plain_part (AreBytes 2) (to_be_bytes w16) (IsBelow 16) (from_be_bytes w16) (to_be_bytes w16)
number_16 = record {
  to_fits = number_bound_2;
  to_same = λ bytes are. sym (be_bytes_2 bytes (from_be_bytes w16 bytes) are.counted (byte_within bytes are.below) refl);
  from_fits = λ n fits. record { counted = refl; below = high_first_bytes 2 n };
  from_same = λ n fits. refl;
}

pub number_32 : IsRecoded plain_part (AreBytes 4) (to_be_bytes w32) (IsBelow 32) (from_be_bytes w32) (to_be_bytes w32)
number_32 = record {
  to_fits = number_bound_4;
  to_same = λ bytes are. sym (be_bytes_4 bytes (from_be_bytes w32 bytes) are.counted (byte_within bytes are.below) refl);
  from_fits = λ n fits. record { counted = refl; below = high_first_bytes 4 n };
  from_same = λ n fits. refl;
}

pub number_64 : IsRecoded plain_part (AreBytes 8) (to_be_bytes w64) (IsBelow 64) (from_be_bytes w64) (to_be_bytes w64)
number_64 = record {
  to_fits = number_bound_8;
  to_same = λ bytes are. sym (be_bytes_8 bytes (from_be_bytes w64 bytes) are.counted (byte_within bytes are.below) refl);
  from_fits = λ n fits. record { counted = refl; below = high_first_bytes 8 n };
  from_same = λ n fits. refl;
}

pub number_stops_16 : (bytes : List ℕ) (left : ℕ) → Breaks plain_part (AreBytes 2) bytes left → Breaks (to_be_bytes w16) (IsBelow 16) bytes left
number_stops_16 bytes left = recoded_stops plain_part (AreBytes 2) (to_be_bytes w16) (IsBelow 16) (from_be_bytes w16) (to_be_bytes w16) bytes left number_16

pub number_stops_32 : (bytes : List ℕ) (left : ℕ) → Breaks plain_part (AreBytes 4) bytes left → Breaks (to_be_bytes w32) (IsBelow 32) bytes left
number_stops_32 bytes left = recoded_stops plain_part (AreBytes 4) (to_be_bytes w32) (IsBelow 32) (from_be_bytes w32) (to_be_bytes w32) bytes left number_32

pub number_stops_64 : (bytes : List ℕ) (left : ℕ) → Breaks plain_part (AreBytes 8) bytes left → Breaks (to_be_bytes w64) (IsBelow 64) bytes left
number_stops_64 bytes left = recoded_stops plain_part (AreBytes 8) (to_be_bytes w64) (IsBelow 64) (from_be_bytes w64) (to_be_bytes w64) bytes left number_64

pub number_front_64 : (bytes rest field : List ℕ) → IsFront plain_part (AreBytes 8) bytes field rest → IsFront (to_be_bytes w64) (IsBelow 64) bytes (from_be_bytes w64 field) rest
number_front_64 bytes rest field = recoded_front plain_part (AreBytes 8) (to_be_bytes w64) (IsBelow 64) (from_be_bytes w64) (to_be_bytes w64) bytes rest field number_64

-- ---- the magic

-- the bytes go on with another than the next letter of the magic, or end
pub opening_stops : (bytes rest : List ℕ) (at : ℕ) → at < 4 → bytes ≡ take at magic ++ rest → ((behind : List ℕ) → rest ≡ get_or magic at 0 ∷ behind → ⊥) → Breaks plain_part IsMagic bytes (length rest)
opening_stops bytes rest at below same apart = record {
  front = take at magic;
  behind = rest;
  parted = same;
  counted = refl;
  value = magic;
  more = drop at magic;
  fitting = refl;
  begins = take-append-drop at magic;
  halts = λ other more opens there.
      let long : length (take at magic) ≡ at = length-take-le at magic (omega arith) in
      let steps : suc (length (take at magic)) ≡ at + 1 = omega arith in
      let one : take (suc (length (take at magic))) other ≡ take at magic ++ get_or magic at 0 ∷ [] =
      ap (λ n. take n other) steps ∙ (ap (take (at + 1)) opens ∙ take_more magic at 0 (omega arith)) in
      let goes_on : take at magic ++ rest ≡ take at magic ++ (get_or magic at 0 ∷ [] ++ more) =
      sym same ∙ (there ∙ (ap (λ xs. xs ++ more) one ∙ append_assoc (take at magic) (get_or magic at 0 ∷ []) more)) in
      apart more (append_cancel_left (take at magic) rest (get_or magic at 0 ∷ more) goes_on);
}

pub opening_more : (bytes rest behind : List ℕ) (at byte : ℕ) → at < 4 → bytes ≡ take at magic ++ rest → rest ≡ byte ∷ behind → byte ≡ get_or magic at 0 → bytes ≡ take (at + 1) magic ++ behind
opening_more bytes rest behind at byte below same next letter =
    same
    ∙ (ap (λ xs. take at magic ++ xs) (next ∙ ap (λ b. b ∷ behind) letter)
    ∙ (sym (append_assoc (take at magic) (get_or magic at 0 ∷ []) behind) ∙ ap (λ xs. xs ++ behind) (sym (take_more magic at 0 (omega arith)))))

pub opening_front : (bytes rest : List ℕ) (at : ℕ) → 4 ≤ at → bytes ≡ take at magic ++ rest → IsFront plain_part IsMagic bytes magic rest
opening_front bytes rest at past same = record { fitting = refl; spelled = same ∙ ap (λ xs. xs ++ rest) (take_all at magic (omega arith)) }

-- bytes that begin no value of a part
none_begins : {X : Type 0} (spell : X → List ℕ) (fits : X → Type 0) (bytes : List ℕ) (value : X) → fits value → ((other : X) (rest : List ℕ) → fits other → bytes ≡ take 1 (spell other) ++ rest → ⊥) → Breaks spell fits bytes (length bytes)
none_begins spell fits bytes value fitting halts = record {
  front = [];
  behind = bytes;
  parted = refl;
  counted = refl;
  value = value;
  more = spell value;
  fitting = fitting;
  begins = refl;
  halts = halts;
}

-- ---- the version, and the serial number behind the operation

no_version : (bytes : List ℕ) → ((rest : List ℕ) → bytes ≡ 1 ∷ rest → ⊥) → ((rest : List ℕ) → bytes ≡ 2 ∷ rest → ⊥) → (numbered : Bool) (rest : List ℕ) → IsVersion numbered → bytes ≡ take 1 (version_part numbered) ++ rest → ⊥
no_version bytes not_1 not_2 false rest fits same = not_1 rest same
no_version bytes not_1 not_2 true rest fits same = not_2 rest same

pub version_stops : (bytes : List ℕ) → ((rest : List ℕ) → bytes ≡ 1 ∷ rest → ⊥) → ((rest : List ℕ) → bytes ≡ 2 ∷ rest → ⊥) → Breaks version_part IsVersion bytes (length bytes)
version_stops bytes not_1 not_2 = none_begins version_part IsVersion bytes false tt (no_version bytes not_1 not_2)

abbrev number_of : Option ℕ → ℕ
number_of None = 0
number_of (Some serial) = serial

number_below : (serial : Option ℕ) → IsSerial true serial → IsBelow 32 (number_of serial)
number_below None fits = absurd (false≢true fits.version)
number_below (Some serial) fits = fits.below

number_spelled : (serial : Option ℕ) → IsSerial true serial → serial_part serial ≡ to_be_bytes w32 (number_of serial)
number_spelled None fits = absurd (false≢true fits.version)
number_spelled (Some serial) fits = refl

as_serial : IsRecoded (to_be_bytes w32) (IsBelow 32) serial_part (IsSerial true) (λ n. Some n) number_of
as_serial = record {
  to_fits = λ n fits. record { version = refl; below = fits };
  to_same = λ n fits. refl;
  from_fits = number_below;
  from_same = number_spelled;
}

pub serial_stops : (bytes : List ℕ) (left : ℕ) → Breaks (to_be_bytes w32) (IsBelow 32) bytes left → Breaks serial_part (IsSerial true) bytes left
serial_stops bytes left = recoded_stops (to_be_bytes w32) (IsBelow 32) serial_part (IsSerial true) (λ n. Some n) number_of bytes left as_serial

-- ---- a violation behind its flag

pub flag_0 : (bytes rest : List ℕ) → bytes ≡ 0 ∷ rest → IsFront violation_part IfViolation bytes None rest
flag_0 bytes rest same = record { fitting = tt; spelled = same }

pub flag_1 : (bytes behind rest : List ℕ) (violation : Violation) → bytes ≡ 1 ∷ behind → IsFront violation_fields IsViolation behind violation rest → IsFront violation_part IfViolation bytes (Some violation) rest
flag_1 bytes behind rest violation same fields = record { fitting = fields.fitting; spelled = same ∙ ap (λ xs. 1 ∷ xs) fields.spelled }

no_flag : (bytes : List ℕ) → ((rest : List ℕ) → bytes ≡ 0 ∷ rest → ⊥) → ((rest : List ℕ) → bytes ≡ 1 ∷ rest → ⊥) → (other : Option Violation) (rest : List ℕ) → IfViolation other → bytes ≡ take 1 (violation_part other) ++ rest → ⊥
no_flag bytes not_0 not_1 None rest fits same = not_0 rest same
no_flag bytes not_0 not_1 (Some violation) rest fits same = not_1 rest same

pub flag_stops : (bytes : List ℕ) → ((rest : List ℕ) → bytes ≡ 0 ∷ rest → ⊥) → ((rest : List ℕ) → bytes ≡ 1 ∷ rest → ⊥) → Breaks violation_part IfViolation bytes (length bytes)
flag_stops bytes not_0 not_1 = none_begins violation_part IfViolation bytes None tt (no_flag bytes not_0 not_1)

-- no bytes
pub ended : (bytes : List ℕ) → length bytes ≡ 0 → Breaks violation_part IfViolation bytes 0
ended [] none = flag_stops [] (λ rest same. let some = ap length same in absurd (omega arith)) (λ rest same. let some = ap length same in absurd (omega arith))
ended (b ∷ bytes) none = absurd (omega arith)

fields_halt : (bytes behind front : List ℕ) → bytes ≡ 1 ∷ behind → ((other : Violation) (rest : List ℕ) → IsViolation other → behind ≡ take (suc (length front)) (violation_fields other) ++ rest → ⊥)
    → (other : Option Violation) (rest : List ℕ) → IfViolation other → bytes ≡ take (suc (suc (length front))) (violation_part other) ++ rest → ⊥
fields_halt bytes behind front same halts None rest fits there =
    let flag : ◌≡◌ {A = ℕ} 1 0 = ap (λ xs. get_or xs 0 0) (sym same ∙ there) in
    absurd (omega arith)
fields_halt bytes behind front same halts (Some violation) rest fits there = halts violation rest fits (ap (drop 1) (sym same ∙ there))

pub fields_stop : (bytes behind : List ℕ) (left : ℕ) → bytes ≡ 1 ∷ behind → Breaks violation_fields IsViolation behind left → Breaks violation_part IfViolation bytes left
fields_stop bytes behind left same fields = record {
  front = 1 ∷ fields.front;
  behind = fields.behind;
  parted = same ∙ ap (λ xs. 1 ∷ xs) fields.parted;
  counted = fields.counted;
  value = Some fields.value;
  more = fields.more;
  fitting = fields.fitting;
  begins = ap (λ xs. 1 ∷ xs) fields.begins;
  halts = fields_halt bytes behind fields.front same fields.halts;
}

-- ---- the fields of a violation

abbrev Pair : ℕ × (ℕ × ℕ) → Type 0
Pair = joined_fits (IsBelow 32) (λ _. joined_fits (IsBelow 64) (λ _. IsBelow 64))

abbrev pair_part : ℕ × (ℕ × ℕ) → List ℕ
pair_part = joined_part (to_be_bytes w32) (joined_part (to_be_bytes w64) (to_be_bytes w64))

as_violation : IsRecoded pair_part Pair violation_fields IsViolation (λ p. record { cell = p.0; expected = p.1.0; found = p.1.1 }) (λ v. (v.cell, (v.expected, v.found)))
as_violation = record {
  to_fits = λ p fits. record { cell = fits.0; expected = fits.1.0; found = fits.1.1 };
  to_same = λ p fits. refl;
  from_fits = λ v fits. (fits.cell, (fits.expected, fits.found));
  from_same = λ v fits. refl;
}

some_numbers : (n : ℕ) → IsBelow 32 n → (p : ℕ × ℕ) × joined_fits (IsBelow 64) (λ _. IsBelow 64) p
some_numbers n fits = ((0, 0), (omega arith, omega arith))

some_number : (n : ℕ) → IsBelow 64 n → (m : ℕ) × IsBelow 64 m
some_number n fits = (0, omega arith)

abbrev Numbers : ℕ × ℕ → Type 0
Numbers = joined_fits (IsBelow 64) (λ _. IsBelow 64)

abbrev numbers_part : ℕ × ℕ → List ℕ
numbers_part = joined_part (to_be_bytes w64) (to_be_bytes w64)

of_fields : (bytes : List ℕ) (left : ℕ) → Breaks pair_part Pair bytes left → Breaks violation_fields IsViolation bytes left
of_fields bytes left = recoded_stops pair_part Pair violation_fields IsViolation (λ p. record { cell = p.0; expected = p.1.0; found = p.1.1 }) (λ v. (v.cell, (v.expected, v.found))) bytes left as_violation

pub cell_stops : (bytes : List ℕ) (left : ℕ) → Breaks (to_be_bytes w32) (IsBelow 32) bytes left → Breaks violation_fields IsViolation bytes left
cell_stops bytes left stops = of_fields bytes left (stops_first (to_be_bytes w32) numbers_part (IsBelow 32) (λ _. Numbers) bytes left some_numbers stops)

pub expected_stops : (bytes rest : List ℕ) (cell left : ℕ) → IsFront (to_be_bytes w32) (IsBelow 32) bytes cell rest → Breaks (to_be_bytes w64) (IsBelow 64) rest left → Breaks violation_fields IsViolation bytes left
expected_stops bytes rest cell left front stops =
    of_fields bytes left (stops_second (to_be_bytes w32) numbers_part (IsBelow 32) (λ _. Numbers) bytes rest cell left number_part_32 front
    (stops_first (to_be_bytes w64) (to_be_bytes w64) (IsBelow 64) (λ _. IsBelow 64) rest left some_number stops))

pub found_stops : (bytes rest behind : List ℕ) (cell expected left : ℕ) → IsFront (to_be_bytes w32) (IsBelow 32) bytes cell rest → IsFront (to_be_bytes w64) (IsBelow 64) rest expected behind
    → Breaks (to_be_bytes w64) (IsBelow 64) behind left → Breaks violation_fields IsViolation bytes left
found_stops bytes rest behind cell expected left front next stops =
    of_fields bytes left (stops_second (to_be_bytes w32) numbers_part (IsBelow 32) (λ _. Numbers) bytes rest cell left number_part_32 front
    (stops_second (to_be_bytes w64) (to_be_bytes w64) (IsBelow 64) (λ _. IsBelow 64) rest behind expected left number_part_64 next stops))

pub violation_front : (bytes rest behind end : List ℕ) (cell expected found : ℕ) → IsFront (to_be_bytes w32) (IsBelow 32) bytes cell rest → IsFront (to_be_bytes w64) (IsBelow 64) rest expected behind
    → IsFront (to_be_bytes w64) (IsBelow 64) behind found end → IsFront violation_fields IsViolation bytes (record { cell = cell; expected = expected; found = found }) end
violation_front bytes rest behind end cell expected found a b c =
    recoded_front pair_part Pair violation_fields IsViolation (λ p. record { cell = p.0; expected = p.1.0; found = p.1.1 }) (λ v. (v.cell, (v.expected, v.found))) bytes end (cell, (expected, found)) as_violation
    (joined_front (to_be_bytes w32) numbers_part (IsBelow 32) (λ _. Numbers) bytes rest end cell (expected, found) a
    (joined_front (to_be_bytes w64) (to_be_bytes w64) (IsBelow 64) (λ _. IsBelow 64) rest behind end expected found b c))

pub cut_bytes : (size : ℕ) (bytes front rest : List ℕ) → IsCut size bytes front rest → All (λ byte. byte < 256) bytes → All (λ byte. byte < 256) front
cut_bytes size bytes front rest cut all =
    let same : take size bytes ≡ front = ap (take size) cut.parted ∙ take_at front rest size cut.sized in
    All-same (λ byte. byte < 256) front (take size bytes) (sym same) (All-take (λ byte. byte < 256) size bytes all)
