-- Where a blob stops, part by part, and the offset that this is.
use Rattle.std.proofs.Common.{◌≡◌, ℕ, zero, suc, ◌+◌, ◌-◌, ◌<◌, ◌≤◌, ◌^◌, Bool, true, false, List, [], ◌++◌, Option, Some, None, length, take, drop, refl, ap, sym, subst, ◌∙◌, arith, append_assoc}
use Rattle.std.proofs.Common.{length-append, length-drop}
use Rattle.std.specs.{Prelude.◌==◌, Int.w16, Int.to_be_bytes}
use Rattle.std.proofs.lemmas.{List.append-nil, List.nil_from_length, List.length-take-le, List.take-append-drop, List.take-append-le, List.take-take, List.take_at, List.Elements.All-nil}
use Rattle.std.proofs.lemmas.{Bool.eqb-true, Bool.false≢true}
use Rattle.oat_blob.specs.{declared.body.BodyHead.BodyHead, declared.body.Violation.Violation, Body.AreBytes, Body.Body, Layout.IsBlob, Layout.bits_part, Layout.covered_of, Layout.magic}
use Rattle.oat_blob.specs.{Layout.serial_part, Layout.targets_part, Layout.version_part, Layout.violation_part, Faults.BeginsBlob, Faults.IsFormOffset, Parts.AreFewBits, Parts.AreFewTargets}
use Rattle.oat_blob.specs.{Parts.IfViolation, Parts.IsBelow, Parts.IsFront, Parts.IsHead, Parts.IsMagic, Parts.IsSerial, Parts.IsVersion, Parts.Breaks, Parts.head_part, Parts.plain_part}
use Rattle.oat_blob.specs.{Shown.IsWhole, Shown.Shown, Shown.blob_part}
use Rattle.oat_blob.proofs.{Parts.bytes_part, Parts.number_part_16, Fixed.filled, Fixed.filled_bytes, Joined.joined_front, Joined.recoded_front, Joined.recoded_stops, Joined.stops_first}
use Rattle.oat_blob.proofs.{Joined.stops_second, OneLayout.DigestFits, OneLayout.EndFits, OneLayout.FieldsFit, OneLayout.HashFits, OneLayout.NonceFits, OneLayout.OpFits, OneLayout.PiecesFit}
use Rattle.oat_blob.proofs.{OneLayout.RecordsFit, OneLayout.SerialFits, OneLayout.VersionFits, OneLayout.bits_one, OneLayout.blob_pieces, OneLayout.digest_part, OneLayout.end_part}
use Rattle.oat_blob.proofs.{OneLayout.fields_of, OneLayout.fields_part, OneLayout.hash_part, OneLayout.head_fields, OneLayout.head_of, OneLayout.head_one, OneLayout.nonce_part}
use Rattle.oat_blob.proofs.{OneLayout.no_proper_prefix, OneLayout.op_part, OneLayout.opening_one, OneLayout.pieces_of, OneLayout.pieces_part, OneLayout.records_part, OneLayout.serial_fields}
use Rattle.oat_blob.proofs.{OneLayout.serial_one, OneLayout.shown_of, OneLayout.targets_one, OneLayout.version_fields, OneLayout.version_one}

zeros : (n : ℕ) → AreBytes (suc n) (filled (suc n) [])
zeros n = filled_bytes (suc n) [] (All-nil (λ byte. byte < 256)) (omega arith)

-- ---- a head

some_violation : (v : Option Violation) × IfViolation v
some_violation = (None, tt)

some_hash : (p : List ℕ × Option Violation) × HashFits p
some_hash = ((filled 32 [], some_violation.0), (zeros 31, some_violation.1))

some_digest : (p : List ℕ × (List ℕ × Option Violation)) × DigestFits p
some_digest = ((filled 32 [], some_hash.0), (zeros 31, some_hash.1))

some_nonce : (p : List ℕ × (List ℕ × (List ℕ × Option Violation))) × NonceFits p
some_nonce = ((filled 16 [], some_digest.0), (zeros 15, some_digest.1))

some_serial : (numbered : Bool) → (p : Option ℕ × (List ℕ × (List ℕ × (List ℕ × Option Violation)))) × SerialFits numbered p
some_serial false = ((None, some_nonce.0), (record { version = refl; below = tt }, some_nonce.1))
some_serial true = ((Some 0, some_nonce.0), (record { version = refl; below = omega arith }, some_nonce.1))

some_op : (numbered : Bool) → (p : ℕ × (Option ℕ × (List ℕ × (List ℕ × (List ℕ × Option Violation))))) × OpFits numbered p
some_op numbered = ((0, (some_serial numbered).0), (omega arith, (some_serial numbered).1))

some_version : (p : Bool × (ℕ × (Option ℕ × (List ℕ × (List ℕ × (List ℕ × Option Violation)))))) × VersionFits p
some_version = ((false, (some_op false).0), (tt, (some_op false).1))

of_fields : (bytes : List ℕ) (left : ℕ) → Breaks fields_part FieldsFit bytes left → Breaks head_part IsHead bytes left
of_fields bytes left = recoded_stops fields_part FieldsFit head_part IsHead head_of fields_of bytes left head_fields

pub at_opening : (bytes : List ℕ) (left : ℕ) → Breaks plain_part IsMagic bytes left → Breaks head_part IsHead bytes left
at_opening bytes left stops = of_fields bytes left (stops_first plain_part version_fields IsMagic (λ _. VersionFits) bytes left (λ x fits. some_version) stops)

pub behind_opening : (bytes rest : List ℕ) (left : ℕ) → IsFront plain_part IsMagic bytes magic rest → Breaks version_fields VersionFits rest left → Breaks head_part IsHead bytes left
behind_opening bytes rest left front stops = of_fields bytes left (stops_second plain_part version_fields IsMagic (λ _. VersionFits) bytes rest magic left opening_one front stops)

pub at_version : (bytes : List ℕ) (left : ℕ) → Breaks version_part IsVersion bytes left → Breaks version_fields VersionFits bytes left
at_version bytes left = stops_first version_part op_part IsVersion OpFits bytes left (λ numbered fits. some_op numbered)

pub behind_version : (bytes rest : List ℕ) (numbered : Bool) (left : ℕ) → IsFront version_part IsVersion bytes numbered rest → Breaks op_part (OpFits numbered) rest left → Breaks version_fields VersionFits bytes left
behind_version bytes rest numbered left = stops_second version_part op_part IsVersion OpFits bytes rest numbered left version_one

pub at_op : (numbered : Bool) (bytes : List ℕ) (left : ℕ) → Breaks (to_be_bytes w16) (IsBelow 16) bytes left → Breaks op_part (OpFits numbered) bytes left
at_op numbered bytes left = stops_first (to_be_bytes w16) serial_fields (IsBelow 16) (λ _. SerialFits numbered) bytes left (λ op fits. some_serial numbered)

pub behind_op : (numbered : Bool) (bytes rest : List ℕ) (op left : ℕ) → IsFront (to_be_bytes w16) (IsBelow 16) bytes op rest → Breaks serial_fields (SerialFits numbered) rest left → Breaks op_part (OpFits numbered) bytes left
behind_op numbered bytes rest op left = stops_second (to_be_bytes w16) serial_fields (IsBelow 16) (λ _. SerialFits numbered) bytes rest op left number_part_16

pub at_serial : (numbered : Bool) (bytes : List ℕ) (left : ℕ) → Breaks serial_part (IsSerial numbered) bytes left → Breaks serial_fields (SerialFits numbered) bytes left
at_serial numbered bytes left = stops_first serial_part nonce_part (IsSerial numbered) (λ _. NonceFits) bytes left (λ serial fits. some_nonce)

pub behind_serial : (numbered : Bool) (bytes rest : List ℕ) (serial : Option ℕ) (left : ℕ) → IsFront serial_part (IsSerial numbered) bytes serial rest → Breaks nonce_part NonceFits rest left → Breaks serial_fields (SerialFits numbered) bytes left
behind_serial numbered bytes rest serial left = stops_second serial_part nonce_part (IsSerial numbered) (λ _. NonceFits) bytes rest serial left (serial_one numbered)

pub at_nonce : (bytes : List ℕ) (left : ℕ) → Breaks plain_part (AreBytes 16) bytes left → Breaks nonce_part NonceFits bytes left
at_nonce bytes left = stops_first plain_part digest_part (AreBytes 16) (λ _. DigestFits) bytes left (λ nonce fits. some_digest)

pub behind_nonce : (bytes nonce rest : List ℕ) (left : ℕ) → IsFront plain_part (AreBytes 16) bytes nonce rest → Breaks digest_part DigestFits rest left → Breaks nonce_part NonceFits bytes left
behind_nonce bytes nonce rest left = stops_second plain_part digest_part (AreBytes 16) (λ _. DigestFits) bytes rest nonce left (bytes_part 16)

pub at_digest : (bytes : List ℕ) (left : ℕ) → Breaks plain_part (AreBytes 32) bytes left → Breaks digest_part DigestFits bytes left
at_digest bytes left = stops_first plain_part hash_part (AreBytes 32) (λ _. HashFits) bytes left (λ digest fits. some_hash)

pub behind_digest : (bytes digest rest : List ℕ) (left : ℕ) → IsFront plain_part (AreBytes 32) bytes digest rest → Breaks hash_part HashFits rest left → Breaks digest_part DigestFits bytes left
behind_digest bytes digest rest left = stops_second plain_part hash_part (AreBytes 32) (λ _. HashFits) bytes rest digest left (bytes_part 32)

pub at_hash : (bytes : List ℕ) (left : ℕ) → Breaks plain_part (AreBytes 32) bytes left → Breaks hash_part HashFits bytes left
at_hash bytes left = stops_first plain_part violation_part (AreBytes 32) (λ _. IfViolation) bytes left (λ hash fits. some_violation)

pub behind_hash : (bytes hash rest : List ℕ) (left : ℕ) → IsFront plain_part (AreBytes 32) bytes hash rest → Breaks violation_part IfViolation rest left → Breaks hash_part HashFits bytes left
behind_hash bytes hash rest left = stops_second plain_part violation_part (AreBytes 32) (λ _. IfViolation) bytes rest hash left (bytes_part 32)

pub head_front : (bytes r0 r1 r2 r3 r4 r5 r6 rest : List ℕ) (numbered : Bool) (op : ℕ) (serial : Option ℕ) (nonce digest hash : List ℕ) (violation : Option Violation) → IsFront plain_part IsMagic bytes magic r0 → IsFront version_part IsVersion r0 numbered r1
    → IsFront (to_be_bytes w16) (IsBelow 16) r1 op r2 → IsFront serial_part (IsSerial numbered) r2 serial r3 → IsFront plain_part (AreBytes 16) r3 nonce r4 → IsFront plain_part (AreBytes 32) r4 digest r5
    → IsFront plain_part (AreBytes 32) r5 hash r6 → IsFront violation_part IfViolation r6 violation rest
    → IsFront head_part IsHead bytes (record { op = op; nonce = nonce; digest = digest; hash = hash; violation = violation; serial = serial }) rest
head_front bytes r0 r1 r2 r3 r4 r5 r6 rest numbered op serial nonce digest hash violation a b c d e f g h =
    recoded_front fields_part FieldsFit head_part IsHead head_of fields_of bytes rest (magic, (numbered, (op, (serial, (nonce, (digest, (hash, violation))))))) head_fields
    (joined_front plain_part version_fields IsMagic (λ _. VersionFits) bytes r0 rest magic (numbered, (op, (serial, (nonce, (digest, (hash, violation)))))) a
    (joined_front version_part op_part IsVersion OpFits r0 r1 rest numbered (op, (serial, (nonce, (digest, (hash, violation))))) b
    (joined_front (to_be_bytes w16) serial_fields (IsBelow 16) (λ _. SerialFits numbered) r1 r2 rest op (serial, (nonce, (digest, (hash, violation)))) c
    (joined_front serial_part nonce_part (IsSerial numbered) (λ _. NonceFits) r2 r3 rest serial (nonce, (digest, (hash, violation))) d
    (joined_front plain_part digest_part (AreBytes 16) (λ _. DigestFits) r3 r4 rest nonce (digest, (hash, violation)) e
    (joined_front plain_part hash_part (AreBytes 32) (λ _. HashFits) r4 r5 rest digest (hash, violation) f
    (joined_front plain_part violation_part (AreBytes 32) (λ _. IfViolation) r5 r6 rest hash violation g h)))))))

-- ---- a blob

few_targets : AreFewTargets []
few_targets = record { few = omega arith; addresses = All-nil (λ target. target < 2 ^ 64) }

some_mac : (x : List ℕ) → AreFewTargets x → (mac : List ℕ) × AreBytes 32 mac
some_mac x fits = (filled 32 [], zeros 31)

some_end : (x : List Bool) → AreFewBits x → (p : List ℕ × List ℕ) × EndFits p
some_end x fits = (([], filled 32 []), (few_targets, zeros 31))

some_records : (x : BodyHead) → IsHead x → (p : List Bool × (List ℕ × List ℕ)) × RecordsFit p
some_records x fits = (([], ([], filled 32 [])), (omega arith, (few_targets, zeros 31)))

of_pieces : (bytes : List ℕ) (left : ℕ) → Breaks pieces_part PiecesFit bytes left → Breaks blob_part IsWhole bytes left
of_pieces bytes left = recoded_stops pieces_part PiecesFit blob_part IsWhole shown_of pieces_of bytes left blob_pieces

pub at_head : (bytes : List ℕ) (left : ℕ) → Breaks head_part IsHead bytes left → Breaks blob_part IsWhole bytes left
at_head bytes left stops = of_pieces bytes left (stops_first head_part records_part IsHead (λ _. RecordsFit) bytes left some_records stops)

pub behind_head : (bytes rest : List ℕ) (head : BodyHead) (left : ℕ) → IsFront head_part IsHead bytes head rest → Breaks records_part RecordsFit rest left → Breaks blob_part IsWhole bytes left
behind_head bytes rest head left front stops = of_pieces bytes left (stops_second head_part records_part IsHead (λ _. RecordsFit) bytes rest head left head_one front stops)

pub at_bits : (bytes : List ℕ) (left : ℕ) → Breaks bits_part AreFewBits bytes left → Breaks records_part RecordsFit bytes left
at_bits bytes left = stops_first bits_part end_part AreFewBits (λ _. EndFits) bytes left some_end

pub behind_bits : (bytes rest : List ℕ) (bits : List Bool) (left : ℕ) → IsFront bits_part AreFewBits bytes bits rest → Breaks end_part EndFits rest left → Breaks records_part RecordsFit bytes left
behind_bits bytes rest bits left = stops_second bits_part end_part AreFewBits (λ _. EndFits) bytes rest bits left bits_one

pub at_targets : (bytes : List ℕ) (left : ℕ) → Breaks targets_part AreFewTargets bytes left → Breaks end_part EndFits bytes left
at_targets bytes left = stops_first targets_part plain_part AreFewTargets (λ _. AreBytes 32) bytes left some_mac

pub behind_targets : (bytes rest targets : List ℕ) (left : ℕ) → IsFront targets_part AreFewTargets bytes targets rest → Breaks plain_part (AreBytes 32) rest left → Breaks end_part EndFits bytes left
behind_targets bytes rest targets left = stops_second targets_part plain_part AreFewTargets (λ _. AreBytes 32) bytes rest targets left targets_one

pub blob_front : (bytes r0 r1 r2 rest : List ℕ) (head : BodyHead) (bits : List Bool) (targets mac : List ℕ) → IsFront head_part IsHead bytes head r0 → IsFront bits_part AreFewBits r0 bits r1
    → IsFront targets_part AreFewTargets r1 targets r2 → IsFront plain_part (AreBytes 32) r2 mac rest
    → IsFront blob_part IsWhole bytes (record { body = record { head = head; bits = bits; targets = targets }; mac = mac }) rest
blob_front bytes r0 r1 r2 rest head bits targets mac a b c d =
    recoded_front pieces_part PiecesFit blob_part IsWhole shown_of pieces_of bytes rest (head, (bits, (targets, mac))) blob_pieces
    (joined_front head_part records_part IsHead (λ _. RecordsFit) bytes r0 rest head (bits, (targets, mac)) a
    (joined_front bits_part end_part AreFewBits (λ _. EndFits) r0 r1 rest bits (targets, mac) b
    (joined_front targets_part plain_part AreFewTargets (λ _. AreBytes 32) r1 r2 rest targets mac c d)))

-- ---- the offset

pub not_empty : (n : ℕ) → false ≡ (n == 0) → 0 < n
not_empty zero same = absurd (false≢true same)
not_empty (suc n) same = omega arith

pub empty : (n : ℕ) → true ≡ (n == 0) → n ≡ 0
empty n same = eqb-true n 0 (sym same)

pub as_blob : (bytes rest : List ℕ) (shown : Shown) → IsFront blob_part IsWhole bytes shown rest → length rest ≡ 0 → IsBlob bytes shown.body shown.mac
as_blob bytes rest shown front none = record {
  body_fits = front.fitting.body;
  mac_fits = front.fitting.mac;
  layout = front.spelled ∙ (ap (λ xs. blob_part shown ++ xs) (nil_from_length rest none) ∙ append-nil (blob_part shown));
}

as_whole : (bytes mac : List ℕ) (body : Body) → IsBlob bytes body mac → IsWhole (record { body = body; mac = mac })
as_whole bytes mac body blob = record { body = blob.body_fits; mac = blob.mac_fits }

-- a longer front begins as the bytes do
longer : (bytes text rest : List ℕ) (n more : ℕ) → n ≤ more → more ≤ length bytes → take more bytes ++ rest ≡ text → bytes ≡ take n text ++ drop n bytes
longer bytes text rest n more below within same =
    let long : length (take more bytes) ≡ more = length-take-le more bytes within in
    let front : take n text ≡ take n bytes =
    sym (ap (take n) same) ∙ (take-append-le n (take more bytes) rest (omega arith) ∙ take-take n more bytes below) in
    sym (take-append-drop n bytes) ∙ ap (λ xs. xs ++ drop n bytes) (sym front)

pub offset_at : (bytes : List ℕ) (left : ℕ) → Breaks blob_part IsWhole bytes left → (left ≤ length bytes) × IsFormOffset bytes (length bytes - left)
offset_at bytes left stops =
    let sum : length bytes ≡ length stops.front + left = ap length stops.parted ∙ (length-append stops.front stops.behind ∙ ap (λ n. length stops.front + n) stops.counted) in
    let at : length stops.front ≡ length bytes - left = omega arith in
    let front : take (length stops.front) bytes ≡ stops.front = ap (take (length stops.front)) stops.parted ∙ take_at stops.front stops.behind (length stops.front) refl in (
      omega arith,
      subst (λ (n : ℕ). IsFormOffset bytes n) at (record {
        within = omega arith;
        begins = subst (λ (xs : List ℕ). BeginsBlob xs) (sym front) (
          stops.value.body,
          stops.value.mac,
          stops.more,
          record {
            body_fits = stops.fitting.body;
            mac_fits = stops.fitting.mac;
            layout = stops.begins;
          },
        );
        longest = λ more above within begins.
            let blob = begins.3 in
            stops.halts (record { body = begins.0; mac = begins.1 }) (drop (suc (length stops.front)) bytes) (as_whole (take more bytes ++ begins.2) begins.1 begins.0 blob)
            (longer bytes (covered_of begins.0 ++ begins.1) begins.2 (suc (length stops.front)) more (omega arith) within blob.layout);
        no_blob = λ body mac blob.
            stops.halts (record { body = body; mac = mac }) (drop (suc (length stops.front)) (covered_of body ++ mac)) (as_whole bytes mac body blob)
            (blob.layout ∙ sym (take-append-drop (suc (length stops.front)) (covered_of body ++ mac)));
      }),
    )

-- bytes behind a blob stop it where they begin
pub offset_behind : (bytes rest : List ℕ) (shown : Shown) → IsFront blob_part IsWhole bytes shown rest → 0 < length rest → (length rest ≤ length bytes) × IsFormOffset bytes (length bytes - length rest)
offset_behind bytes rest shown front some =
    let text : List ℕ = blob_part shown in
    let sum : length bytes ≡ length text + length rest = ap length front.spelled ∙ length-append text rest in
    let at : length text ≡ length bytes - length rest = omega arith in
    let whole : take (length text) bytes ≡ text = ap (take (length text)) front.spelled ∙ take_at text rest (length text) refl in
    let blob : IsBlob text shown.body shown.mac = record { body_fits = front.fitting.body; mac_fits = front.fitting.mac; layout = refl } in (
      omega arith,
      subst (λ (n : ℕ). IsFormOffset bytes n) at (record {
        within = omega arith;
        begins = subst (λ (xs : List ℕ). BeginsBlob xs) (sym whole) (
          shown.body,
          shown.mac,
          [],
          record {
            body_fits = front.fitting.body;
            mac_fits = front.fitting.mac;
            layout = append-nil text;
          },
        );
        longest = λ more above within begins.
            let goes_on : text ++ (drop (length text) (take more bytes) ++ begins.2) ≡ take more bytes ++ begins.2 =
            sym (append_assoc text (drop (length text) (take more bytes)) begins.2)
            ∙ ap (λ xs. xs ++ begins.2) (ap (λ xs. xs ++ drop (length text) (take more bytes)) (sym (take-take (length text) more bytes (omega arith) ∙ whole)) ∙ take-append-drop (length text) (take more bytes)) in
            let none = no_proper_prefix text (drop (length text) (take more bytes) ++ begins.2) shown.body begins.0 shown.mac begins.1 blob (subst (λ (xs : List ℕ). IsBlob xs begins.0 begins.1) (sym goes_on) begins.3) in
            let behind = length-append (drop (length text) (take more bytes)) begins.2 in
            let dropped = length-drop (length text) (take more bytes) in
            let taken = length-take-le more bytes within in
            let empty : length (drop (length text) (take more bytes) ++ begins.2) ≡ 0 = ap length none in
            absurd (omega arith);
        no_blob = λ body mac other.
            let none : rest ≡ [] = no_proper_prefix text rest shown.body body shown.mac mac blob (subst (λ (xs : List ℕ). IsBlob xs body mac) front.spelled other) in
            let empty : length rest ≡ 0 = ap length none in
            absurd (omega arith);
      }),
    )

-- all before the MAC
pub covered_read : (bytes end rest mac covered : List ℕ) (body : Body) (n : ℕ) → bytes ≡ (covered_of body ++ mac) ++ rest → end ≡ mac ++ rest → n ≡ length bytes - length end → covered ≡ take n bytes → covered ≡ covered_of body
covered_read bytes end rest mac covered body n whole tail at taken =
    let text : List ℕ = covered_of body in
    let parted : bytes ≡ text ++ (mac ++ rest) = whole ∙ append_assoc text mac rest in
    let sum : length bytes ≡ length text + length (mac ++ rest) = ap length parted ∙ length-append text (mac ++ rest) in
    let end_length : length end ≡ length (mac ++ rest) = ap length tail in
    taken ∙ (ap (take n) parted ∙ take_at text (mac ++ rest) n (omega arith))
