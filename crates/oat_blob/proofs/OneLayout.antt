-- The layout of a blob determines its body and its MAC, whatever stands behind it.
use Rattle.std.proofs.Common.{◌≡◌, ℕ, ◌<◌, ◌^◌, Bool, true, false, List, [], ◌++◌, Option, Some, None, length, drop, get_or, refl, ap, sym, ◌∙◌, arith, append_assoc}
use Rattle.std.specs.{Prelude.IfSome, Prelude.is_some, Int.w16, Int.w32, Int.w64, Int.to_be_bytes, List.flat_map}
use Rattle.std.proofs.lemmas.{Bool.false≢true, List.append-nil}
use Rattle.oat_bits.specs.Packed.{packed}
use Rattle.oat_bits.proofs.OnePackedForm.{packed-one}
use Rattle.oat_blob.specs.{declared.body.BodyHead.BodyHead, declared.body.Violation.Violation, Body.AreBytes, Body.IsViolation, Layout.bits_part, Layout.covered_of, Layout.magic, Layout.serial_part}
use Rattle.oat_blob.specs.{Layout.targets_part, Layout.version_part, Layout.violation_part, Laws.NoProperPrefix, Laws.OneBody, Parts.AreFewBits, Parts.AreFewTargets, Parts.IfViolation, Parts.IsBelow}
use Rattle.oat_blob.specs.{Parts.IsHead, Parts.IsMagic, Parts.IsSerial, Parts.IsVersion, Parts.head_part, Parts.plain_part, Shown.IsWhole, Shown.Shown, Shown.blob_part}
use Rattle.oat_blob.proofs.{Parts.IsPart, Parts.behind, Parts.bytes_part, Parts.fixed_part, Parts.listed_parts, Parts.number_part_16, Parts.number_part_32, Parts.number_part_64, Joined.IsRecoded}
use Rattle.oat_blob.proofs.{Joined.joined_fits, Joined.joined_one, Joined.joined_part}

violation-one : (x y : Option Violation) (r s : List ℕ) → IfSome x IsViolation → IfSome y IsViolation → violation_part x ++ r ≡ violation_part y ++ s → (x ≡ y) × (r ≡ s)
violation-one None None r s of_x of_y same = (refl, ap (drop 1) same)
violation-one None (Some y) r s of_x of_y same = let flag : ◌≡◌ {A = ℕ} 0 1 = ap (λ bytes. get_or bytes 0 0) same in absurd (omega arith)
violation-one (Some x) None r s of_x of_y same = let flag : ◌≡◌ {A = ℕ} 1 0 = ap (λ bytes. get_or bytes 0 0) same in absurd (omega arith)
violation-one (Some x) (Some y) r s of_x of_y same =
    let tails : (to_be_bytes w32 x.cell ++ (to_be_bytes w64 x.expected ++ to_be_bytes w64 x.found)) ++ r ≡ (to_be_bytes w32 y.cell ++ (to_be_bytes w64 y.expected ++ to_be_bytes w64 y.found)) ++ s = ap (drop 1) same in
    let cell = behind (to_be_bytes w32) (λ n. n < 2 ^ 32) number_part_32 x.cell y.cell (to_be_bytes w64 x.expected ++ to_be_bytes w64 x.found) (to_be_bytes w64 y.expected ++ to_be_bytes w64 y.found) r s of_x.cell of_y.cell tails in
    let expected = behind (to_be_bytes w64) (λ n. n < 2 ^ 64) number_part_64 x.expected y.expected (to_be_bytes w64 x.found) (to_be_bytes w64 y.found) r s of_x.expected of_y.expected cell.1 in
    let found = number_part_64.one x.found y.found r s of_x.found of_y.found expected.1 in
    (λ i. Some (record { cell = cell.0 i; expected = expected.0 i; found = found.0 i }), found.1)

pub violation_one : IsPart violation_part IfViolation
violation_one = record { one = violation-one }

bits-one : (a b : List Bool) (r s : List ℕ) → AreFewBits a → AreFewBits b → bits_part a ++ r ≡ bits_part b ++ s → (a ≡ b) × (r ≡ s)
bits-one a b r s of_a of_b same =
    let count = behind (to_be_bytes w32) (λ n. n < 2 ^ 32) number_part_32 (length a) (length b) (packed a) (packed b) r s of_a of_b same in
    packed-one a b r s count.0 count.1

pub bits_one : IsPart bits_part AreFewBits
bits_one = record { one = bits-one }

targets-one : (a b : List ℕ) (r s : List ℕ) → AreFewTargets a → AreFewTargets b → targets_part a ++ r ≡ targets_part b ++ s → (a ≡ b) × (r ≡ s)
targets-one a b r s of_a of_b same =
    let count = behind (to_be_bytes w32) (λ n. n < 2 ^ 32) number_part_32 (length a) (length b) (flat_map (to_be_bytes w64) a) (flat_map (to_be_bytes w64) b) r s of_a.few of_b.few same in
    listed_parts (to_be_bytes w64) (λ n. n < 2 ^ 64) number_part_64 a b r s count.0 of_a.addresses of_b.addresses count.1

pub targets_one : IsPart targets_part AreFewTargets
targets_one = record { one = targets-one }

pub opening_one : IsPart plain_part IsMagic
opening_one = fixed_part plain_part IsMagic 4 (λ bytes opens. ap length opens) (λ x y of_x of_y same. same)

recoded_one : {X Y : Type 0} (first : X → List ℕ) (fa : X → Type 0) (second : Y → List ℕ) (fb : Y → Type 0) (to : X → Y) (from : Y → X)
    → IsRecoded first fa second fb to from → ((y : Y) → to (from y) ≡ y) → IsPart first fa → IsPart second fb
recoded_one {X} {Y} first fa second fb to from code back part = record { one = both } where
  both : (x y : Y) (r s : List ℕ) → fb x → fb y → second x ++ r ≡ second y ++ s → (x ≡ y) × (r ≡ s)
  both x y r s of_x of_y same =
      let one = part.one (from x) (from y) r s (code.from_fits x of_x) (code.from_fits y of_y)
      (sym (ap (λ xs. xs ++ r) (code.from_same x of_x)) ∙ (same ∙ ap (λ xs. xs ++ s) (code.from_same y of_y))) in
      (sym (back x) ∙ (ap to one.0 ∙ back y), one.1)

-- ---- a head, part by part

abbrev pub hash_part : List ℕ × Option Violation → List ℕ
hash_part = joined_part plain_part violation_part

abbrev pub HashFits : List ℕ × Option Violation → Type 0
HashFits = joined_fits (AreBytes 32) (λ _. IfViolation)

abbrev pub digest_part : List ℕ × (List ℕ × Option Violation) → List ℕ
digest_part = joined_part plain_part hash_part

abbrev pub DigestFits : List ℕ × (List ℕ × Option Violation) → Type 0
DigestFits = joined_fits (AreBytes 32) (λ _. HashFits)

abbrev pub nonce_part : List ℕ × (List ℕ × (List ℕ × Option Violation)) → List ℕ
nonce_part = joined_part plain_part digest_part

abbrev pub NonceFits : List ℕ × (List ℕ × (List ℕ × Option Violation)) → Type 0
NonceFits = joined_fits (AreBytes 16) (λ _. DigestFits)

abbrev pub serial_fields : Option ℕ × (List ℕ × (List ℕ × (List ℕ × Option Violation))) → List ℕ
serial_fields = joined_part serial_part nonce_part

-- what stands behind depends on whether windows are numbered
abbrev pub SerialFits : Bool → Option ℕ × (List ℕ × (List ℕ × (List ℕ × Option Violation))) → Type 0
SerialFits numbered = joined_fits (IsSerial numbered) (λ _. NonceFits)

abbrev pub op_part : ℕ × (Option ℕ × (List ℕ × (List ℕ × (List ℕ × Option Violation)))) → List ℕ
op_part = joined_part (to_be_bytes w16) serial_fields

abbrev pub OpFits : Bool → ℕ × (Option ℕ × (List ℕ × (List ℕ × (List ℕ × Option Violation)))) → Type 0
OpFits numbered = joined_fits (IsBelow 16) (λ _. SerialFits numbered)

abbrev pub version_fields : Bool × (ℕ × (Option ℕ × (List ℕ × (List ℕ × (List ℕ × Option Violation))))) → List ℕ
version_fields = joined_part version_part op_part

abbrev pub VersionFits : Bool × (ℕ × (Option ℕ × (List ℕ × (List ℕ × (List ℕ × Option Violation))))) → Type 0
VersionFits = joined_fits IsVersion OpFits

abbrev pub Fields : Type 0
Fields = List ℕ × (Bool × (ℕ × (Option ℕ × (List ℕ × (List ℕ × (List ℕ × Option Violation))))))

abbrev pub fields_part : Fields → List ℕ
fields_part = joined_part plain_part version_fields

abbrev pub FieldsFit : Fields → Type 0
FieldsFit = joined_fits IsMagic (λ _. VersionFits)

abbrev pub head_of : Fields → BodyHead
head_of p = record { op = p.1.1.0; nonce = p.1.1.1.1.0; digest = p.1.1.1.1.1.0; hash = p.1.1.1.1.1.1.0; violation = p.1.1.1.1.1.1.1; serial = p.1.1.1.0 }

abbrev pub fields_of : BodyHead → Fields
fields_of head = (magic, (is_some head.serial, (head.op, (head.serial, (head.nonce, (head.digest, (head.hash, head.violation)))))))

head_spelled : (p : Fields) → FieldsFit p → fields_part p ≡ head_part (head_of p)
head_spelled p fits =
    ap (λ xs. xs ++ version_fields p.1) fits.0 ∙ ap (λ numbered. magic ++ (version_part numbered ++ op_part p.1.1)) (sym fits.1.1.1.0.version)

pub head_fields : IsRecoded fields_part FieldsFit head_part IsHead head_of fields_of
head_fields = record {
  to_fits = λ p fits. record {
    op = fits.1.1.0;
    nonce = fits.1.1.1.1.0;
    digest = fits.1.1.1.1.1.0;
    hash = fits.1.1.1.1.1.1.0;
    violation = fits.1.1.1.1.1.1.1;
    serial = fits.1.1.1.0.below;
  };
  to_same = head_spelled;
  from_fits = λ head fits. (refl, (tt, (fits.op, (record { version = refl; below = fits.serial }, (fits.nonce, (fits.digest, (fits.hash, fits.violation)))))));
  from_same = λ head fits. refl;
}

version-one : (x y : Bool) → IsVersion x → IsVersion y → version_part x ≡ version_part y → x ≡ y
version-one false false of_x of_y same = refl
version-one false true of_x of_y same = let byte : ◌≡◌ {A = ℕ} 1 2 = ap (λ bytes. get_or bytes 0 0) same in absurd (omega arith)
version-one true false of_x of_y same = let byte : ◌≡◌ {A = ℕ} 2 1 = ap (λ bytes. get_or bytes 0 0) same in absurd (omega arith)
version-one true true of_x of_y same = refl

version-long : (numbered : Bool) → IsVersion numbered → length (version_part numbered) ≡ 1
version-long false fits = refl
version-long true fits = refl

pub version_one : IsPart version_part IsVersion
version_one = fixed_part version_part IsVersion 1 version-long version-one

serial-one : (numbered : Bool) (x y : Option ℕ) (r s : List ℕ) → IsSerial numbered x → IsSerial numbered y → serial_part x ++ r ≡ serial_part y ++ s → (x ≡ y) × (r ≡ s)
serial-one numbered None None r s of_x of_y same = (refl, same)
serial-one numbered None (Some y) r s of_x of_y same = absurd (false≢true (of_x.version ∙ sym of_y.version))
serial-one numbered (Some x) None r s of_x of_y same = absurd (false≢true (of_y.version ∙ sym of_x.version))
serial-one numbered (Some x) (Some y) r s of_x of_y same =
    let one = number_part_32.one x y r s of_x.below of_y.below same in
    (ap (λ n. Some n) one.0, one.1)

pub serial_one : (numbered : Bool) → IsPart serial_part (IsSerial numbered)
serial_one numbered = record { one = serial-one numbered }

pub head_one : IsPart head_part IsHead
head_one =
    recoded_one fields_part FieldsFit head_part IsHead head_of fields_of head_fields (λ head. refl)
    (joined_one plain_part version_fields IsMagic (λ _. VersionFits) opening_one (λ _.
    joined_one version_part op_part IsVersion OpFits version_one (λ numbered.
    joined_one (to_be_bytes w16) serial_fields (IsBelow 16) (λ _. SerialFits numbered) number_part_16 (λ _.
    joined_one serial_part nonce_part (IsSerial numbered) (λ _. NonceFits) (serial_one numbered) (λ _.
    joined_one plain_part digest_part (AreBytes 16) (λ _. DigestFits) (bytes_part 16) (λ _.
    joined_one plain_part hash_part (AreBytes 32) (λ _. HashFits) (bytes_part 32) (λ _.
    joined_one plain_part violation_part (AreBytes 32) (λ _. IfViolation) (bytes_part 32) (λ _. violation_one))))))))

-- ---- a blob, part by part

abbrev pub end_part : List ℕ × List ℕ → List ℕ
end_part = joined_part targets_part plain_part

abbrev pub EndFits : List ℕ × List ℕ → Type 0
EndFits = joined_fits AreFewTargets (λ _. AreBytes 32)

abbrev pub records_part : List Bool × (List ℕ × List ℕ) → List ℕ
records_part = joined_part bits_part end_part

abbrev pub RecordsFit : List Bool × (List ℕ × List ℕ) → Type 0
RecordsFit = joined_fits AreFewBits (λ _. EndFits)

abbrev pub Pieces : Type 0
Pieces = BodyHead × (List Bool × (List ℕ × List ℕ))

abbrev pub pieces_part : Pieces → List ℕ
pieces_part = joined_part head_part records_part

abbrev pub PiecesFit : Pieces → Type 0
PiecesFit = joined_fits IsHead (λ _. RecordsFit)

abbrev pub shown_of : Pieces → Shown
shown_of p = record { body = record { head = p.0; bits = p.1.0; targets = p.1.1.0 }; mac = p.1.1.1 }

abbrev pub pieces_of : Shown → Pieces
pieces_of shown = (shown.body.head, (shown.body.bits, (shown.body.targets, shown.mac)))

regrouped : (a b c d e f g h i j m : List ℕ) → (a ++ (b ++ (c ++ (d ++ (e ++ (f ++ (g ++ h))))))) ++ (i ++ (j ++ m)) ≡ (a ++ (b ++ (c ++ (d ++ (e ++ (f ++ (g ++ (h ++ (i ++ j))))))))) ++ m
regrouped a b c d e f g h i j m = simp append_assoc

spelled : (shown : Shown) → pieces_part (pieces_of shown) ≡ blob_part shown
unfolding covered_of
spelled shown =
    let head = shown.body.head in
    regrouped magic (version_part (is_some head.serial)) (to_be_bytes w16 head.op) (serial_part head.serial) head.nonce head.digest head.hash (violation_part head.violation) (bits_part shown.body.bits) (targets_part shown.body.targets) shown.mac

pub blob_pieces : IsRecoded pieces_part PiecesFit blob_part IsWhole shown_of pieces_of
blob_pieces = record {
  to_fits = λ p fits. record {
    body = record {
      op = fits.0.op;
      nonce = fits.0.nonce;
      digest = fits.0.digest;
      hash = fits.0.hash;
      violation = fits.0.violation;
      serial = fits.0.serial;
      bits = fits.1.0;
      targets = fits.1.1.0.few;
      addresses = fits.1.1.0.addresses;
    };
    mac = fits.1.1.1;
  };
  to_same = λ p fits. spelled (shown_of p);
  from_fits = λ shown fits. (
    record { op = fits.body.op; nonce = fits.body.nonce; digest = fits.body.digest; hash = fits.body.hash; violation = fits.body.violation; serial = fits.body.serial },
    (fits.body.bits, (record { few = fits.body.targets; addresses = fits.body.addresses }, fits.mac)),
  );
  from_same = λ shown fits. sym (spelled shown);
}

pub blob_one : IsPart blob_part IsWhole
blob_one =
    recoded_one pieces_part PiecesFit blob_part IsWhole shown_of pieces_of blob_pieces (λ shown. refl)
    (joined_one head_part records_part IsHead (λ _. RecordsFit) head_one (λ _.
    joined_one bits_part end_part AreFewBits (λ _. EndFits) bits_one (λ _.
    joined_one targets_part plain_part AreFewTargets (λ _. AreBytes 32) targets_one (λ _. bytes_part 32))))

pub no_proper_prefix : NoProperPrefix
no_proper_prefix bytes rest body other mac other_mac first second =
    let fronts : (covered_of body ++ mac) ++ rest ≡ (covered_of other ++ other_mac) ++ [] =
    sym (ap (λ xs. xs ++ rest) first.layout) ∙ (second.layout ∙ sym (append-nil (covered_of other ++ other_mac))) in
    (blob_one.one (record { body = body; mac = mac }) (record { body = other; mac = other_mac }) rest []
    (record { body = first.body_fits; mac = first.mac_fits }) (record { body = second.body_fits; mac = second.mac_fits }) fronts).1

pub one_body : OneBody
one_body bytes body other mac other_mac first second =
    let fronts : (covered_of body ++ mac) ++ [] ≡ (covered_of other ++ other_mac) ++ [] = ap (λ xs. xs ++ []) (sym first.layout ∙ second.layout) in
    let one : ◌≡◌ {A = Shown} (record { body = body; mac = mac }) (record { body = other; mac = other_mac }) =
    (blob_one.one (record { body = body; mac = mac }) (record { body = other; mac = other_mac }) [] []
    (record { body = first.body_fits; mac = first.mac_fits }) (record { body = second.body_fits; mac = second.mac_fits }) fronts).0 in
    (ap (λ (shown : Shown). shown.body) one, ap (λ (shown : Shown). shown.mac) one)
