-- Parts of a blob at their places in bytes that begin it.
use Rattle.std.proofs.Common.{◌≡◌, ℕ, ◌+◌, ◌*◌, ◌≤◌, Bool, true, false, List, [], ◌∷◌, ◌++◌, Option, Some, None, length, take, drop, get_or, refl, ap, sym, ◌∙◌, arith, append_assoc, length-append}
use Rattle.std.proofs.Common.{length-drop}
use Rattle.std.specs.{Prelude.is_some, Int.w16, Int.w32, Int.w64, Int.to_be_bytes}
use Rattle.std.proofs.lemmas.List.{drop-append-le, drop_at, take-append-le, take_at}
use Rattle.oat_verify.specs.{packed, BodyHead, Violation, Body, IsBody, IsBlob, bits_part, covered_of, magic, serial_part, targets_part, version_part, violation_part, flag_place, addresses_part}
use Rattle.oat_verify.specs.{head_part, violation_fields}
use Rattle.oat_feed.specs.RecordBytes.{bits_place}

-- a part that stands wholly in the front is the part of the whole
pub part_at : (front rest before part behind : List ℕ) (at size : ℕ) → front ++ rest ≡ before ++ (part ++ behind) → length before ≡ at → length part ≡ size
    → at + size ≤ length front → take size (drop at front) ≡ part
part_at front rest before part behind at size same starts long within =
    let dropped : drop at front ++ rest ≡ part ++ behind = sym (drop-append-le at front rest (omega arith)) ∙ (ap (drop at) same ∙ drop_at before (part ++ behind) at starts) in
    let left = length-drop at front in
    sym (take-append-le size (drop at front) rest (omega arith)) ∙ (ap (take size) dropped ∙ take_at part behind size long)

-- all of a head before its flag
abbrev pub before_flag : BodyHead → List ℕ
before_flag head = magic ++ (version_part (is_some head.serial) ++ (to_be_bytes w16 head.op ++ (serial_part head.serial ++ (head.nonce ++ (head.digest ++ head.hash)))))

abbrev pub flag_of : Option Violation → ℕ
flag_of None = 0
flag_of (Some violation) = 1

abbrev pub behind_flag : Option Violation → List ℕ
behind_flag None = []
behind_flag (Some violation) = violation_fields violation

pub flagged : (violation : Option Violation) → violation_part violation ≡ flag_of violation ∷ behind_flag violation
flagged None = refl
flagged (Some violation) = refl

head_regrouped : (a b c d e f g v : List ℕ) → a ++ (b ++ (c ++ (d ++ (e ++ (f ++ (g ++ v)))))) ≡ (a ++ (b ++ (c ++ (d ++ (e ++ (f ++ g)))))) ++ v
head_regrouped a b c d e f g v = sym (simp append_assoc)

head_parted : (head : BodyHead) → head_part head ≡ before_flag head ++ violation_part head.violation
head_parted head =
    head_regrouped magic (version_part (is_some head.serial)) (to_be_bytes w16 head.op) (serial_part head.serial) head.nonce head.digest head.hash (violation_part head.violation)

-- what the version and the serial number add
length-serial : (serial : Option ℕ) → length (version_part (is_some serial)) + length (serial_part serial) + 86 ≡ flag_place (is_some serial)
length-serial None = refl
length-serial (Some serial) = refl

pub length-before_flag : (body : Body) → IsBody body → length (before_flag body.head) ≡ flag_place (is_some body.head.serial)
length-before_flag body fits =
    let serial = length-serial body.head.serial in
    let fields : List ℕ = body.head.nonce ++ (body.head.digest ++ body.head.hash) in
    let last = length-append body.head.digest body.head.hash in
    let more = length-append body.head.nonce (body.head.digest ++ body.head.hash) in
    let behind_op = length-append (serial_part body.head.serial) fields in
    let behind_version = length-append (version_part (is_some body.head.serial)) (to_be_bytes w16 body.head.op ++ (serial_part body.head.serial ++ fields)) in
    omega (arith, fits.nonce.counted, fits.digest.counted, fits.hash.counted)

pub length-head_part : (body : Body) → IsBody body → length (head_part body.head) ≡ flag_place (is_some body.head.serial) + length (violation_part body.head.violation)
length-head_part body fits =
    let sum = length-append (before_flag body.head) (violation_part body.head.violation) in
    let before = length-before_flag body fits in
    ap length (head_parted body.head) ∙ omega (arith, sum, before)

-- the front of a blob, its records and its MAC
covered_regrouped : (a b c d e f g v r s m : List ℕ) → (a ++ (b ++ (c ++ (d ++ (e ++ (f ++ (g ++ (v ++ (r ++ s))))))))) ++ m ≡ (a ++ (b ++ (c ++ (d ++ (e ++ (f ++ (g ++ v))))))) ++ (r ++ (s ++ m))
covered_regrouped a b c d e f g v r s m = simp append_assoc

pub parted : (bytes mac : List ℕ) (body : Body) → IsBlob bytes body mac → bytes ≡ head_part body.head ++ (bits_part body.bits ++ (targets_part body.targets ++ mac))
unfolding covered_of
parted bytes mac body blob =
    let head = body.head in
    blob.layout ∙ covered_regrouped magic (version_part (is_some head.serial)) (to_be_bytes w16 head.op) (serial_part head.serial) head.nonce head.digest head.hash (violation_part head.violation)
    (bits_part body.bits) (targets_part body.targets) mac

-- the version
pub at_version : (bytes mac : List ℕ) (body : Body) → IsBlob bytes body mac → (behind : List ℕ) × (bytes ≡ magic ++ (version_part (is_some body.head.serial) ++ behind))
unfolding covered_of
at_version bytes mac body blob =
    let head = body.head in
    let more : List ℕ = to_be_bytes w16 head.op ++ (serial_part head.serial ++ (head.nonce ++ (head.digest ++ (head.hash ++ (violation_part head.violation ++ (bits_part body.bits ++ targets_part body.targets)))))) in
    (more ++ mac, blob.layout ∙ ap (λ xs. magic ++ xs) (append_assoc (version_part (is_some head.serial)) more mac))

-- the flag
pub at_flag : (bytes mac : List ℕ) (body : Body) → IsBlob bytes body mac → (behind : List ℕ) × (bytes ≡ before_flag body.head ++ ((flag_of body.head.violation ∷ []) ++ behind))
at_flag bytes mac body blob =
    let behind : List ℕ = behind_flag body.head.violation ++ (bits_part body.bits ++ (targets_part body.targets ++ mac)) in (
      behind,
      parted bytes mac body blob
          ∙ (ap (λ xs. xs ++ (bits_part body.bits ++ (targets_part body.targets ++ mac))) (head_parted body.head ∙ ap (λ xs. before_flag body.head ++ xs) (flagged body.head.violation))
          ∙ append_assoc (before_flag body.head) (flag_of body.head.violation ∷ behind_flag body.head.violation) (bits_part body.bits ++ (targets_part body.targets ++ mac))),
    )

pub length-version_part : (numbered : Bool) → length (version_part numbered) ≡ 1
length-version_part false = refl
length-version_part true = refl

pub version_in : (front rest mac : List ℕ) (body : Body) → IsBlob (front ++ rest) body mac → 5 ≤ length front → take 1 (drop 4 front) ≡ version_part (is_some body.head.serial)
version_in front rest mac body blob within =
    let at = at_version (front ++ rest) mac body blob in
    part_at front rest magic (version_part (is_some body.head.serial)) at.0 4 1 at.1 refl (length-version_part (is_some body.head.serial)) within

pub flag_in : (front rest mac : List ℕ) (body : Body) (at : ℕ) → IsBlob (front ++ rest) body mac → at ≡ flag_place (is_some body.head.serial) → at + 1 ≤ length front
    → take 1 (drop at front) ≡ flag_of body.head.violation ∷ []
flag_in front rest mac body at blob place within =
    let parts = at_flag (front ++ rest) mac body blob in
    part_at front rest (before_flag body.head) (flag_of body.head.violation ∷ []) parts.0 at 1 parts.1 (length-before_flag body blob.body_fits ∙ sym place) refl within

-- the count of the bits, and the bits
pub at_bit_count : (bytes mac : List ℕ) (body : Body) → IsBlob bytes body mac
    → bytes ≡ head_part body.head ++ (to_be_bytes w32 (length body.bits) ++ (packed body.bits ++ (targets_part body.targets ++ mac)))
at_bit_count bytes mac body blob =
    parted bytes mac body blob ∙ ap (λ xs. head_part body.head ++ xs) (append_assoc (to_be_bytes w32 (length body.bits)) (packed body.bits) (targets_part body.targets ++ mac))

pub at_bits : (bytes mac : List ℕ) (body : Body) → IsBlob bytes body mac
    → bytes ≡ (head_part body.head ++ to_be_bytes w32 (length body.bits)) ++ (packed body.bits ++ (targets_part body.targets ++ mac))
at_bits bytes mac body blob =
    at_bit_count bytes mac body blob ∙ sym (append_assoc (head_part body.head) (to_be_bytes w32 (length body.bits)) (packed body.bits ++ (targets_part body.targets ++ mac)))

-- the count of the targets, and the targets
pub at_target_count : (bytes mac : List ℕ) (body : Body) → IsBlob bytes body mac
    → bytes ≡ (head_part body.head ++ bits_part body.bits) ++ (to_be_bytes w32 (length body.targets) ++ (addresses_part body.targets ++ mac))
at_target_count bytes mac body blob =
    parted bytes mac body blob ∙ (sym (append_assoc (head_part body.head) (bits_part body.bits) (targets_part body.targets ++ mac))
    ∙ ap (λ xs. (head_part body.head ++ bits_part body.bits) ++ xs) (append_assoc (to_be_bytes w32 (length body.targets)) (addresses_part body.targets) mac))

pub at_targets : (bytes mac : List ℕ) (body : Body) → IsBlob bytes body mac
    → bytes ≡ ((head_part body.head ++ bits_part body.bits) ++ to_be_bytes w32 (length body.targets)) ++ (addresses_part body.targets ++ mac)
at_targets bytes mac body blob =
    at_target_count bytes mac body blob
    ∙ sym (append_assoc (head_part body.head ++ bits_part body.bits) (to_be_bytes w32 (length body.targets)) (addresses_part body.targets ++ mac))

pub length-addresses_part : (targets : List ℕ) → length (addresses_part targets) ≡ length targets * 8
length-addresses_part [] = refl
length-addresses_part (target ∷ targets) =
    let sum = length-append (to_be_bytes w64 target) (addresses_part targets) in
    let rest = length-addresses_part targets in
    omega arith

pub bits_place_is : (body : Body) → bits_place body ≡ length (head_part body.head) + 4
unfolding bits_place
bits_place_is body = refl

pub flag_place_high : (numbered : Bool) → 87 ≤ flag_place numbered
flag_place_high false = omega arith
flag_place_high true = omega arith

flagged_above : (violation : Option Violation) → 1 ≤ length (violation_part violation)
flagged_above None = omega arith
flagged_above (Some violation) = omega arith

-- where the bits begin, from the flag on
pub record HasFlagAt (body : Body) (place : ℕ) : Type 0 where
  pub high : 87 ≤ place
  pub size : place + length (violation_part body.head.violation) + 4 ≡ bits_place body
  pub above : place + 5 ≤ bits_place body

pub has_flag : (body : Body) → IsBody body → HasFlagAt body (flag_place (is_some body.head.serial))
has_flag body fits =
    let place = bits_place_is body in
    let head = length-head_part body fits in
    let one = flagged_above body.head.violation in
    record { high = flag_place_high (is_some body.head.serial); size = omega (arith, place, head); above = omega (arith, place, head, one) }

-- a field of one byte is that byte
pub one_byte : (field whole : List ℕ) → field ≡ whole → length whole ≡ 1 → get_or field 0 0 ∷ [] ≡ whole
one_byte field [] same long = absurd (omega arith)
one_byte field (x ∷ []) same long = ap (λ xs. get_or xs 0 0 ∷ []) same
one_byte field (x ∷ y ∷ ys) same long = absurd (omega arith)
