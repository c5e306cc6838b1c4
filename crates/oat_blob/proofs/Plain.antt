-- The bytes of a blob without violation and records.
use Rattle.std.proofs.Common.{◌≡◌, ℕ, zero, suc, ◌+◌, List, [], ◌∷◌, ◌++◌, Some, None, length, replicate, refl, ap, sym, ◌∙◌, arith, append_assoc, length-append}
use Rattle.std.specs.{Prelude.Option, Prelude.is_some, Prelude.slice_get, Int.w16, Int.to_be_bytes}
use Rattle.oat_bits.specs.Packed.{octets, packed}
use Rattle.oat_blob.specs.{Body.Body, Body.IsBody, Body.IsPlain, Layout.IsBlob, Layout.bits_part, Layout.covered_of, Layout.magic, Layout.serial_part, Layout.targets_part, Layout.version_part}
use Rattle.oat_blob.specs.{Layout.violation_part, Laws.PlainLength, Laws.flag_place, Laws.shortest_length}

-- all before the flag
abbrev pub front_of : Body → List ℕ
front_of body =
    magic ++ (version_part (is_some body.head.serial) ++ (to_be_bytes w16 body.head.op ++ (serial_part body.head.serial ++ (body.head.nonce ++ (body.head.digest ++ body.head.hash)))))

no_records : (body : Body) → IsPlain body → violation_part body.head.violation ++ (bits_part body.bits ++ targets_part body.targets) ≡ replicate 9 0
unfolding packed octets
no_records body plain =
    ap (λ violation. violation_part violation ++ (bits_part body.bits ++ targets_part body.targets)) plain.violation
    ∙ (ap (λ bits. violation_part None ++ (bits_part bits ++ targets_part body.targets)) plain.bits
    ∙ ap (λ targets. violation_part None ++ (bits_part [] ++ targets_part targets)) plain.targets)

regrouped : (a b c d e f g h : List ℕ) → a ++ (b ++ (c ++ (d ++ (e ++ (f ++ (g ++ h)))))) ≡ (a ++ (b ++ (c ++ (d ++ (e ++ (f ++ g)))))) ++ h
regrouped a b c d e f g h = sym (simp append_assoc)

-- the front, the flag 0 and two counts of 0
pub plain-covered : (body : Body) → IsPlain body → covered_of body ≡ front_of body ++ replicate 9 0
unfolding covered_of
plain-covered body plain =
    ap (λ records. magic ++ (version_part (is_some body.head.serial) ++ (to_be_bytes w16 body.head.op ++ (serial_part body.head.serial ++ (body.head.nonce ++ (body.head.digest ++ (body.head.hash ++ records))))))) (no_records body plain)
    ∙ regrouped magic (version_part (is_some body.head.serial)) (to_be_bytes w16 body.head.op) (serial_part body.head.serial) body.head.nonce body.head.digest body.head.hash (replicate 9 0)

-- what the version and the serial number add
record Announced (serial : Option ℕ) : Type 0 where
  version : length (version_part (is_some serial)) ≡ 1
  flag : length (serial_part serial) + 87 ≡ flag_place (is_some serial)
  shortest : flag_place (is_some serial) + 41 ≡ shortest_length (is_some serial)

announced : (serial : Option ℕ) → Announced serial
announced None = record { version = refl; flag = refl; shortest = refl }
announced (Some serial) = record { version = refl; flag = refl; shortest = refl }

length-front_of : (body : Body) → IsBody body → length (front_of body) ≡ flag_place (is_some body.head.serial)
length-front_of body fits =
    let serial = announced body.head.serial in
    let fields : List ℕ = body.head.nonce ++ (body.head.digest ++ body.head.hash) in
    let last = length-append body.head.digest body.head.hash in
    let more = length-append body.head.nonce (body.head.digest ++ body.head.hash) in
    let behind_op = length-append (serial_part body.head.serial) fields in
    let behind_version = length-append (version_part (is_some body.head.serial)) (to_be_bytes w16 body.head.op ++ (serial_part body.head.serial ++ fields)) in
    omega (arith, fits.nonce.counted, fits.digest.counted, fits.hash.counted)

-- what a plain blob's bytes are
plain_bytes : (bytes mac : List ℕ) (body : Body) → IsPlain body → IsBlob bytes body mac → bytes ≡ front_of body ++ (replicate 9 0 ++ mac)
plain_bytes bytes mac body plain blob =
    blob.layout ∙ (ap (λ xs. xs ++ mac) (plain-covered body plain) ∙ append_assoc (front_of body) (replicate 9 0) mac)

slice_get-behind : (front rest : List ℕ) (here n : ℕ) → length front ≡ n → slice_get (front ++ here ∷ rest) n ≡ Some here
slice_get-behind [] rest here zero long = refl
slice_get-behind [] rest here (suc n) long = absurd (omega arith)
slice_get-behind (x ∷ front) rest here zero long = absurd (omega arith)
slice_get-behind (x ∷ front) rest here (suc n) long = slice_get-behind front rest here n (omega arith)

pub plain_length : PlainLength
plain_length bytes body mac plain blob =
    let whole = plain_bytes bytes mac body plain blob in
    let long = length-front_of body blob.body_fits in
    let sum = length-append (front_of body) (replicate 9 0 ++ mac) in
    let serial = announced body.head.serial in (
      ap length whole ∙ (sum ∙ omega (arith, long, blob.mac_fits.counted)),
      ap (λ xs. slice_get xs (flag_place (is_some body.head.serial))) whole ∙ slice_get-behind (front_of body) (replicate 8 0 ++ mac) 0 (flag_place (is_some body.head.serial)) long,
    )
