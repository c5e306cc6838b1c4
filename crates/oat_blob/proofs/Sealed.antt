-- The bytes before the MAC, put one behind the other, and the MAC.
use Rattle.std.proofs.Common.{◌≡◌, ℕ, ◌<◌, ◌^◌, Bool, List, ◌++◌, length, ap, ◌∙◌, append_assoc}
use Rattle.std.specs.{Prelude.is_some, Int.w16, Int.to_be_bytes, List.All}
use Rattle.sha2.specs.Sha256.{sha256}
use Rattle.sha2.proofs.Facts256.{length-sha256}
use Rattle.oat_hmac.specs.Hmac.{hmac, key_block, masked}
use Rattle.oat_blob.specs.{declared.body.BodyHead.BodyHead, Body.Body, Layout.IsBlobOf, Layout.bits_part, Layout.covered_of, Layout.magic, Layout.serial_part, Layout.targets_part, Layout.version_part}
use Rattle.oat_blob.specs.{Layout.violation_part, Parts.IsHead, Parts.head_part}

regrouped : (a b c d e f g h i j : List ℕ) → ((a ++ (b ++ (c ++ (d ++ (e ++ (f ++ (g ++ h))))))) ++ i) ++ j ≡ a ++ (b ++ (c ++ (d ++ (e ++ (f ++ (g ++ (h ++ (i ++ j))))))))
regrouped a b c d e f g h i j = simp append_assoc

covered : (body : Body) → (head_part body.head ++ bits_part body.bits) ++ targets_part body.targets ≡ covered_of body
unfolding covered_of
covered body =
    let head = body.head in
    regrouped magic (version_part (is_some head.serial)) (to_be_bytes w16 head.op) (serial_part head.serial) head.nonce head.digest head.hash (violation_part head.violation) (bits_part body.bits) (targets_part body.targets)

length-hmac : (key text : List ℕ) → length (hmac key text) ≡ 32
unfolding hmac
length-hmac key text = length-sha256 (masked 0x5C (key_block key) ++ sha256 (masked 0x36 (key_block key) ++ text))

pub is_sealed : (head : BodyHead) (bits : List Bool) (targets key put code bytes : List ℕ) → IsHead head → length bits < 2 ^ 32 → length targets < 2 ^ 32 → All (λ target. target < 2 ^ 64) targets
    → put ≡ (head_part head ++ bits_part bits) ++ targets_part targets → code ≡ hmac key put → All (λ byte. byte < 256) code → bytes ≡ put ++ code
    → IsBlobOf (record { head = head; bits = bits; targets = targets }) key bytes
is_sealed head bits targets key put code bytes fits few_bits few_targets addresses made coded below whole =
    let body : Body = record { head = head; bits = bits; targets = targets } in
    let before : put ≡ covered_of body = made ∙ covered body in
    let right : code ≡ hmac key (covered_of body) = coded ∙ ap (hmac key) before in
    record {
      body_fits = record {
        op = fits.op;
        nonce = fits.nonce;
        digest = fits.digest;
        hash = fits.hash;
        violation = fits.violation;
        serial = fits.serial;
        bits = few_bits;
        targets = few_targets;
        addresses = addresses;
      };
      mac_fits = record { counted = length-hmac key (covered_of body); below = rw (← right) below };
      layout = whole ∙ (ap (λ xs. xs ++ code) before ∙ ap (λ xs. covered_of body ++ xs) right);
    }
