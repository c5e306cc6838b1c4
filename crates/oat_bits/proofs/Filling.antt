-- The bits that bytes hold have these bytes as their packed form where the filling bits are zeros.
use Rattle.std.proofs.Common.{◌≡◌, ℕ, zero, suc, ◌+◌, ◌-◌, ◌*◌, ◌/◌, ◌%◌, ◌<◌, ◌≤◌, ◌^◌, Bool, true, false, List, [], ◌∷◌, length, map, drop, get_or, refl, ap, sym, ◌∙◌, arith, length-drop}
use Rattle.std.proofs.Common.{mod-eq_of_lt, inl, inr}
use Rattle.std.specs.{Int.bit_at, Prelude.slice_index, Prelude.◌==◌, Prelude.if◌then◌else◌, List.All, List.range_with_len}
use Rattle.std.proofs.Math.Nat.{zero-mod, mod-add-mod, mul-mod_left}
use Rattle.std.proofs.lemmas.{List.ext_get_or, List.drop-map, List.get_or_past, Nat.pow-add, Nat.mod-pow-add, Bool.cases_lt, Nat.Bits.bit_at-lt}
use Rattle.oat_bits.specs.{Packed.digits, Packed.octets, Packed.packed, Bits.bit_in, Bits.bits_in}
use Rattle.oat_bits.proofs.PackedForm.{get_or-octets, length-octets, length-packed, length-bits_in}

mod-one : (n : ℕ) → n % 1 ≡ 0
mod-one n = omega arith

highest-bit : (n place : ℕ) → n % 2 ^ suc place ≡ bit_at n place * 2 ^ place + n % 2 ^ place
highest-bit n place = let further : suc place ≡ 1 + place = omega arith in rw further (mod-pow-add n 1 place)

chosen : (bit weight : ℕ) → bit < 2 → (if bit == 1 then weight else 0) ≡ bit * weight
chosen zero weight below = omega arith
chosen (suc zero) weight below = omega arith
chosen (suc (suc bit)) weight below = absurd (omega arith)

-- the digits of bits that stand side by side in a byte
digits-bits : (place from count at : ℕ) (bytes : List ℕ) → place ≤ 8 → from ≡ 8 * at + (8 - place) → slice_index bytes at % 2 ^ (place - count) ≡ 0 →
    digits place (map (bit_in bytes) (range_with_len from count)) ≡ slice_index bytes at % 2 ^ place
unfolding digits
digits-bits zero from count at bytes within stands filled = sym (mod-one (slice_index bytes at))
digits-bits (suc place) from zero at bytes within stands filled = let all : suc place - 0 ≡ suc place = omega arith in sym (rw all at filled)
digits-bits (suc place) from (suc count) at bytes within stands filled =
    let here : from / 8 ≡ at = omega arith in
    let weight : 7 - from % 8 ≡ place = omega arith in
    let less : suc place - suc count ≡ place - count = omega arith in
    let rest = digits-bits place (from + 1) count at bytes (omega arith) (omega arith) (rw less at filled) in
    let split : slice_index bytes at % 2 ^ suc place ≡ bit_at (slice_index bytes at) place * 2 ^ place + slice_index bytes at % 2 ^ place = highest-bit (slice_index bytes at) place in
    rw (rest, split, here, weight) (ap (λ n. n + slice_index bytes at % 2 ^ place) (chosen (bit_at (slice_index bytes at) place) (2 ^ place) (bit_at-lt (slice_index bytes at) place)))

drop-range : (n from count : ℕ) → n ≤ count → drop n (range_with_len from count) ≡ range_with_len (from + n) (count - n)
drop-range zero from count within = let same : count - 0 ≡ count = omega arith in rw same (ap (λ n. range_with_len n count) (omega arith))
drop-range (suc n) from zero within = absurd (omega arith)
drop-range (suc n) from (suc count) within =
    let less : suc count - suc n ≡ count - n = omega arith in
    let further : from + 1 + n ≡ from + suc n = omega arith in
    rw (less, ← further) (drop-range n (from + 1) count (omega arith))

-- the weight of a place is a multiple of that of each place below it
weight-mod : (place less : ℕ) → 2 ^ place % 2 ^ (place - less) ≡ 0
weight-mod place less =
    let split : 2 ^ place ≡ 2 ^ (place - (place - less)) * 2 ^ (place - less) = ap (λ n. 2 ^ n) (omega arith) ∙ pow-add 2 (place - (place - less)) (place - less) in
    rw split (mul-mod_left (2 ^ (place - (place - less))) (2 ^ (place - less)))

weight-filling : (place less : ℕ) (bit : Bool) → (if bit then 2 ^ place else 0) % 2 ^ (place - less) ≡ 0
weight-filling place less true = weight-mod place less
weight-filling place less false = zero-mod (2 ^ (place - less))

sum-mod : (a b n : ℕ) → a % n ≡ 0 → b % n ≡ 0 → (a + b) % n ≡ 0
sum-mod a b n first second = let none : 0 + b ≡ b = omega arith in sym (mod-add-mod a n b) ∙ (rw (first, none) second)

-- the digits are a multiple of the weight of the last bit
digits-filling : (place : ℕ) (bits : List Bool) → digits place bits % 2 ^ (place - length bits) ≡ 0
unfolding digits
digits-filling zero bits = zero-mod (2 ^ (0 - length bits))
digits-filling (suc place) [] = zero-mod (2 ^ (suc place - 0))
digits-filling (suc place) (bit ∷ bits) =
    let less : suc place - suc (length bits) ≡ place - length bits = omega arith in
    rw less (sum-mod (if bit then 2 ^ place else 0) (digits place bits) (2 ^ (place - length bits)) (weight-filling place (length bits) bit) (digits-filling place bits))

pub packed-filled : (bits : List Bool) → slice_index (packed bits) (length bits / 8) % 2 ^ (8 - length bits % 8) ≡ 0
unfolding packed
packed-filled bits = last (length bits % 8) refl where
  last : (rest : ℕ) → length bits % 8 ≡ rest → slice_index (octets ((length bits + 7) / 8) bits) (length bits / 8) % 2 ^ (8 - length bits % 8) ≡ 0
  last zero same =
      let past : slice_index (octets ((length bits + 7) / 8) bits) (length bits / 8) ≡ 0 = get_or_past (octets ((length bits + 7) / 8) bits) (length bits / 8) 0 (omega (arith, length-octets ((length bits + 7) / 8) bits)) in
      rw past (zero-mod (2 ^ (8 - length bits % 8)))
  last (suc rest) same =
      let behind : length (drop (8 * (length bits / 8)) bits) ≡ length bits % 8 = omega (arith, length-drop (8 * (length bits / 8)) bits) in
      rw (get_or-octets ((length bits + 7) / 8) (length bits / 8) bits (omega arith)) (rw behind at (digits-filling 8 (drop (8 * (length bits / 8)) bits)))

pub packed-bits_in : (count : ℕ) (bytes : List ℕ) → length bytes ≡ (count + 7) / 8 → All (λ byte. byte < 256) bytes → slice_index bytes (count / 8) % 2 ^ (8 - count % 8) ≡ 0 → packed (bits_in count bytes) ≡ bytes
unfolding packed bits_in
packed-bits_in count bytes long below filled =
    ext_get_or 0 (packed (bits_in count bytes)) bytes (length-packed (bits_in count bytes) ∙ (rw (length-bits_in count bytes) (sym long))) each where
      filled-at : (place : ℕ) → place < (count + 7) / 8 → slice_index bytes place % 2 ^ (8 - (count - 8 * place)) ≡ 0
      filled-at place within = elim (cases_lt (count - 8 * place) 8) [
        | inl short ↦
            let here : count / 8 ≡ place = omega arith in
            let rest : count % 8 ≡ count - 8 * place = omega arith in
            rw (here, rest) at filled
        | inr long ↦ let none : 8 - (count - 8 * place) ≡ 0 = omega arith in rw none (mod-one (slice_index bytes place))
      ]

      each : (place : ℕ) → place < length (packed (bits_in count bytes)) → get_or (packed (bits_in count bytes)) place 0 ≡ get_or bytes place 0
      each place within =
          let inside : place < (count + 7) / 8 = rw (length-packed (bits_in count bytes), length-bits_in count bytes) at within in
          let shown : drop (8 * place) (bits_in count bytes) ≡ map (bit_in bytes) (range_with_len (8 * place) (count - 8 * place)) =
          drop-map (bit_in bytes) (8 * place) (range_with_len 0 count) ∙ ap (map (bit_in bytes)) (drop-range (8 * place) 0 count (omega arith) ∙ ap (λ from. range_with_len from (count - 8 * place)) (omega arith)) in
          let byte : slice_index bytes place < 256 = below place 0 (omega arith) in
          get_or-octets ((length (bits_in count bytes) + 7) / 8) place (bits_in count bytes) (rw (length-bits_in count bytes) inside)
          ∙ (ap (digits 8) shown
          ∙ (digits-bits 8 (8 * place) (count - 8 * place) place bytes (omega arith) (omega arith) (filled-at place inside)
          ∙ mod-eq_of_lt byte))
