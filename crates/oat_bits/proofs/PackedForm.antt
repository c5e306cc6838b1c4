-- The packed form of bits: its length, its bytes, and the bits that it holds.
use Rattle.std.proofs.Common.{◌≡◌, ℕ, zero, suc, ◌+◌, ◌-◌, ◌*◌, ◌/◌, ◌%◌, ◌<◌, ◌≤◌, ◌^◌, Bool, true, false, List, [], ◌∷◌, ◌++◌, length, map, drop, get_or, refl, ap, sym, ◌∙◌, arith, length-drop}
use Rattle.std.proofs.Common.{mod-eq_of_lt, pos_of_ne-zero, Some, bit_and}
use Rattle.std.specs.{Int.bit_at, Prelude.slice_get, Prelude.slice_index, Prelude.slice_set, Prelude.◌≢◌, Prelude.◌==◌, Prelude.if◌then◌else◌, List.All, List.range_with_len}
use Rattle.std.proofs.Math.Nat.{pow-suc}
use Rattle.std.proofs.lemmas.{List.nil_from_length, List.ext_get_or, List.get_or-drop, List.drop-drop, List.drop-append-le, List.length-append, List.length-set, List.get_or-set_same}
use Rattle.std.proofs.lemmas.{List.Elements.All-nil, List.Elements.All-cons, List.FromFn.length-map-range_with_len, List.FromFn.get_or-map-range_with_len, Nat.pow_pos, Nat.mod_low, Nat.shr_high}
use Rattle.std.proofs.lemmas.{Nat.Bits.bit_at-zero, Nat.Bits.shr_and_one}
use Rattle.oat_bits.specs.{Packed.digits, Packed.octets, Packed.packed, Bits.bit_in, Bits.bits_in}
use Rattle.oat_bits.proofs.FieldLemmas.{low_bits}

pub digits-below : (place : ℕ) (bits : List Bool) → digits place bits < 2 ^ place
unfolding digits
digits-below zero bits = omega arith
digits-below (suc place) [] = pow_pos (suc place)
digits-below (suc place) (true ∷ bits) = let rest = digits-below place bits in let twice : 2 ^ suc place ≡ 2 ^ place * 2 = pow-suc 2 place in omega arith
digits-below (suc place) (false ∷ bits) = let rest = digits-below place bits in let twice : 2 ^ suc place ≡ 2 ^ place * 2 = pow-suc 2 place in omega arith

pub digits-none : (place : ℕ) → digits place [] ≡ 0
unfolding digits
digits-none zero = refl
digits-none (suc place) = refl

pub length-octets : (count : ℕ) (bits : List Bool) → length (octets count bits) ≡ count
unfolding octets
length-octets zero bits = refl
length-octets (suc count) bits = ap suc (length-octets count (drop 8 bits))

pub octets-below : (count : ℕ) (bits : List Bool) → All (λ byte. byte < 256) (octets count bits)
unfolding octets
octets-below zero bits = All-nil (λ byte. byte < 256)
octets-below (suc count) bits = All-cons (λ byte. byte < 256) (digits 8 bits) (octets count (drop 8 bits)) (digits-below 8 bits) (octets-below count (drop 8 bits))

pub length-packed : (bits : List Bool) → length (packed bits) ≡ (length bits + 7) / 8
unfolding packed
length-packed bits = length-octets ((length bits + 7) / 8) bits

pub packed-below : (bits : List Bool) → All (λ byte. byte < 256) (packed bits)
unfolding packed
packed-below bits = octets-below ((length bits + 7) / 8) bits

-- the byte in a place is of the eight bits from that place on
pub get_or-octets : (count place : ℕ) (bits : List Bool) → place < count → get_or (octets count bits) place 0 ≡ digits 8 (drop (8 * place) bits)
unfolding octets
get_or-octets zero place bits below = absurd (omega arith)
get_or-octets (suc count) zero bits below = refl
get_or-octets (suc count) (suc place) bits below =
    let further : 8 + 8 * place ≡ 8 * suc place = omega arith in
    get_or-octets count place (drop 8 bits) (omega arith) ∙ ap (digits 8) (drop-drop (8 * place) 8 bits ∙ ap (λ n. drop n bits) further)

highest : (place high : ℕ) (bits : List Bool) → high < 2 → bit_at (high * 2 ^ place + digits place bits) (place - 0) == 1 ≡ high == 1
highest place high bits small =
    let same : place - 0 ≡ place = omega arith in
    let bit : high % 2 ≡ high = mod-eq_of_lt small in
    rw (same, shr_high high place (digits place bits) (digits-below place bits), bit) refl

further : (place i high : ℕ) (bits : List Bool) → i ≤ place → bit_at (high * 2 ^ suc place + digits (suc place) bits) (suc place - suc i) == 1 ≡ bit_at (digits (suc place) bits) (place - i) == 1
further place i high bits within =
    let same : suc place - suc i ≡ place - i = omega arith in
    let below = digits-below (suc place) bits in
    ap (λ bit. bit == 1) (rw same (low_bits (suc place) (high * 2 ^ suc place + digits (suc place) bits) (digits (suc place) bits) (place - i) (omega arith) (mod_low high (suc place) (digits (suc place) bits) below ∙ sym (mod-eq_of_lt below))))

-- the bit in a place, counted from the highest
bit_at-digits : (place i : ℕ) (bits : List Bool) → i ≤ place → bit_at (digits (suc place) bits) (place - i) == 1 ≡ get_or bits i false
unfolding digits
bit_at-digits place i [] within = ap (λ bit. bit == 1) (bit_at-zero (place - i))
bit_at-digits place zero (true ∷ bits) within = let once : 1 * 2 ^ place ≡ 2 ^ place = omega arith in rw once at (highest place 1 bits (omega arith))
bit_at-digits place zero (false ∷ bits) within = let none : 0 * 2 ^ place ≡ 0 = omega arith in rw none at (highest place 0 bits (omega arith))
bit_at-digits zero (suc i) (bit ∷ bits) within = absurd (omega arith)
bit_at-digits (suc place) (suc i) (true ∷ bits) within = let once : 1 * 2 ^ suc place ≡ 2 ^ suc place = omega arith in rw once at (further place i 1 bits (omega arith)) ∙ bit_at-digits place i bits (omega arith)
bit_at-digits (suc place) (suc i) (false ∷ bits) within = let none : 0 * 2 ^ suc place ≡ 0 = omega arith in rw none at (further place i 0 bits (omega arith)) ∙ bit_at-digits place i bits (omega arith)

pub length-bits_in : (count : ℕ) (bytes : List ℕ) → length (bits_in count bytes) ≡ count
unfolding bits_in
length-bits_in count bytes = length-map-range_with_len (bit_in bytes) 0 count

-- the bits that a packed form holds are those that it is of
pub bits_in-packed : (bits : List Bool) → bits_in (length bits) (packed bits) ≡ bits
unfolding bits_in packed
bits_in-packed bits = ext_get_or false (bits_in (length bits) (packed bits)) bits (length-bits_in (length bits) (packed bits)) each where
  each : (i : ℕ) → i < length (bits_in (length bits) (packed bits)) → get_or (bits_in (length bits) (packed bits)) i false ≡ get_or bits i false
  each i below =
      let counted : i < length bits = omega (arith, length-bits_in (length bits) (packed bits)) in
      let place : 8 * (i / 8) + i % 8 ≡ i = omega arith in
      let byte : get_or (octets ((length bits + 7) / 8) bits) (i / 8) 0 ≡ digits 8 (drop (8 * (i / 8)) bits) = get_or-octets ((length bits + 7) / 8) (i / 8) bits (omega arith) in
      get_or-map-range_with_len (bit_in (packed bits)) 0 (length bits) i i false counted (omega arith)
      ∙ (ap (λ n. bit_at n (7 - i % 8) == 1) byte
      ∙ (bit_at-digits 7 (i % 8) (drop (8 * (i / 8)) bits) (omega arith)
      ∙ (get_or-drop (8 * (i / 8)) bits (i % 8) false ∙ ap (λ n. get_or bits n false) place)))

-- a bit behind the last one adds the weight of its place
pub digits-push : (place : ℕ) (bits : List Bool) (bit : Bool) → length bits ≤ place → digits (suc place) (bits ++ bit ∷ []) ≡ digits (suc place) bits + (if bit then 2 ^ (place - length bits) else 0)
unfolding digits
digits-push place [] bit within =
    let same : place - 0 ≡ place = omega arith in
    rw (digits-none place, same) (omega arith)
digits-push zero (x ∷ bits) bit within = absurd (omega arith)
digits-push (suc place) (x ∷ bits) bit within =
    let weight : suc place - suc (length bits) ≡ place - length bits = omega arith in
    rw (weight, digits-push place bits bit (omega arith)) (omega arith)

-- and nothing to the digits before it
digits-past : (place : ℕ) (bits : List Bool) (bit : Bool) → place ≤ length bits → digits place (bits ++ bit ∷ []) ≡ digits place bits
unfolding digits
digits-past zero bits bit within = refl
digits-past (suc place) [] bit within = absurd (omega arith)
digits-past (suc place) (x ∷ bits) bit within = ap (λ n. (if x then 2 ^ place else 0) + n) (digits-past place bits bit (omega arith))

lone-digit : (bit : Bool) → digits 8 (bit ∷ []) ≡ (if bit then 128 else 0)
unfolding digits
lone-digit true = refl
lone-digit false = refl

octets-open : (count : ℕ) (bits : List Bool) (bit : Bool) → length bits ≡ 8 * count → octets (suc count) (bits ++ bit ∷ []) ≡ octets count bits ++ (if bit then 128 else 0) ∷ []
unfolding octets
octets-open zero bits bit long = rw (nil_from_length bits (omega arith)) (ap (λ n. n ∷ []) (lone-digit bit))
octets-open (suc count) bits bit long =
    let rest : length (drop 8 bits) ≡ 8 * count = omega (arith, length-drop 8 bits) in
    rw (digits-past 8 bits bit (omega arith), drop-append-le 8 bits (bit ∷ []) (omega arith)) (ap (λ bytes. digits 8 bits ∷ bytes) (octets-open count (drop 8 bits) bit rest))

octets-fill : (count place : ℕ) (bits : List Bool) (bit : Bool) → place < count → 8 * place ≤ length bits → length bits < 8 * suc place →
    octets count (bits ++ bit ∷ []) ≡ slice_set (octets count bits) place (get_or (octets count bits) place 0 + (if bit then 2 ^ (7 + 8 * place - length bits) else 0))
unfolding octets
octets-fill zero place bits bit below from to = absurd (omega arith)
octets-fill (suc count) zero bits bit below from to =
    let long : length (bits ++ bit ∷ []) ≡ length bits + 1 = length-append bits (bit ∷ []) in
    let drop_long = length-drop 8 (bits ++ bit ∷ []) in
    let drop_short = length-drop 8 bits in
    let none : drop 8 (bits ++ bit ∷ []) ≡ drop 8 bits = nil_from_length (drop 8 (bits ++ bit ∷ [])) (omega arith) ∙ sym (nil_from_length (drop 8 bits) (omega arith)) in
    rw (digits-push 7 bits bit (omega arith), none) refl
octets-fill (suc count) (suc place) bits bit below from to =
    let rest : length (drop 8 bits) ≡ length bits - 8 = length-drop 8 bits in
    let weight : 7 + 8 * place - length (drop 8 bits) ≡ 7 + 8 * suc place - length bits = omega arith in
    rw (digits-past 8 bits bit (omega arith), drop-append-le 8 bits (bit ∷ []) (omega arith)) (ap (λ bytes. digits 8 bits ∷ bytes) (rw weight at (octets-fill count place (drop 8 bits) bit (omega arith) (omega arith) (omega arith))))

-- a bit more than whole bytes opens a byte
pub packed-open : (bits : List Bool) (bit : Bool) → length bits % 8 ≡ 0 → packed (bits ++ bit ∷ []) ≡ packed bits ++ (if bit then 128 else 0) ∷ []
unfolding packed
packed-open bits bit whole =
    let long : length (bits ++ bit ∷ []) ≡ length bits + 1 = length-append bits (bit ∷ []) in
    let more : (length (bits ++ bit ∷ []) + 7) / 8 ≡ suc (length bits / 8) = omega arith in
    let now : (length bits + 7) / 8 ≡ length bits / 8 = omega arith in
    rw (more, now) (octets-open (length bits / 8) bits bit (omega arith))

-- any other bit stands in the last byte
pub packed-fill : (bits : List Bool) (bit : Bool) → length bits % 8 ≢ 0 →
    packed (bits ++ bit ∷ []) ≡ slice_set (packed bits) (length bits / 8) (slice_index (packed bits) (length bits / 8) + (if bit then 2 ^ (7 - length bits % 8) else 0))
unfolding packed
packed-fill bits bit inside =
    let long : length (bits ++ bit ∷ []) ≡ length bits + 1 = length-append bits (bit ∷ []) in
    let some : 0 < length bits % 8 = pos_of_ne-zero inside in
    let more : (length (bits ++ bit ∷ []) + 7) / 8 ≡ (length bits + 7) / 8 = omega arith in
    let weight : 7 + 8 * (length bits / 8) - length bits ≡ 7 - length bits % 8 = omega arith in
    rw (more, ← weight) (octets-fill ((length bits + 7) / 8) (length bits / 8) bits bit (omega arith) (omega arith) (omega arith))

pub packed-fill-fits : (bits : List Bool) (bit : Bool) → length bits % 8 ≢ 0 → slice_index (packed bits) (length bits / 8) + (if bit then 2 ^ (7 - length bits % 8) else 0) < 256
packed-fill-fits bits bit inside =
    let some : 0 < length bits % 8 = pos_of_ne-zero inside in
    let within : length bits / 8 < length (packed bits) = omega (arith, length-packed bits) in
    let byte = slice_index (packed bits) (length bits / 8) + (if bit then 2 ^ (7 - length bits % 8) else 0) in
    let long : length bits / 8 < length (packed (bits ++ bit ∷ [])) = rw (packed-fill bits bit inside, length-set (packed bits) (length bits / 8) byte) within in
    let stands : get_or (packed (bits ++ bit ∷ [])) (length bits / 8) 0 ≡ byte = rw (packed-fill bits bit inside) (get_or-set_same (packed bits) (length bits / 8) byte 0 within) in
    rw stands at (packed-below (bits ++ bit ∷ []) (length bits / 8) 0 long)

pub slice_get-map-range : {X : Type 0} (f : ℕ → X) (a n i j : ℕ) → i < n → a + i ≡ j → slice_get (map f (range_with_len a n)) i ≡ Some (f j)
slice_get-map-range f a zero i j below at = absurd (omega arith)
slice_get-map-range f a (suc n) zero j below at = let here : a ≡ j = omega arith in ap (λ k. Some (f k)) here
slice_get-map-range f a (suc n) (suc i) j below at = slice_get-map-range f (a + 1) n i j (omega arith) (omega arith)

-- as the code tests a bit
pub slice_get-bits_in : (count : ℕ) (bytes : List ℕ) (i : ℕ) → i < count → slice_get (bits_in count bytes) i ≡ Some (bit_and (slice_index bytes (i / 8) / 2 ^ (7 - i % 8)) 1 == 1)
unfolding bits_in
slice_get-bits_in count bytes i below =
    slice_get-map-range (bit_in bytes) 0 count i i below (omega arith)
    ∙ ap (λ bit. Some (bit == 1)) (sym (shr_and_one (slice_index bytes (i / 8)) (7 - i % 8)))
