-- Answer frames: what bytes tell, and where they stop to be one.
use Rattle.std.proofs.Common.{◌≡◌, ◌≢◌, ℕ, zero, suc, ◌+◌, ◌-◌, ◌<◌, ◌≤◌, ◌^◌, List, [], ◌∷◌, ◌++◌, length, take, drop, get_or, slice_get, replicate, refl, ap, sym, subst, ◌∙◌, arith, length-append}
use Rattle.std.proofs.Common.{append_assoc, Fits, w8}
use Rattle.std.specs.{Int.w32, Int.to_be_bytes, Int.from_be_bytes, List.All}
use Rattle.std.proofs.Math.Seq.{take-append-add}
use Rattle.std.proofs.lemmas.{List.append-nil, List.length-replicate, List.length-take-le, List.length-drop, List.take-append-drop, List.take_all, List.drop_all, List.take_at, List.drop_at}
use Rattle.std.proofs.lemmas.{List.Elements.All-append, List.Elements.All-from_get_or, List.Elements.All-nil, List.Elements.All-replicate, List.Elements.All-take, List.Elements.All-drop}
use Rattle.std.proofs.lemmas.{Nat.be_bytes_4, Nat.from_be_bytes-to_be_bytes_4}
use Rattle.oat_verify.specs.{AreBytes}
use Rattle.oat_owner.specs.{Frames.Delivery, Frames.answer_front, Frames.answer_head, Frames.answer_frame, Frames.IsAnswerFrame, Frames.BeginsAnswer, Frames.IsFrameOffset, Fields.fields_part}
use Rattle.oat_owner.specs.{Fields.AreFields}

abbrev pub IsByte : ℕ → Type 0
IsByte byte = byte < 256

-- a slice of bytes holds bytes
pub bytes_fit : (bytes : List ℕ) → ((i : ℕ) → Fits w8 (get_or bytes i 0)) → All IsByte bytes
bytes_fit bytes fits = All-from_get_or IsByte bytes 0 (λ i below. let here = fits i in omega arith)

byte_at_most : (bytes : List ℕ) → All IsByte bytes → (i : ℕ) → get_or bytes i 0 < 256
byte_at_most [] all i = omega arith
byte_at_most (b ∷ bytes) all zero = all 0 0 (omega arith)
byte_at_most (b ∷ bytes) all (suc i) = byte_at_most bytes (λ k d within. all (suc k) d (omega arith)) i

behind_all : (xs ys : List ℕ) → All IsByte (xs ++ ys) → All IsByte ys
behind_all xs ys all = subst (All IsByte) (drop_at xs ys (length xs) refl) (All-drop IsByte (length xs) (xs ++ ys) all)

-- ---- items of a list

front_item : {X : Type 0} (xs ys : List X) (i : ℕ) → i < length xs → slice_get (xs ++ ys) i ≡ slice_get xs i
front_item [] ys i within = absurd (omega arith)
front_item (x ∷ xs) ys zero within = refl
front_item (x ∷ xs) ys (suc i) within = front_item xs ys i (omega arith)

taken_item : {X : Type 0} (n : ℕ) (xs : List X) (i : ℕ) → i < n → slice_get (take n xs) i ≡ slice_get xs i
taken_item zero xs i within = absurd (omega arith)
taken_item (suc n) [] i within = refl
taken_item (suc n) (x ∷ xs) zero within = refl
taken_item (suc n) (x ∷ xs) (suc i) within = taken_item n xs i (omega arith)

taken_twice : {X : Type 0} (n m : ℕ) (xs : List X) → n ≤ m → take n (take m xs) ≡ take n xs
taken_twice zero m xs within = refl
taken_twice (suc n) zero xs within = absurd (omega arith)
taken_twice (suc n) (suc m) [] within = refl
taken_twice (suc n) (suc m) (x ∷ xs) within = ap (λ ys. x ∷ ys) (taken_twice n m xs (omega arith))

-- ---- fields

number_of_four : (bytes : List ℕ) → length bytes ≡ 4 → All IsByte bytes → from_be_bytes w32 bytes < 2 ^ 32
number_of_four bytes long all =
    let a = byte_at_most bytes all 0 in
    let b = byte_at_most bytes all 1 in
    let c = byte_at_most bytes all 2 in
    let d = byte_at_most bytes all 3 in
    omega arith

-- bytes of the right numbers are fields
pub made_of_fields : (a b c rest : List ℕ) → length a ≡ 4 → length b ≡ 16 → length c ≡ 4 → All IsByte a → All IsByte b → All IsByte c
    → AreFields (a ++ (b ++ (c ++ rest))) (from_be_bytes w32 a) b (from_be_bytes w32 c) rest
made_of_fields a b c rest four sixteen last all_a all_b all_c = record {
  device_fits = number_of_four a four all_a;
  nonce_fits = record { counted = sixteen; below = all_b };
  stated_fits = number_of_four c last all_c;
  spelled =
      let first = be_bytes_4 a (from_be_bytes w32 a) four (byte_at_most a all_a) refl in
      let second = be_bytes_4 c (from_be_bytes w32 c) last (byte_at_most c all_c) refl in
      sym (append_assoc a (b ++ c) rest ∙ ap (λ (xs : List ℕ). a ++ xs) (append_assoc b c rest))
      ∙ ap (λ (xs : List ℕ). (xs ++ (b ++ c)) ++ rest) (sym first)
      ∙ ap (λ (xs : List ℕ). (to_be_bytes w32 (from_be_bytes w32 a) ++ (b ++ xs)) ++ rest) (sym second);
}

-- as many bytes begin with fields
pub begin_with_fields : (bytes : List ℕ) → 24 ≤ length bytes → All IsByte bytes
    → AreFields bytes (from_be_bytes w32 (take 4 bytes)) (take 16 (drop 4 bytes)) (from_be_bytes w32 (take 4 (drop 16 (drop 4 bytes)))) (drop 4 (drop 16 (drop 4 bytes)))
begin_with_fields bytes long all =
    let one = drop 4 bytes in
    let two = drop 16 one in
    let long_one = length-drop 4 bytes in
    let long_two = length-drop 16 one in
    let all_one = All-drop IsByte 4 bytes all in
    let all_two = All-drop IsByte 16 one all_one in
    let made = made_of_fields (take 4 bytes) (take 16 one) (take 4 two) (drop 4 two)
    (length-take-le 4 bytes (omega arith)) (length-take-le 16 one (omega arith)) (length-take-le 4 two (omega arith))
    (All-take IsByte 4 bytes all) (All-take IsByte 16 one all_one) (All-take IsByte 4 two all_two) in
    let whole : take 4 bytes ++ (take 16 one ++ (take 4 two ++ drop 4 two)) ≡ bytes =
    ap (λ (xs : List ℕ). take 4 bytes ++ (take 16 one ++ xs)) (take-append-drop 4 two)
    ∙ ap (λ (xs : List ℕ). take 4 bytes ++ xs) (take-append-drop 16 one) ∙ take-append-drop 4 bytes in
    rw whole at made

-- ---- frames

abbrev head : ℕ → List ℕ → ℕ → List ℕ
head device nonce stated = answer_front ++ fields_part device nonce stated

head_length : (device : ℕ) (nonce : List ℕ) (stated : ℕ) → length nonce ≡ 16 → length (head device nonce stated) ≡ 29
head_length device nonce stated sixteen = let sum = length-append nonce (to_be_bytes w32 stated) in omega (arith, sum)

pub delivery_same : (d e : Delivery) → d.device ≡ e.device → d.nonce ≡ e.nonce → d.blob ≡ e.blob → d ≡ e
delivery_same d e devices nonces blobs = λ i. record { device = devices i; nonce = nonces i; blob = blobs i }

pub begun : (front rest : List ℕ) (d : Delivery) → IsAnswerFrame (front ++ rest) d → BeginsAnswer front
begun front rest d is = (d, rest, is)

-- bytes whose front and fields are these bring what these fields say
module _ (device : ℕ) (nonce : List ℕ) (stated : ℕ) (fits : device < 2 ^ 32) (sixteen : AreBytes 16 nonce) (fit : stated < 2 ^ 32) where
  abbrev brings : List ℕ → Delivery
  brings blob = record { device = device; nonce = nonce; blob = blob }

  pub told : (rest : List ℕ) (d : Delivery) → IsAnswerFrame (head device nonce stated ++ rest) d
      → (d.device ≡ device) × (d.nonce ≡ nonce) × (length d.blob ≡ stated) × (d.blob ≡ rest)
  told rest d is =
      let one = head device nonce stated in
      let two = answer_head d in
      let long = head_length device nonce stated sixteen.counted in
      let long' : length two ≡ 29 = head_length d.device d.nonce (length d.blob) is.nonce.counted in
      let heads : one ≡ two = sym (take_at one rest 29 long) ∙ ap (take 29) is.layout ∙ take_at two d.blob 29 long' in
      let blobs : rest ≡ d.blob = sym (drop_at one rest 29 long) ∙ ap (drop 29) is.layout ∙ drop_at two d.blob 29 long' in
      let fields : fields_part device nonce stated ≡ fields_part d.device d.nonce (length d.blob) = ap (drop 5) heads in
      let devices : to_be_bytes w32 device ≡ to_be_bytes w32 d.device = ap (take 4) fields in
      let behind : nonce ++ to_be_bytes w32 stated ≡ d.nonce ++ to_be_bytes w32 (length d.blob) = ap (drop 4) fields in
      let nonces : nonce ≡ d.nonce = sym (take_at nonce _ 16 sixteen.counted) ∙ ap (take 16) behind ∙ take_at d.nonce _ 16 is.nonce.counted in
      let lengths : to_be_bytes w32 stated ≡ to_be_bytes w32 (length d.blob) = sym (drop_at nonce _ 16 sixteen.counted) ∙ ap (drop 16) behind ∙ drop_at d.nonce _ 16 is.nonce.counted in (
        sym (sym (from_be_bytes-to_be_bytes_4 device fits) ∙ ap (from_be_bytes w32) devices ∙ from_be_bytes-to_be_bytes_4 d.device is.device),
        sym nonces,
        sym (sym (from_be_bytes-to_be_bytes_4 stated fit) ∙ ap (from_be_bytes w32) lengths ∙ from_be_bytes-to_be_bytes_4 (length d.blob) is.few),
        sym blobs,
      )

  -- with as many bytes behind them as they state they are a frame
  pub framed : (blob : List ℕ) → length blob ≡ stated → All IsByte blob → IsAnswerFrame (head device nonce stated ++ blob) (brings blob)
  framed blob long all = record {
    device = fits;
    nonce = sixteen;
    blob = all;
    few = rw long fit;
    layout = ap (λ (n : ℕ). head device nonce n ++ blob) (sym long);
  }

  pub only_delivery : (rest : List ℕ) (d : Delivery) → IsAnswerFrame (head device nonce stated ++ rest) d → brings rest ≡ d
  only_delivery rest d is =
      let t = told rest d is in
      delivery_same (brings rest) d (sym t.0) (sym t.1) (sym t.3)

  -- fewer bytes than stated
  pub too_few : (rest : List ℕ) → length rest < stated → All IsByte rest → (offset : ℕ) → offset ≡ length (head device nonce stated ++ rest) → IsFrameOffset (head device nonce stated ++ rest) offset
  too_few rest short all offset at =
      let bytes = head device nonce stated ++ rest in
      let zeros : List ℕ = replicate (stated - length rest) 0 in
      let more = length-replicate {A = ℕ} (stated - length rest) 0 in
      let filled : IsAnswerFrame (head device nonce stated ++ (rest ++ zeros)) (brings (rest ++ zeros)) = framed (rest ++ zeros) (simp length-append (omega (arith, more))) (All-append IsByte rest zeros all (All-replicate IsByte (stated - length rest) 0 (omega arith))) in
      record {
        within = omega arith;
        begins = subst BeginsAnswer (sym (take_all offset bytes (omega (arith, at)))) (begun bytes zeros (brings (rest ++ zeros)) (subst (λ (xs : List ℕ). IsAnswerFrame xs (brings (rest ++ zeros))) (sym (append_assoc (head device nonce stated) rest zeros)) filled));
        longest = λ m above most other. omega arith;
        no_frame = λ d is. let t = told rest d is in let same = ap length t.3 in absurd (omega (arith, t.2, same));
      }

  -- more bytes than stated
  pub too_many : (rest : List ℕ) → stated < length rest → All IsByte rest → (offset : ℕ) → offset ≡ 29 + stated → IsFrameOffset (head device nonce stated ++ rest) offset
  too_many rest long all offset at =
      let front = head device nonce stated in
      let size = head_length device nonce stated sixteen.counted in
      let sum = length-append front rest in
      let cut : (n : ℕ) → take (29 + n) (front ++ rest) ≡ front ++ take n rest = λ n.
      subst (λ (m : ℕ). take (m + n) (front ++ rest) ≡ front ++ take n rest) size (take-append-add front rest n) in
      record {
        within = omega (arith, size, sum);
        begins = subst BeginsAnswer (sym (ap (λ (n : ℕ). take n (front ++ rest)) at ∙ cut stated)) (begun (front ++ take stated rest) [] (brings (take stated rest))
            (subst (λ (xs : List ℕ). IsAnswerFrame xs (brings (take stated rest))) (sym (append-nil (front ++ take stated rest))) (framed (take stated rest) (length-take-le stated rest (omega arith)) (All-take IsByte stated rest all))));
        longest = λ m above most other.
            let same : m ≡ 29 + (m - 29) = omega arith in
            let k = m - 29 in
            let is : IsAnswerFrame ((front ++ take k rest) ++ other.1) other.0 = subst (λ (xs : List ℕ). IsAnswerFrame (xs ++ other.1) other.0) (ap (λ (n : ℕ). take n (front ++ rest)) same ∙ cut k) other.2 in
            let t = told (take k rest ++ other.1) other.0 (rw (append_assoc front (take k rest) other.1) at is) in
            let lengths = ap length t.3 in
            let taken = length-take-le k rest (omega (arith, size, sum)) in
            let joined = length-append (take k rest) other.1 in
            absurd (omega (arith, t.2, lengths, taken, joined));
        no_frame = λ d is. let t = told rest d is in let same = ap length t.3 in absurd (omega (arith, t.2, same));
      }

pub fields_read : (bytes a r b s c t : List ℕ) (device stated : ℕ) → 4 ≤ length bytes → 16 ≤ length r → 4 ≤ length s → All IsByte bytes
    → a ≡ take 4 bytes → r ≡ drop 4 bytes → b ≡ take 16 r → s ≡ drop 16 r → c ≡ take 4 s → t ≡ drop 4 s
    → device ≡ from_be_bytes w32 a → stated ≡ from_be_bytes w32 c → AreFields bytes device b stated t
fields_read bytes a r b s c t device stated four sixteen last all is_a is_r is_b is_s is_c is_t is_device is_stated =
    let all_r : All IsByte r = rw is_r (All-drop IsByte 4 bytes all) in
    let all_s : All IsByte s = rw is_s (All-drop IsByte 16 r all_r) in
    let made = made_of_fields a b c t
    (ap length is_a ∙ length-take-le 4 bytes four) (ap length is_b ∙ length-take-le 16 r sixteen) (ap length is_c ∙ length-take-le 4 s last)
    (rw is_a (All-take IsByte 4 bytes all)) (rw is_b (All-take IsByte 16 r all_r)) (rw is_c (All-take IsByte 4 s all_s)) in
    let whole : a ++ (b ++ (c ++ t)) ≡ bytes =
    ap (λ (xs : List ℕ). a ++ (b ++ xs)) (ap (λ (xs : List ℕ). xs ++ t) is_c ∙ ap (λ (xs : List ℕ). take 4 s ++ xs) is_t ∙ take-append-drop 4 s)
    ∙ ap (λ (xs : List ℕ). a ++ xs) (ap (λ (xs : List ℕ). xs ++ s) is_b ∙ ap (λ (xs : List ℕ). take 16 r ++ xs) is_s ∙ take-append-drop 16 r)
    ∙ ap (λ (xs : List ℕ). xs ++ r) is_a ∙ ap (λ (xs : List ℕ). take 4 bytes ++ xs) is_r ∙ take-append-drop 4 bytes in
    subst (λ (m : ℕ). AreFields bytes m b stated t) (sym is_device) (subst (λ (m : ℕ). AreFields bytes (from_be_bytes w32 a) b m t) (sym is_stated)
    (subst (λ (xs : List ℕ). AreFields xs (from_be_bytes w32 a) b (from_be_bytes w32 c) t) whole made))

-- fewer bytes than the front and the fields have
pub wanting_fields : (bytes behind : List ℕ) → bytes ≡ answer_front ++ behind → length behind < 24 → All IsByte bytes → IsFrameOffset bytes (length bytes)
wanting_fields bytes behind parted short all =
    let all_behind = behind_all answer_front behind (subst (All IsByte) parted all) in
    let zeros : List ℕ = replicate (24 - length behind) 0 in
    let many = length-replicate {A = ℕ} (24 - length behind) 0 in
    let whole = behind ++ zeros in
    let sum = length-append behind zeros in
    let fields = begin_with_fields whole (omega (arith, many, sum)) (All-append IsByte behind zeros all_behind (All-replicate IsByte (24 - length behind) 0 (omega arith))) in
    let size : length bytes ≡ length (answer_front ++ behind) = ap length parted in
    let bytes_before = length-append answer_front behind in
    let blob : List ℕ = replicate (from_be_bytes w32 (take 4 (drop 16 (drop 4 whole)))) 0 in
    let none_left : drop 4 (drop 16 (drop 4 whole)) ≡ [] = drop_all 4 (drop 16 (drop 4 whole))
    (let one = length-drop 4 whole in let two = length-drop 16 (drop 4 whole) in omega (arith, many, sum, one, two)) in
    let device = from_be_bytes w32 (take 4 whole) in
    let nonce = take 16 (drop 4 whole) in
    let stated = from_be_bytes w32 (take 4 (drop 16 (drop 4 whole))) in
    let spelled : whole ≡ fields_part device nonce stated = fields.spelled ∙ ap (λ (xs : List ℕ). fields_part device nonce stated ++ xs) none_left ∙ append-nil (fields_part device nonce stated) in
    let filled : IsAnswerFrame ((answer_front ++ whole) ++ blob) (record { device = device; nonce = nonce; blob = blob }) =
    subst (λ (xs : List ℕ). IsAnswerFrame ((answer_front ++ xs) ++ blob) (record { device = device; nonce = nonce; blob = blob })) (sym spelled)
    (framed device nonce stated fields.device_fits fields.nonce_fits fields.stated_fits blob (length-replicate {A = ℕ} stated 0) (All-replicate IsByte stated 0 (omega arith))) in
    let shown : (answer_front ++ whole) ++ blob ≡ bytes ++ (zeros ++ blob) =
    append_assoc (answer_front ++ behind) zeros blob ∙ ap (λ (xs : List ℕ). xs ++ (zeros ++ blob)) (sym parted) in
    record {
      within = omega arith;
      begins = subst BeginsAnswer (sym (take_all (length bytes) bytes (omega arith)))
          (begun bytes (zeros ++ blob) (record { device = device; nonce = nonce; blob = blob }) (subst (λ (xs : List ℕ). IsAnswerFrame xs (record { device = device; nonce = nonce; blob = blob })) shown filled));
      longest = λ m above most other. omega arith;
      no_frame = λ d is.
          let long = head_length d.device d.nonce (length d.blob) is.nonce.counted in
          let joined = length-append (answer_head d) d.blob in
          let same = ap length is.layout in
          absurd (omega (arith, size, bytes_before, long, joined, same));
    }

-- the shortest frame
plain : Delivery
plain = record { device = 0; nonce = replicate 16 0; blob = [] }

plain_framed : IsAnswerFrame (answer_frame plain) plain
unfolding plain
plain_framed = record {
  device = omega arith;
  nonce = record { counted = refl; below = All-replicate IsByte 16 0 (omega arith) };
  blob = All-nil IsByte;
  few = omega arith;
  layout = refl;
}

plain_front : take 5 (answer_frame plain) ≡ answer_front
unfolding plain
plain_front = refl

-- a frame has the items of its front
front_of : (bytes : List ℕ) (d : Delivery) (i : ℕ) → i < 5 → IsAnswerFrame bytes d → slice_get bytes i ≡ slice_get answer_front i
front_of bytes d i few is = ap (λ (xs : List ℕ). slice_get xs i) is.layout ∙ front_item answer_front (fields_part d.device d.nonce (length d.blob) ++ d.blob) i (omega arith)

-- bytes that leave the front
pub leaves_front : (bytes : List ℕ) (offset : ℕ) → offset < 5 → take offset bytes ≡ take offset answer_front → offset ≤ length bytes
    → slice_get bytes offset ≢ slice_get answer_front offset → IsFrameOffset bytes offset
leaves_front bytes offset few same within stops =
    let whole = answer_frame plain in
    let fronts : take offset bytes ≡ take offset whole =
    same ∙ ap (take offset) (sym plain_front) ∙ taken_twice offset 5 whole (omega arith) in
    record {
      within = within;
      begins = begun (take offset bytes) (drop offset whole) plain
          (subst (λ (xs : List ℕ). IsAnswerFrame xs plain) (sym (ap (λ (xs : List ℕ). xs ++ drop offset whole) fronts ∙ take-append-drop offset whole)) plain_framed);
      longest = λ m above most other.
          stops (sym (front_item (take m bytes) other.1 offset (rw (length-take-le m bytes most) above) ∙ taken_item m bytes offset above)
          ∙ front_of (take m bytes ++ other.1) other.0 offset few other.2);
      no_frame = λ d is. stops (front_of bytes d offset few is);
    }

-- ---- bytes with the front of an answer

pub with_front : (bytes behind : List ℕ) (n : ℕ) → n ≤ 5 → 5 ≤ n → take n bytes ≡ take n answer_front → behind ≡ drop 5 bytes → bytes ≡ answer_front ++ behind
with_front bytes behind n most least same back =
    let five : n ≡ 5 = omega arith in
    let front : take 5 bytes ≡ answer_front = subst (λ (m : ℕ). take m bytes ≡ take m answer_front) five same in
    sym (take-append-drop 5 bytes) ∙ ap (λ (xs : List ℕ). xs ++ drop 5 bytes) front ∙ ap (λ (xs : List ℕ). answer_front ++ xs) (sym back)

module _ (bytes behind : List ℕ) (device : ℕ) (nonce : List ℕ) (stated : ℕ) (rest : List ℕ)
    (parted : bytes ≡ answer_front ++ behind) (all : All IsByte bytes) (are : AreFields behind device nonce stated rest) where
  whole : bytes ≡ head device nonce stated ++ rest
  whole = parted ∙ ap (λ (xs : List ℕ). answer_front ++ xs) are.spelled

  rest_all : All IsByte rest
  rest_all = behind_all (head device nonce stated) rest (subst (All IsByte) whole all)

  size : length bytes ≡ 29 + length rest
  size =
      let long = head_length device nonce stated are.nonce_fits.counted in
      let sum = length-append (head device nonce stated) rest in
      let same = ap length whole in
      omega (arith, long, sum, same)

  pub found_frame : length rest ≡ stated → IsAnswerFrame bytes (record { device = device; nonce = nonce; blob = rest })
  found_frame long =
      subst (λ (xs : List ℕ). IsAnswerFrame xs (record { device = device; nonce = nonce; blob = rest })) (sym whole)
      (framed device nonce stated are.device_fits are.nonce_fits are.stated_fits rest long rest_all)

  pub only_frame : (d : Delivery) → IsAnswerFrame bytes d → record { device = device; nonce = nonce; blob = rest } ≡ d
  only_frame d is = only_delivery device nonce stated are.device_fits are.nonce_fits are.stated_fits rest d (subst (λ (xs : List ℕ). IsAnswerFrame xs d) whole is)

  pub frame_too_short : length rest < stated → IsFrameOffset bytes (length bytes)
  frame_too_short short =
      subst (λ (xs : List ℕ). IsFrameOffset xs (length xs)) (sym whole)
      (too_few device nonce stated are.device_fits are.nonce_fits are.stated_fits rest short rest_all (length (head device nonce stated ++ rest)) refl)

  pub frame_too_long : stated < length rest → IsFrameOffset bytes (29 + stated)
  frame_too_long long =
      subst (λ (xs : List ℕ). IsFrameOffset xs (29 + stated)) (sym whole)
      (too_many device nonce stated are.device_fits are.nonce_fits are.stated_fits rest long rest_all (29 + stated) refl)
