-- Digits that are decoded a piece at a time.
use Rattle.std.proofs.Common.{◌≡◌, ℕ, ◌+◌, ◌-◌, ◌*◌, ◌/◌, ◌%◌, ◌<◌, ◌≤◌, List, [], ◌∷◌, ◌++◌, length, length-drop, take, drop, subst, Option, Some, None, Result, Ok, Err, refl, sym, ap, ◌∙◌, arith}
use Rattle.std.specs.{Prelude.min, Prelude.IfOk, Prelude.MatchResult, declared.alloc.AllocError.AllocError}
use Rattle.std.proofs.lemmas.List.{drop-drop, length-take-le, nil_from_length, take-append-drop, take_at}
use Rattle.hex.specs.{declared.error.FromHexError.FromHexError, Hex.◌>>=◌, Hex.decode_of, Hex.decode_pairs, Hex.decode_sized, Hex.digit_or_error, Hex.hex_digit_value, Hex.pair_value, Hex.value_at}
use Rattle.hex.proofs.HexLemmas.{decode_of-even, decode_of-ok, decode_pairs-ok, decode_sized-twice}
use Rattle.oat_feed.specs.{declared.verdict.Settled.Settled, Verdict.AreRecordsOf, Verdict.IsFeedVerdict, declared.feed.Feed.Feed, Standing.HasBeenFed}
use Rattle.oat_inputs.specs.BlobText.{HasDigits, IsBlobText}
use Rattle.oat_shown.specs.{CarriesSerial, Subject}
use Rattle.oat_room_verify.specs.Settles.{SettlesBlob}

bind_ok : {A B : Type 0} (r : Result A FromHexError) (f : A → Result B FromHexError) (b : B) → (r >>= f) ≡ Ok b → (a : A) × (r ≡ Ok a) × (f a ≡ Ok b)
bind_ok (Ok a) f b same = (a, refl, same)
bind_ok (Err e) f b same = cc

-- the place of a digit is of no matter where it is one
digit_moved : (c i j : ℕ) (v : Option ℕ) (x : ℕ) → digit_or_error c i v ≡ Ok x → digit_or_error c j v ≡ Ok x
digit_moved c i j (Some v) x same = same
digit_moved c i j None x same = cc

pair_moved : (high low i j x : ℕ) → pair_value high low i ≡ Ok x → pair_value high low j ≡ Ok x
pair_moved high low i j x same =
    let first = bind_ok (value_at high i) _ x same in
    let second = bind_ok (value_at low (i + 1)) _ x first.2 in
    rw (digit_moved high i j (hex_digit_value high) first.0 first.1)
    (rw (digit_moved low (i + 1) (j + 1) (hex_digit_value low) second.0 second.1) second.2)

pairs_moved : (digits : List ℕ) (i j : ℕ) (bytes : List ℕ) → decode_pairs i digits ≡ Ok bytes → decode_pairs j digits ≡ Ok bytes
unfolding decode_pairs
pairs_moved [] i j bytes same = same
pairs_moved (a ∷ []) i j bytes same = cc
pairs_moved (a ∷ b ∷ digits) i j bytes same =
    let pair = bind_ok (pair_value a b i) _ bytes same in
    let rest = bind_ok (decode_pairs (i + 2) digits) _ bytes pair.2 in
    rw (pair_moved a b i j pair.0 pair.1) (rw (pairs_moved digits (i + 2) (j + 2) rest.0 rest.1) rest.2)

-- the bytes of digits that are cut behind an even number of them
pub record AreCut (digits behind bytes : List ℕ) : Type 0 where
  pub first : List ℕ
  pub rest : List ℕ
  pub of_first : decode_pairs 0 digits ≡ Ok first
  pub of_rest : decode_pairs 0 behind ≡ Ok rest
  pub joined : bytes ≡ first ++ rest

same_bytes : (x y : List ℕ) → ◌≡◌ {A = Result (List ℕ) FromHexError} (Ok x) (Ok y) → x ≡ y
same_bytes x y same = cc

cut_pairs : (digits behind : List ℕ) (i : ℕ) (bytes : List ℕ) → length digits % 2 ≡ 0 → decode_pairs i (digits ++ behind) ≡ Ok bytes → AreCut digits behind bytes
unfolding decode_pairs
cut_pairs [] behind i bytes even same = record { first = []; rest = bytes; of_first = refl; of_rest = pairs_moved behind i 0 bytes same; joined = refl }
cut_pairs (a ∷ []) behind i bytes even same = absurd (omega arith)
cut_pairs (a ∷ b ∷ digits) behind i bytes even same =
    let pair = bind_ok (pair_value a b i) _ bytes same in
    let more = bind_ok (decode_pairs (i + 2) (digits ++ behind)) _ bytes pair.2 in
    let cut = cut_pairs digits behind (i + 2) more.0 (omega (arith, even)) more.1 in
    let is : bytes ≡ pair.0 ∷ more.0 = same_bytes bytes (pair.0 ∷ more.0) (sym more.2) in
    record {
      first = pair.0 ∷ cut.first;
      rest = cut.rest;
      of_first = rw (pair_moved a b i 0 pair.0 pair.1) (rw (pairs_moved digits 0 2 cut.first cut.of_first) refl);
      of_rest = cut.of_rest;
      joined = is ∙ ap (λ xs. pair.0 ∷ xs) cut.joined;
    }

pub cut : (digits behind bytes : List ℕ) → length digits % 2 ≡ 0 → decode_of (digits ++ behind) ≡ Ok bytes → AreCut digits behind bytes
cut digits behind bytes even same =
    let whole = decode_of-ok (digits ++ behind) bytes same in
    cut_pairs digits behind 0 bytes even (sym (decode_of-even (digits ++ behind) whole.0) ∙ same)

-- ---- the digits of a blob's text

pub blob_text : (text digits bytes : List ℕ) → HasDigits text digits → decode_of digits ≡ Ok bytes → IsBlobText text bytes
blob_text text digits bytes has decoded = subst (λ (xs : List ℕ). decode_of xs ≡ Ok bytes) has.are decoded

-- ---- a feed that takes their bytes

-- the bytes of the digits before a place came to the feed, and those behind it are digits too
pub record FeedsSoFar (old new : Feed) (digits : List ℕ) (done : ℕ) : Type 0 where
  pub within : done ≤ length digits
  pub rest : List ℕ
  pub left : decode_of (drop done digits) ≡ Ok rest
  pub fed : (s : Subject) (bytes : List ℕ) → HasBeenFed old s [] → decode_of digits ≡ Ok bytes → (front : List ℕ) × HasBeenFed new s front × (bytes ≡ front ++ rest)

pub decoded_rest : (digits rest bytes : List ℕ) → decode_of digits ≡ Ok rest → decode_of digits ≡ Ok bytes → rest ≡ bytes
decoded_rest digits rest bytes one two = same_bytes rest bytes (sym one ∙ two)

pub nothing_fed : (feed : Feed) (digits rest : List ℕ) → decode_of digits ≡ Ok rest → FeedsSoFar feed feed digits 0
nothing_fed feed digits rest is = record {
  within = omega arith;
  rest = rest;
  left = is;
  fed = λ s bytes fed decoded. ([], fed, decoded_rest digits bytes rest decoded is);
}

-- the next digits, cut at a place
pub chunk : (digits : List ℕ) (done end size : ℕ) (rest : List ℕ) → done < length digits → end ≡ done + min (length digits - done) 8192 → size ≡ (end - done) / 2 → decode_of (drop done digits) ≡ Ok rest
    → AreCut (take (end - done) (drop done digits)) (drop end digits) rest × (length (take (end - done) (drop done digits)) ≡ 2 * size) × (length (drop end digits) % 2 ≡ 0)
chunk digits done end size rest more ends half is =
    let whole = decode_of-ok (drop done digits) rest is in
    let long = length-drop done digits in
    let behind = length-drop end digits in
    let taken : length (take (end - done) (drop done digits)) ≡ end - done = length-take-le (end - done) (drop done digits) (omega (arith, ends, long)) in
    let even : (end - done) % 2 ≡ 0 = omega (arith, ends, long, whole.0, more) in
    let parted : take (end - done) (drop done digits) ++ drop end digits ≡ drop done digits =
    ap (λ xs. take (end - done) (drop done digits) ++ xs) (ap (λ n. drop n digits) (omega (arith, ends, more)) ∙ sym (drop-drop (end - done) done digits))
    ∙ take-append-drop (end - done) (drop done digits) in (
      cut (take (end - done) (drop done digits)) (drop end digits) rest (omega (arith, taken, even)) (ap decode_of parted ∙ is),
      omega (arith, taken, half, even),
      omega (arith, behind, long, whole.0, even, ends, more),
    )

pub chunk_decoded : (digits first : List ℕ) (size : ℕ) → decode_pairs 0 digits ≡ Ok first → length digits ≡ 2 * size → decode_sized digits size ≡ Ok first
chunk_decoded digits first size is long = decode_sized-twice digits size long ∙ (decode_of-even digits (omega (arith, long)) ∙ is)

pub settles_all : (s : Subject) (bytes : List ℕ) (result : Result Settled AllocError) → IfOk result (λ settled. IsFeedVerdict s bytes settled.verdict)
    → IfOk result (λ settled. AreRecordsOf bytes settled.kept) → IfOk result (λ settled. CarriesSerial bytes settled.serial) → IfOk result (SettlesBlob s bytes)
settles_all s bytes (Ok settled) verdict kept serial = record { verdict = verdict; kept = kept; serial = serial }
settles_all s bytes (Err starved) verdict kept serial = tt

-- what was decoded of a chunk
pub decoded_chunk : (d : Result (List ℕ) FromHexError) (first out : List ℕ) (r : Result (Unit {0}) FromHexError) → d ≡ Ok first
    → MatchResult d (λ bytes. (r ≡ Ok tt) × (out ≡ bytes)) (λ e. r ≡ Err e) → (r ≡ Ok tt) × (out ≡ first)
decoded_chunk d first out r is value =
    subst (λ (x : Result (List ℕ) FromHexError). MatchResult x (λ bytes. (r ≡ Ok tt) × (out ≡ bytes)) (λ e. r ≡ Err e)) is value

pub length-decoded : (digits first : List ℕ) (size : ℕ) → decode_pairs 0 digits ≡ Ok first → length digits ≡ 2 * size → length first ≡ size
length-decoded digits first size is long = let twice = (decode_pairs-ok 0 digits first is).1 in omega (arith, twice, long)

pub taken_piece : (out first rest : List ℕ) (size : ℕ) → out ≡ first → length first ≡ size → take size (out ++ rest) ≡ first
taken_piece out first rest size same long = ap (λ xs. take size (xs ++ rest)) same ∙ take_at first rest size long

pub all_fed : (digits rest : List ℕ) (done : ℕ) → length digits ≤ done → decode_of (drop done digits) ≡ Ok rest → rest ≡ []
all_fed digits rest done ends is =
    let long = length-drop done digits in
    let twice = (decode_of-ok (drop done digits) rest is).2 in
    nil_from_length rest (omega (arith, long, twice, ends))
