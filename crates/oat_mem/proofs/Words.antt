-- The laws of words in memory.
use Rattle.std.proofs.Common.{◌≡◌, ℕ, zero, suc, ◌+◌, ◌-◌, ◌<◌, ◌≤◌, inl, inr, ◌&&◌, leb, ltb, List, length, get_or, ap, ◌∙◌, arith, subst, add-zero, lit<}
use Rattle.std.specs.{Prelude.slice_index, Int.w64, Int.to_le_bytes, Int.byte_at, Int.bytes_low_first}
use Rattle.std.proofs.lemmas.{Nat.from_le_bytes-to_le_bytes_8, Bool.le-leb, Bool.lt-leb, Bool.lt-ltb, Bool.le-ltb, Bool.cond_both}
use Rattle.oat_mem.specs.DataMemory.{with_bytes, with_word, word_in, IsBytes, WordsReadBack, OtherWordsStay, WordsAreBounded, MemoryStaysBytes}

pub with_bytes-within : (f : ℕ → ℕ) (a : ℕ) (bs : List ℕ) (b : ℕ) → a ≤ b → b < a + length bs → with_bytes f a bs b ≡ slice_index bs (b - a)
unfolding with_bytes
with_bytes-within f a bs b low high = rw (le-leb a b low, lt-ltb b (a + length bs) high)

with_bytes-inside : (f : ℕ → ℕ) (a : ℕ) (bs : List ℕ) (i : ℕ) → i < length bs → with_bytes f a bs (a + i) ≡ slice_index bs i
with_bytes-inside f a bs i h =
    let e : a + i - a ≡ i = omega arith in
    with_bytes-within f a bs (a + i) (omega arith) (omega arith) ∙ ap (slice_index bs) e

pub with_bytes-below : (f : ℕ → ℕ) (a : ℕ) (bs : List ℕ) (b : ℕ) → b < a → with_bytes f a bs b ≡ f b
unfolding with_bytes
with_bytes-below f a bs b h = rw (lt-leb a b h)

pub with_bytes-above : (f : ℕ → ℕ) (a : ℕ) (bs : List ℕ) (b : ℕ) → a + length bs ≤ b → with_bytes f a bs b ≡ f b
unfolding with_bytes
with_bytes-above f a bs b h = rw (le-leb a b (omega arith), le-ltb b (a + length bs) h)

pub words_read_back : WordsReadBack
unfolding word_in with_word
words_read_back f a v h =
    let bs : List ℕ = to_le_bytes w64 v in
    let e0 : with_bytes f a bs a ≡ slice_index bs 0 = subst (λ k. with_bytes f a bs k ≡ slice_index bs 0) (add-zero a) (with_bytes-inside f a bs 0 (lit< tt)) in
    let e1 = with_bytes-inside f a bs 1 (lit< tt) in
    let e2 = with_bytes-inside f a bs 2 (lit< tt) in
    let e3 = with_bytes-inside f a bs 3 (lit< tt) in
    let e4 = with_bytes-inside f a bs 4 (lit< tt) in
    let e5 = with_bytes-inside f a bs 5 (lit< tt) in
    let e6 = with_bytes-inside f a bs 6 (lit< tt) in
    let e7 = with_bytes-inside f a bs 7 (lit< tt) in
    rw (e0, e1, e2, e3, e4, e5, e6, e7) (from_le_bytes-to_le_bytes_8 v h)

pub other_words_stay : OtherWordsStay
unfolding word_in with_word
other_words_stay f a v b (inl h) =
    let bs : List ℕ = to_le_bytes w64 v in
    let e : (i : ℕ) → with_bytes f a bs (b + i) ≡ f (b + i) = λ i. with_bytes-above f a bs (b + i) (omega arith) in
    let e0 : with_bytes f a bs b ≡ f b = with_bytes-above f a bs b (omega arith) in
    rw (e0, e 1, e 2, e 3, e 4, e 5, e 6, e 7)
other_words_stay f a v b (inr h) =
    let bs : List ℕ = to_le_bytes w64 v in
    let e : (i : ℕ) → i < 8 → with_bytes f a bs (b + i) ≡ f (b + i) = λ i l. with_bytes-below f a bs (b + i) (omega arith) in
    let e0 : with_bytes f a bs b ≡ f b = with_bytes-below f a bs b (omega arith) in
    rw (e0, e 1 (lit< tt), e 2 (lit< tt), e 3 (lit< tt), e 4 (lit< tt), e 5 (lit< tt), e 6 (lit< tt), e 7 (lit< tt))

pub words_are_bounded : WordsAreBounded
unfolding word_in
words_are_bounded f a h =
    omega (arith, h a, h (a + 1), h (a + 2), h (a + 3), h (a + 4), h (a + 5), h (a + 6), h (a + 7))

pub with_bytes-lt : (f : ℕ → ℕ) (a : ℕ) (bs : List ℕ) → IsBytes f → IsBytes (slice_index bs) → IsBytes (with_bytes f a bs)
unfolding with_bytes
with_bytes-lt f a bs h k b =
    cond_both (leb a b && ltb b (a + length bs)) (get_or bs (b - a) 0) (f b) (λ x. x < 256) (λ _. k (b - a)) (λ _. h b)

byte_at-lt : (i v : ℕ) → byte_at i v < 256
byte_at-lt zero v = omega arith
byte_at-lt (suc i) v = omega arith

bytes_low_first-lt : (i n v : ℕ) → IsBytes (slice_index (bytes_low_first i n v))
bytes_low_first-lt i zero v k = omega arith
bytes_low_first-lt i (suc n) v zero = byte_at-lt i v
bytes_low_first-lt i (suc n) v (suc k) = bytes_low_first-lt (suc i) n v k

pub memory_stays_bytes : MemoryStaysBytes
unfolding with_word
memory_stays_bytes f a h =
    (λ bs k. with_bytes-lt f a bs h k, λ v. with_bytes-lt f a (to_le_bytes w64 v) h (bytes_low_first-lt 0 8 v))

-- a word depends on its eight bytes alone
pub word_in-at : (f g : ℕ → ℕ) (a b : ℕ) → ((k : ℕ) → k < 8 → f (a + k) ≡ g (b + k)) → word_in f a ≡ word_in g b
unfolding word_in
word_in-at f g a b e =
    let e0 : f a ≡ g b = rw (← add-zero a, ← add-zero b) (e 0 (lit< tt)) in
    rw (e0, e 1 (lit< tt), e 2 (lit< tt), e 3 (lit< tt), e 4 (lit< tt), e 5 (lit< tt), e 6 (lit< tt), e 7 (lit< tt))
