-- Parts of the layout, each of which can be told from what stands behind it.
use Rattle.std.proofs.Common.{◌≡◌, ℕ, ◌<◌, ◌^◌, List, [], ◌∷◌, ◌++◌, length, take, drop, refl, ap, sym, ◌∙◌, arith, append_assoc}
use Rattle.std.specs.{Int.w16, Int.w32, Int.w64, Int.to_be_bytes, Int.from_be_bytes, List.All, List.flat_map}
use Rattle.std.proofs.lemmas.{List.drop_at, List.take_at, List.Elements.All-head, List.Elements.All-tail, Nat.from_be_bytes-to_be_bytes_2, Nat.from_be_bytes-to_be_bytes_4}
use Rattle.std.proofs.lemmas.{Nat.from_be_bytes-to_be_bytes_8}
use Rattle.oat_blob.specs.Body.{AreBytes}

-- two values spelled alike, with anything behind them, are one, and so is what stands behind them
pub record IsPart {X : Type 0} (spell : X → List ℕ) (fits : X → Type 0) : Type 0 where
  pub one : (x y : X) (r s : List ℕ) → fits x → fits y → spell x ++ r ≡ spell y ++ s → (x ≡ y) × (r ≡ s)

-- a part of fixed length
pub fixed_part : {X : Type 0} (spell : X → List ℕ) (fits : X → Type 0) (n : ℕ) → ((x : X) → fits x → length (spell x) ≡ n) → ((x y : X) → fits x → fits y → spell x ≡ spell y → x ≡ y) → IsPart spell fits
fixed_part {X} spell fits n long one = record { one = both } where
  both : (x y : X) (r s : List ℕ) → fits x → fits y → spell x ++ r ≡ spell y ++ s → (x ≡ y) × (r ≡ s)
  both x y r s of_x of_y same =
      let fronts : spell x ≡ spell y = sym (take_at (spell x) r n (long x of_x)) ∙ (ap (take n) same ∙ take_at (spell y) s n (long y of_y)) in
      let rests : r ≡ s = sym (drop_at (spell x) r n (long x of_x)) ∙ (ap (drop n) same ∙ drop_at (spell y) s n (long y of_y)) in
      (one x y of_x of_y fronts, rests)

pub bytes_part : (n : ℕ) → IsPart (λ (bytes : List ℕ). bytes) (AreBytes n)
bytes_part n = fixed_part (λ bytes. bytes) (AreBytes n) n (λ bytes are. are.counted) (λ x y of_x of_y same. same)

pub number_part_16 : IsPart (to_be_bytes w16) (λ n. n < 2 ^ 16)
number_part_16 = fixed_part (to_be_bytes w16) (λ n. n < 2 ^ 16) 2 (λ n fits. refl)
    (λ x y of_x of_y same. sym (from_be_bytes-to_be_bytes_2 x of_x) ∙ (ap (from_be_bytes w16) same ∙ from_be_bytes-to_be_bytes_2 y of_y))

pub number_part_32 : IsPart (to_be_bytes w32) (λ n. n < 2 ^ 32)
number_part_32 = fixed_part (to_be_bytes w32) (λ n. n < 2 ^ 32) 4 (λ n fits. refl)
    (λ x y of_x of_y same. sym (from_be_bytes-to_be_bytes_4 x of_x) ∙ (ap (from_be_bytes w32) same ∙ from_be_bytes-to_be_bytes_4 y of_y))

pub number_part_64 : IsPart (to_be_bytes w64) (λ n. n < 2 ^ 64)
number_part_64 = fixed_part (to_be_bytes w64) (λ n. n < 2 ^ 64) 8 (λ n fits. refl)
    (λ x y of_x of_y same. sym (from_be_bytes-to_be_bytes_8 x of_x) ∙ (ap (from_be_bytes w64) same ∙ from_be_bytes-to_be_bytes_8 y of_y))

-- a part behind a part
pub behind : {X : Type 0} (spell : X → List ℕ) (fits : X → Type 0) → IsPart spell fits → (x y : X) (a b r s : List ℕ) → fits x → fits y → (spell x ++ a) ++ r ≡ (spell y ++ b) ++ s → (x ≡ y) × (a ++ r ≡ b ++ s)
behind spell fits part x y a b r s of_x of_y same =
    part.one x y (a ++ r) (b ++ s) of_x of_y (sym (append_assoc (spell x) a r) ∙ (same ∙ append_assoc (spell y) b s))

-- as many parts of one kind
pub listed_parts : {X : Type 0} (spell : X → List ℕ) (fits : X → Type 0) → IsPart spell fits → (xs ys : List X) (r s : List ℕ) → length xs ≡ length ys → All fits xs → All fits ys → flat_map spell xs ++ r ≡ flat_map spell ys ++ s → (xs ≡ ys) × (r ≡ s)
listed_parts spell fits part [] [] r s long of_xs of_ys same = (refl, same)
listed_parts spell fits part [] (y ∷ ys) r s long of_xs of_ys same = absurd (omega arith)
listed_parts spell fits part (x ∷ xs) [] r s long of_xs of_ys same = absurd (omega arith)
listed_parts spell fits part (x ∷ xs) (y ∷ ys) r s long of_xs of_ys same =
    let here = behind spell fits part x y (flat_map spell xs) (flat_map spell ys) r s (All-head fits x xs of_xs) (All-head fits y ys of_ys) same in
    let after = listed_parts spell fits part xs ys r s (omega arith) (All-tail fits x xs of_xs) (All-tail fits y ys of_ys) here.1 in
    ((cc), after.1)
