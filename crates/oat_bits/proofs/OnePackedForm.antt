-- Packed bits and their number determine the bits.
use Rattle.std.proofs.Common.{◌≡◌, ℕ, zero, suc, ◌+◌, ◌*◌, ◌/◌, ◌≤◌, Bool, true, false, List, [], ◌∷◌, ◌++◌, length, take, drop, refl, ap, sym, ◌∙◌, arith, length-drop}
use Rattle.std.proofs.lemmas.List.{take-append-drop, nil_from_length}
use Rattle.oat_bits.specs.{Packed.digits, Packed.octets, Packed.packed, PackedLaws.OnePackedForm}
use Rattle.oat_bits.proofs.PackedForm.{digits-below}

digits-one : (place : ℕ) (xs ys : List Bool) → length xs ≡ length ys → digits place xs ≡ digits place ys → take place xs ≡ take place ys
unfolding digits
digits-one zero xs ys long same = refl
digits-one (suc place) [] [] long same = refl
digits-one (suc place) [] (y ∷ ys) long same = absurd (omega arith)
digits-one (suc place) (x ∷ xs) [] long same = absurd (omega arith)
digits-one (suc place) (true ∷ xs) (true ∷ ys) long same = ap (λ bits. true ∷ bits) (digits-one place xs ys (omega arith) (omega arith))
digits-one (suc place) (false ∷ xs) (false ∷ ys) long same = ap (λ bits. false ∷ bits) (digits-one place xs ys (omega arith) (omega arith))
digits-one (suc place) (true ∷ xs) (false ∷ ys) long same = let below = digits-below place ys in absurd (omega arith)
digits-one (suc place) (false ∷ xs) (true ∷ ys) long same = let below = digits-below place xs in absurd (omega arith)

octets-one : (count : ℕ) (xs ys : List Bool) (r s : List ℕ) → length xs ≡ length ys → length xs ≤ 8 * count → octets count xs ++ r ≡ octets count ys ++ s → (xs ≡ ys) × (r ≡ s)
unfolding octets
octets-one zero xs ys r s long fits same = (nil_from_length xs (omega arith) ∙ sym (nil_from_length ys (omega arith)), same)
octets-one (suc count) xs ys r s long fits same =
    let here : digits 8 xs ≡ digits 8 ys = cc in
    let behind : octets count (drop 8 xs) ++ r ≡ octets count (drop 8 ys) ++ s = cc in
    let drop_x = length-drop 8 xs in
    let drop_y = length-drop 8 ys in
    let front : take 8 xs ≡ take 8 ys = digits-one 8 xs ys long here in
    let after = octets-one count (drop 8 xs) (drop 8 ys) r s (omega arith) (omega arith) behind in
    let back : drop 8 xs ≡ drop 8 ys = after.0 in
    (sym (take-append-drop 8 xs) ∙ (rw (front, back) (take-append-drop 8 ys)), after.1)

pub packed-one : (xs ys : List Bool) (r s : List ℕ) → length xs ≡ length ys → packed xs ++ r ≡ packed ys ++ s → (xs ≡ ys) × (r ≡ s)
unfolding packed
packed-one xs ys r s long same =
    octets-one ((length xs + 7) / 8) xs ys r s long (omega arith) (same ∙ ap (λ n. octets ((n + 7) / 8) ys ++ s) (sym long))

pub one_packed_form : OnePackedForm
one_packed_form bytes count bits other first second =
    (packed-one bits other [] [] (first.counted ∙ sym second.counted) (ap (λ form. form ++ []) (first.form ∙ sym second.form))).0
