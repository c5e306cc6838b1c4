-- The digits of a number are written from the last one on.
use Rattle.std.proofs.Common.{◌≡◌, ℕ, zero, suc, ◌+◌, ◌-◌, ◌/◌, ◌%◌, ◌≤◌, ◌<◌, List, [], ◌∷◌, ◌++◌, length, drop, refl, sym, ap, ◌∙◌, append_assoc, slice_set, arith}
use Rattle.std.proofs.lemmas.List.{drop-set}
use Rattle.oat_lines.specs.Hexadecimal.{hexadecimal_digit, hexadecimal}

one_digit_more : (place rest : ℕ) (digits : List ℕ) → place < length digits
    → hexadecimal (suc place) rest ++ drop (place + 1) digits ≡ hexadecimal place (rest / 16) ++ drop place (slice_set digits place (hexadecimal_digit (rest % 16)))
unfolding hexadecimal
one_digit_more place rest digits lt =
    let d : ℕ = hexadecimal_digit (rest % 16) in
    append_assoc (hexadecimal place (rest / 16)) (d ∷ []) (drop (place + 1) digits)
    ∙ ap (λ (r : List ℕ). hexadecimal place (rest / 16) ++ r) (sym (drop-set digits place d lt))

pub digit_goes : (place rest : ℕ) (digits : List ℕ) → 0 < place → place ≤ length digits
    → hexadecimal place rest ++ drop place digits ≡ hexadecimal (place - 1) (rest / 16) ++ drop (place - 1) (slice_set digits (place - 1) (hexadecimal_digit (rest % 16)))
digit_goes zero rest digits some le = absurd (omega arith)
digit_goes (suc place) rest digits some le =
    let before : suc place - 1 ≡ place = omega arith in
    let after : suc place ≡ place + 1 = omega arith in
    rw before (ap (λ n. hexadecimal (suc place) rest ++ drop n digits) after ∙ one_digit_more place rest digits (omega arith))

pub digits_end : (place rest : ℕ) (digits : List ℕ) → place ≡ 0 → hexadecimal place rest ++ drop place digits ≡ digits
unfolding hexadecimal
digits_end place rest digits e = rw e refl
