-- What is read as a hexadecimal number is spelled so, and what is spelled so is read.
use Rattle.std.proofs.Common.{◌≡◌, ℕ, zero, suc, ◌+◌, ◌/◌, ◌%◌, ◌^◌, ◌<◌, ◌≤◌, Bool, true, false, ◌&&◌, eqb, List, [], ◌∷◌, ◌++◌, length, take, get_or, Some, None, refl, sym, ap, subst, ◌∙◌, arith}
use Rattle.std.specs.{Prelude.if◌then◌else◌, List.list_all, Char.digit_value, Str.Parse.digits_value, Str.Parse.AllDigits}
use Rattle.std.proofs.Math.Nat.{pow-le-pow_right, pow-succ'}
use Rattle.std.proofs.lemmas.{Bool.and_parts, Bool.eqb-true, Bool.eq-eqb, Bool.Decides.nat_tests, List.take_more, List.take_all, List.length-append, List.length-take-le, List.Folds.list_all-append}
use Rattle.std.proofs.lemmas.{Int.Digits.digits_value_push, Int.Digits.digits_value-lt, Nat.div-mul-add, Nat.mod-mul-add}
use Rattle.oat_lines.specs.{Decimal.capped, Hexadecimal.is_hexadecimal_digit, Hexadecimal.hexadecimal_of, Hexadecimal.hexadecimal_digit, Hexadecimal.hexadecimal}
use Rattle.oat_lines.proofs.Steps.{chosen}

hexadecimal_value : (c : ℕ) → is_hexadecimal_digit c ≡ true → (digit_value c < 16) × (hexadecimal_digit (digit_value c) ≡ c)
hexadecimal_value c e = (grind (arith, nat_tests), grind (arith, nat_tests))

value_hexadecimal : (d : ℕ) → d < 16 → (is_hexadecimal_digit (hexadecimal_digit d) ≡ true) × (digit_value (hexadecimal_digit d) ≡ d)
value_hexadecimal d lt = (grind (arith, nat_tests), grind (arith, nat_tests))

all_digits : (word : List ℕ) → list_all is_hexadecimal_digit word ≡ true → AllDigits 16 word
all_digits [] e = tt
all_digits (c ∷ cs) e = let p = and_parts (is_hexadecimal_digit c) (list_all is_hexadecimal_digit cs) e in ((hexadecimal_value c p.0).0, all_digits cs p.1)

pub value_fits : (word : List ℕ) → list_all is_hexadecimal_digit word ≡ true → length word ≤ 16 → capped (digits_value 16 word) ≡ digits_value 16 word
value_fits word e le =
    let lt : digits_value 16 word < 16 ^ length word = digits_value-lt 16 word (all_digits word e) in
    let low : 16 ^ length word ≤ 16 ^ 16 = pow-le-pow_right {n = 16} (omega arith) le in
    omega arith

pub value_is_read : (digits n : ℕ) (word : List ℕ) → digits ≤ 16 → length word ≡ digits → list_all is_hexadecimal_digit word ≡ true → n ≡ capped (digits_value 16 word)
    → Some n ≡ hexadecimal_of digits word
value_is_read digits n word le len all e =
    let same : n ≡ digits_value 16 word = e ∙ value_fits word all (omega arith) in
    rw (eq-eqb (length word) digits len, all, same) refl

-- ---- the two laws

pub hexadecimal_length : (k n : ℕ) → length (hexadecimal k n) ≡ k
unfolding hexadecimal
hexadecimal_length zero n = refl
hexadecimal_length (suc k) n = omega (arith, length-append (hexadecimal k (n / 16)) (hexadecimal_digit (n % 16) ∷ []), hexadecimal_length k (n / 16))

pub hexadecimal_digits : (k n : ℕ) → list_all is_hexadecimal_digit (hexadecimal k n) ≡ true
unfolding hexadecimal
hexadecimal_digits zero n = refl
hexadecimal_digits (suc k) n =
    let last = value_hexadecimal (n % 16) (omega arith) in
    rw (list_all-append, hexadecimal_digits k (n / 16), last.0) refl

hexadecimal_spells : (k n : ℕ) → n < 16 ^ k → digits_value 16 (hexadecimal k n) ≡ n
unfolding hexadecimal
hexadecimal_spells zero n lt = omega arith
hexadecimal_spells (suc k) n lt =
    let small : n / 16 < 16 ^ k = omega (arith, pow-succ' 16 k) in
    let last = value_hexadecimal (n % 16) (omega arith) in
    rw (digits_value_push 16 (hexadecimal k (n / 16)) (hexadecimal_digit (n % 16)), hexadecimal_spells k (n / 16) small, last.1) (omega arith)

-- what is spelled so is read
pub hexadecimal_again : (k n : ℕ) → n < 16 ^ k → hexadecimal_of k (hexadecimal k n) ≡ Some n
hexadecimal_again k n lt = rw (eq-eqb (length (hexadecimal k n)) k (hexadecimal_length k n), hexadecimal_digits k n, hexadecimal_spells k n lt) refl

pushed : (k : ℕ) (front : List ℕ) (c : ℕ) → is_hexadecimal_digit c ≡ true → hexadecimal k (digits_value 16 front) ≡ front
    → hexadecimal (suc k) (digits_value 16 (front ++ c ∷ [])) ≡ front ++ c ∷ []
unfolding hexadecimal
pushed k front c one before =
    let d = hexadecimal_value c one in
    let value = digits_value_push 16 front c in
    let high : digits_value 16 (front ++ c ∷ []) / 16 ≡ digits_value 16 front = ap (λ n. n / 16) value ∙ div-mul-add (digits_value 16 front) 16 (digit_value c) d.0 in
    let low : digits_value 16 (front ++ c ∷ []) % 16 ≡ digit_value c = ap (λ n. n % 16) value ∙ mod-mul-add (digits_value 16 front) 16 (digit_value c) d.0 in
    rw (high, low, before, d.1) refl

value_is_spelled : (k : ℕ) (word : List ℕ) → length word ≡ k → list_all is_hexadecimal_digit word ≡ true → hexadecimal k (digits_value 16 word) ≡ word
unfolding hexadecimal
value_is_spelled zero [] len all = refl
value_is_spelled zero (c ∷ cs) len all = absurd (omega arith)
value_is_spelled (suc k) word len all =
    let lt : k < length word = omega arith in
    let parts : word ≡ take k word ++ get_or word k 0 ∷ [] = sym (take_all (k + 1) word (omega arith)) ∙ take_more word k 0 lt in
    let tests = and_parts (list_all is_hexadecimal_digit (take k word)) (list_all is_hexadecimal_digit (get_or word k 0 ∷ [])) (sym (list_all-append is_hexadecimal_digit (take k word) (get_or word k 0 ∷ [])) ∙ ap (list_all is_hexadecimal_digit) (sym parts) ∙ all) in
    let one = and_parts (is_hexadecimal_digit (get_or word k 0)) true tests.1 in
    ap (λ (w : List ℕ). hexadecimal (suc k) (digits_value 16 w)) parts
    ∙ pushed k (take k word) (get_or word k 0) one.0 (value_is_spelled k (take k word) (length-take-le k word (omega arith)) tests.0)
    ∙ sym parts

-- what is read is spelled so
pub hexadecimal_takes : (k n : ℕ) (word : List ℕ) → hexadecimal_of k word ≡ Some n → (word ≡ hexadecimal k n) × (n < 16 ^ k)
hexadecimal_takes k n word e =
    let chose = chosen (eqb (length word) k && list_all is_hexadecimal_digit word) (digits_value 16 word) n e in
    let tests = and_parts (eqb (length word) k) (list_all is_hexadecimal_digit word) chose.0 in
    let len : length word ≡ k = eqb-true (length word) k tests.0 in
    let lt : digits_value 16 word < 16 ^ length word = digits_value-lt 16 word (all_digits word tests.1) in
    subst (λ m. (word ≡ hexadecimal k m) × (m < 16 ^ k)) chose.1 (sym (value_is_spelled k word len tests.1), subst (λ j. digits_value 16 word < 16 ^ j) len lt)
