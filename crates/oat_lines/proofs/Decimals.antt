-- What is read as a decimal number is spelled so, and what is spelled so is read.
use Rattle.std.proofs.Common.{◌≡◌, ℕ, zero, suc, ◌^◌, ◌<◌, Bool, true, false, ◌&&◌, eqb, ltb, List, [], ◌∷◌, length, get_or, Option, Some, None, refl, sym, ap, ◌∙◌, arith}
use Rattle.std.specs.{Prelude.if◌then◌else◌, Prelude.decimal, List.list_all, Char.digit_value, Str.Parse.digits_value, Str.Parse.AllDigits}
use Rattle.std.proofs.lemmas.{Bool.and_parts, Bool.eq-eqb, Bool.ne_eqb, Bool.ltb-true, Bool.lt-ltb, Bool.Decides.nat_tests, Str.Parse.IsNumeralModel, Str.Parse.numerals_by_value}
use Rattle.std.proofs.lemmas.{Str.Parse.tells_digits, Str.Parse.digit_from_value, Fmt.digits_decimal, Fmt.digits_value-decimal, Fmt.decimal-digits_value, Fmt.decimal_nonempty, Fmt.first_decimal}
use Rattle.std.proofs.lemmas.{Fmt.decimal_digit}
use Rattle.oat_lines.specs.Decimal.{is_decimal_digit, numeral_of, decimal_of, leads_with_zero}
use Rattle.oat_lines.proofs.Steps.{chosen}

own : IsNumeralModel (AllDigits 10) (digits_value 10)
own = numerals_by_value (AllDigits 10) tells_digits

decimal_digit_value : (c : ℕ) → is_decimal_digit c ≡ true → digit_value c < 10
decimal_digit_value c e = grind (arith, nat_tests)

all_digits : (word : List ℕ) → list_all is_decimal_digit word ≡ true → AllDigits 10 word
all_digits [] e = tt
all_digits (c ∷ cs) e = let p = and_parts (is_decimal_digit c) (list_all is_decimal_digit cs) e in (decimal_digit_value c p.0, all_digits cs p.1)

digit_is_decimal : (c : ℕ) → digit_value c < 10 → is_decimal_digit c ≡ true
digit_is_decimal c lt = let r = digit_from_value c lt in grind (arith, nat_tests)

all_decimal : (word : List ℕ) → AllDigits 10 word → list_all is_decimal_digit word ≡ true
all_decimal [] all = refl
all_decimal (c ∷ cs) all = rw (digit_is_decimal c all.0, all_decimal cs all.1) refl

pub decimal_digits : (n : ℕ) → n < 2 ^ 64 → list_all is_decimal_digit (decimal n) ≡ true
decimal_digits n lt = all_decimal (decimal n) (digits_decimal own n lt)

no_leading_zero : (word : List ℕ) → 0 < length word → leads_with_zero word ≡ false → get_or word 0 0 ≡ 48 → length word ≡ 1
no_leading_zero [] some e z = absurd (omega arith)
no_leading_zero (c ∷ []) some e z = refl
no_leading_zero (c ∷ d ∷ cs) some e z = absurd (let t : eqb c 48 ≡ true = eq-eqb c 48 z in cc)

nonzero_leads : (word : List ℕ) → 48 < get_or word 0 0 → leads_with_zero word ≡ false
nonzero_leads [] lt = refl
nonzero_leads (c ∷ []) lt = refl
nonzero_leads (c ∷ d ∷ cs) lt = ne_eqb c 48 (λ e. omega arith)

decimal_leads : (n : ℕ) → n < 2 ^ 64 → leads_with_zero (decimal n) ≡ false
decimal_leads zero lt = ap leads_with_zero (decimal_digit 0 (omega arith))
decimal_leads (suc n) lt = nonzero_leads (decimal (suc n)) (first_decimal (suc n) (omega arith) lt)

-- a value that a test didn't keep out
kept : (b : Bool) (o : Option ℕ) (n : ℕ) → (if b then None else o) ≡ Some n → (b ≡ false) × (o ≡ Some n)
kept true o n e = absurd cc
kept false o n e = (refl, e)

-- what is read is spelled so
pub decimal_takes : (n : ℕ) (word : List ℕ) → n < 2 ^ 64 → decimal_of word ≡ Some n → word ≡ decimal n
decimal_takes n word lt e =
    let plain = kept (leads_with_zero word) (numeral_of word) n e in
    let chose = chosen (ltb 0 (length word) && list_all is_decimal_digit word) (digits_value 10 word) n plain.1 in
    let tests = and_parts (ltb 0 (length word)) (list_all is_decimal_digit word) chose.0 in
    let some : 0 < length word = ltb-true 0 (length word) tests.0 in
    let small : digits_value 10 word < 2 ^ 64 = omega (arith, chose.1) in
    sym (decimal-digits_value own word (all_digits word tests.1) some (no_leading_zero word some plain.0) small) ∙ ap decimal chose.1

-- what is spelled so is read
pub decimal_again : (n : ℕ) → n < 2 ^ 64 → decimal_of (decimal n) ≡ Some n
decimal_again n lt =
    rw (decimal_leads n lt, lt-ltb 0 (length (decimal n)) (decimal_nonempty n lt), decimal_digits n lt, digits_value-decimal own n lt) refl
