-- An address of 1 to 16 digits of either case fits 64 bits.
use Rattle.std.proofs.Common.{◌≡◌, ℕ, ◌^◌, ◌<◌, ◌≤◌, true, List, [], ◌∷◌, length, Some, refl, arith}
use Rattle.std.specs.{List.list_all, Str.Parse.digits_value, Str.Parse.AllDigits}
use Rattle.std.proofs.Math.Nat.{pow-le-pow_right}
use Rattle.std.proofs.lemmas.{Bool.le-leb, Bool.ltb-true, Bool.and_parts, Int.Digits.digits_value-lt}
use Rattle.oat_lines.specs.Decimal.{capped}
use Rattle.oat_case.specs.Grammar.{is_hex_digit, address_numeral}

pub address_read : (n : ℕ) (word : List ℕ) → 1 ≤ length word → length word ≤ 16 → list_all is_hex_digit word ≡ true → n ≡ capped (digits_value 16 word) → Some n ≡ address_numeral word
address_read n word some short all e =
    let lt : digits_value 16 word < 16 ^ length word = digits_value-lt 16 word (all_digits word all) in
    let low : 16 ^ length word ≤ 16 ^ 16 = pow-le-pow_right {n = 16} (omega arith) short in
    let same : n ≡ digits_value 16 word = omega arith in
    rw (le-leb 1 (length word) some, le-leb (length word) 16 short, all, same) refl
  where
    all_digits : (cs : List ℕ) → list_all is_hex_digit cs ≡ true → AllDigits 16 cs
    all_digits [] each = tt
    all_digits (c ∷ cs) each = let p = and_parts (is_hex_digit c) (list_all is_hex_digit cs) each in (ltb-true _ _ p.0, all_digits cs p.1)
