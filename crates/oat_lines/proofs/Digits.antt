-- The value of digits that are read one after the other.
use Rattle.std.proofs.Common.{◌≡◌, ℕ, ◌+◌, ◌-◌, ◌*◌, ◌^◌, ◌<◌, ◌≤◌, min, List, length, take, get_or, arith, inl, inr}
use Rattle.std.specs.{Char.digit_value, Str.Parse.digits_value}
use Rattle.std.proofs.Math.Nat.{mul-le-mul_left, mul-le-mul_right}
use Rattle.std.proofs.lemmas.{Bool.cases_lt, Int.Digits.digits_value_more}
use Rattle.oat_lines.specs.Decimal.{capped}

capped_step : (a radix d limit : ℕ) → 0 < radix → min (min (min a limit * radix) limit + d) limit ≡ min (a * radix + d) limit
capped_step a radix d limit pos =
    elim (cases_lt a limit) [
      | inl lt ↦ let same : min a limit ≡ a = omega arith in rw same (omega arith)
      | inr le ↦
          let same : min a limit ≡ limit = omega arith in
          let one : limit * 1 ≤ limit * radix = mul-le-mul_left limit (omega arith) in
          let more : limit * radix ≤ a * radix = mul-le-mul_right radix le in
          rw same (omega arith)
    ]

pub capped_more : (radix : ℕ) (word : List ℕ) (i n : ℕ) → 0 < radix → i < length word → n ≡ capped (digits_value radix (take i word))
    → min (min (n * radix) (2 ^ 64 - 1) + digit_value (get_or word i 0)) (2 ^ 64 - 1) ≡ capped (digits_value radix (take (i + 1) word))
capped_more radix word i n pos lt e =
    rw (e, digits_value_more radix word i lt) (capped_step (digits_value radix (take i word)) radix (digit_value (get_or word i 0)) (2 ^ 64 - 1) pos)
