-- A search of rows by their addresses that halves what is left with each look.
use Rattle.std.proofs.Common.{◌≡◌, ℕ, suc, ◌+◌, ◌-◌, ◌*◌, ◌^◌, ◌<◌, ◌≤◌, List, length, get_or, None, Some, refl, ap, ◌∙◌, inl, inr, arith, position}
use Rattle.std.specs.{List.position_or_len, List.Sorted.IsStrictlyIncreasing, Prelude.nat_le}
use Rattle.std.proofs.Math.Nat.{add-mul, mul-add, two-pow-succ}
use Rattle.std.proofs.lemmas.{Bool.cases_lt, Bool.lt-leb, Bool.le-leb, Bool.lt-ltb, Bool.le-ltb, List.get_or-map, List.length-map, List.Kept.AllPairs-from_increasing, List.Sums.position_or_len_is}
use Rattle.std.proofs.lemmas.{Nat.mul-le}
use Rattle.oat_map.specs.{declared.row.Row.Row, declared.row.Row.TheVariants.Check, Rows.address_of, Rows.row_addresses}

-- the rows before `low` stand below the place, and those from `high` on don't
pub record IsBetween (addresses : List ℕ) (place low high : ℕ) : Type 0 where
  pub in_order : low ≤ high
  pub within : high ≤ length addresses
  pub below : (k : ℕ) → k < low → get_or addresses k 0 < place
  pub above : (k : ℕ) → high ≤ k → k < length addresses → place ≤ get_or addresses k 0

-- what a search among `count` rows has left, behind so many looks
pub record HasLeft (count before now left : ℕ) : Type 0 where
  pub counted : before ≤ now
  pub halved : 2 ^ (now - before) * left ≤ count
  pub bound : 2 ^ (now - before) ≤ 2 * count + 1

pub HasLeft-first : (count before : ℕ) → HasLeft count before before count
HasLeft-first count before =
    let none : before - before ≡ 0 = omega arith in
    record {
      counted = omega arith;
      halved = rw none (omega arith);
      bound = rw none (omega arith);
    }

pub HasLeft-next : (count before now left rest : ℕ) → 1 ≤ left → rest + rest ≤ left
    → HasLeft count before now left → HasLeft count before (now + 1) rest
HasLeft-next count before now left rest some half has =
    let counted = has.counted in
    let looks : now + 1 - before ≡ suc (now - before) = omega arith in
    let twice : 2 ^ (now + 1 - before) ≡ 2 ^ (now - before) + 2 ^ (now - before) =
    ap (λ k. 2 ^ k) looks ∙ two-pow-succ (now - before) in
    let power : ℕ = 2 ^ (now - before) in
    let once : power * 1 ≤ power * left = mul-le power 1 power left (omega arith) some in
    let halves : power * (rest + rest) ≤ power * left = mul-le power (rest + rest) power left (omega arith) half in
    let parts = mul-add power rest rest in
    let sums = add-mul power power rest in
    let halved = has.halved in
    record {
      counted = omega arith;
      halved = rw twice (omega arith);
      bound = rw twice (omega arith);
    }

module _ (addresses : List ℕ) (place : ℕ) (rising : IsStrictlyIncreasing addresses) (low high middle : ℕ)
    (between : IsBetween addresses place low high) (here : middle < high) where
  -- a row below the place has only such rows before it
  pub IsBetween-behind : low ≤ middle → get_or addresses middle 0 < place → IsBetween addresses place (middle + 1) high
  IsBetween-behind from less =
      let within = between.within in
      record {
        in_order = omega arith;
        within = between.within;
        below = λ k before.
            elim (cases_lt k middle) [
              | inl earlier ↦
                  let rises = AllPairs-from_increasing addresses rising k middle 0 earlier (omega arith) in
                  omega arith
              | inr not_earlier ↦
                  let same : k ≡ middle = omega arith in
                  rw same less
            ];
        above = between.above;
      }

  -- a row at or above it has only such rows behind it
  pub IsBetween-before : low ≤ middle → place ≤ get_or addresses middle 0 → IsBetween addresses place low middle
  IsBetween-before from least =
      let within = between.within in
      record {
        in_order = from;
        within = omega arith;
        below = between.below;
        above = λ k later many.
            elim (cases_lt middle k) [
              | inl behind ↦
                  let rises = AllPairs-from_increasing addresses rising middle k 0 behind many in
                  omega arith
              | inr not_behind ↦
                  let same : k ≡ middle = omega arith in
                  rw same least
            ];
      }

-- where no row is left between, the place is found
module _ (rows : List Row) (place low high : ℕ) (met : high ≤ low) (between : IsBetween (row_addresses rows) place low high) where
  first_is : position_or_len (λ row. nat_le place (address_of row)) rows ≡ low
  first_is =
      let in_order = between.in_order in
      let many : high ≤ length rows = rw length-map at between.within in
      position_or_len_is (λ row. nat_le place (address_of row)) rows low (Check 0) (omega arith)
      (λ k below.
      let less : address_of (get_or rows k (Check 0)) < place =
      rw (get_or-map address_of rows k (Check 0) 0 (omega arith)) at (between.below k below) in
      lt-leb _ _ less)
      (λ within.
      let least : place ≤ address_of (get_or rows low (Check 0)) =
      rw (get_or-map address_of rows low (Check 0) 0 within) at (between.above low (omega arith) (rw length-map within)) in
      le-leb _ _ least)

  pub found : low < length (row_addresses rows) → Some low ≡ position (λ row. nat_le place (address_of row)) rows
  found within =
      let many : low < length rows = rw length-map at within in
      rw (first_is, lt-ltb low (length rows) many) refl

  pub not_found : length (row_addresses rows) ≤ low → None ≡ position (λ row. nat_le place (address_of row)) rows
  not_found past =
      let all : length rows ≤ low = rw length-map at past in
      rw (first_is, le-ltb low (length rows) all) refl
