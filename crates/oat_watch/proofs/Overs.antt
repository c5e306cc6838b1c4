-- The row over an address of an image with the shape, and the return sites of its calls.
use Rattle.std.proofs.Common.{◌≡◌, ℕ, zero, suc, ◌+◌, ◌-◌, ◌<◌, ◌≤◌, Bool, true, false, cond, eqb, eqb-true, List, [], ◌∷◌, length, map, get_or, Option, Some, None, inl, inr, refl, sym, ap, subst}
use Rattle.std.proofs.Common.{◌∙◌, arith}
use Rattle.std.specs.{Prelude.Contains, Prelude.nat_le, Prelude.nat_lt, Prelude.slice_get, List.find, List.list_any, List.Sorted.IsPartitionPoint}
use Rattle.std.proofs.lemmas.{Bool.and_from, Bool.and_parts, Bool.cases_lt, Bool.false≢true, Bool.leb-true, Bool.le-leb, Bool.lt-ltb, Bool.ltb-false, Bool.ltb-true, List.get_or_default}
use Rattle.std.proofs.lemmas.{List.get_or-map, List.length-map, List.Folds.Any-from_list_any, List.Folds.list_any_at, List.Kept.AllPairs-from_increasing, Option.slice_get-get_or}
use Rattle.oat_attest.specs.{Row, address_of, after, is_call, is_over, is_returned_to, row_over, word_count, IsLaid, Covers, group_end, Image}

-- ---- the first element that passes

pub record Found {X : Type 0} (test : X → Bool) (xs : List X) (x : X) : Type 0 where
  pub among : Contains xs x
  pub passes : test x ≡ true

later : {X : Type 0} (test : X → Bool) (y : X) (ys : List X) (x : X) → Found test ys x → Found test (y ∷ ys) x
later test y ys x f = let within = f.among.1 in record { among = (suc f.among.0, omega (arith, within), f.among.2); passes = f.passes }

pub found : {X : Type 0} (test : X → Bool) (xs : List X) (x : X) → find test xs ≡ Some x → Found test xs x
found test [] x h = absurd (cc)
found test (y ∷ ys) x h = by (test y) refl h (found test ys x) where
  by : (b : Bool) → test y ≡ b → cond b (Some y) (find test ys) ≡ Some x → (find test ys ≡ Some x → Found test ys x) → Found test (y ∷ ys) x
  by true is g rest =
      let same : y ≡ x = cc in
      record { among = (0, omega arith, same); passes = ap test (sym same) ∙ is }
  by false is g rest = later test y ys x (rest g)

-- ---- the row over an address

some_words : (row : Row) → 1 ≤ word_count row
some_words row = grind arith

covers : (row : Row) (p : ℕ) → is_over p row ≡ true → Covers row p
covers row p is = let both = and_parts (nat_le (address_of row) p) (nat_lt p (group_end row)) is in (leb-true (address_of row) p both.0, ltb-true p (group_end row) both.1)

pub over-from : (row : Row) (p : ℕ) → Covers row p → is_over p row ≡ true
over-from row p c = and_from (nat_le (address_of row) p) (nat_lt p (group_end row)) (le-leb (address_of row) p c.0) (lt-ltb p (group_end row) c.1)

module _ (image : Image) (l : IsLaid image) where
  -- where no row covers an address, none is over it
  none-over : (p : ℕ) → ((row : Row) → Contains image.map.rows row → Covers row p → ⊥) → row_over image.map.rows p ≡ None
  none-over p none = by (row_over image.map.rows p) refl where
    by : (o : Option Row) → row_over image.map.rows p ≡ o → o ≡ None
    by None is = refl
    by (Some row) is = let f = found (is_over p) image.map.rows row is in absurd (none row f.among (covers row p f.passes))

  pub over-is : (row : Row) (p : ℕ) → slice_get image.map.rows p ≡ Some row → Contains image.map.rows row
  over-is row p is = among image.map.rows p row is where
    among : (rows : List Row) (i : ℕ) (r : Row) → slice_get rows i ≡ Some r → Contains rows r
    among [] i r h = absurd (cc)
    among (q ∷ rows) zero r h = let same : q ≡ r = cc in (0, omega arith, same)
    among (q ∷ rows) (suc i) r h = let rest = among rows i r h in let within = rest.1 in (suc rest.0, omega (arith, within), rest.2)

  module _ (p behind : ℕ) (bound : behind ≤ length image.map.rows)
      (point : IsPartitionPoint (λ row. nat_lt (address_of row) (p + 1) ≡ true) (λ row. nat_lt (address_of row) (p + 1) ≡ false) image.map.rows behind) where
    -- the row that covers an address is the last one at or below it
    is-last : (row : Row) → Contains image.map.rows row → Covers row p → (1 ≤ behind) × (slice_get image.map.rows (behind - 1) ≡ Some row)
    is-last row (j, within, is) c = elim (cases_lt j behind) [
      | inr past ↦
          let beyond = ltb-false _ _ (point.1 j row past within) in
          let at : address_of (get_or image.map.rows j row) ≡ address_of row = ap address_of is in
          let low = c.0 in
          absurd (omega (arith, beyond, at, low))
      | inl below ↦ elim (cases_lt j (behind - 1)) [
        | inr last ↦
            let same : j ≡ behind - 1 = omega (arith, below, last) in (
              omega (arith, below),
              subst (λ (i : ℕ). slice_get image.map.rows i ≡ Some row) same (slice_get-get_or image.map.rows j row within ∙ ap Some is),
            )
        | inl earlier ↦
            let k = behind - 1 in
            let q = get_or image.map.rows k row in
            let inside : k < length image.map.rows = omega (arith, below, bound) in
            let at_most = ltb-true _ _ (point.0 k row (omega arith) (omega (arith, below))) in
            let many : k < length (map address_of image.map.rows) = rw length-map inside in
            let rises = AllPairs-from_increasing (map address_of image.map.rows) l.ordered j k 0 earlier many in
            let rises' : address_of (get_or image.map.rows j row) < address_of q = rw (get_or-map address_of image.map.rows j row zero within, get_or-map address_of image.map.rows k row zero inside) at rises in
            let at : address_of (get_or image.map.rows j row) ≡ address_of row = ap address_of is in
            let high = c.1 in
            let some = some_words q in
            let there : Contains image.map.rows q = (k, inside, get_or_default image.map.rows k q row inside) in
            let first : row_over image.map.rows (address_of q) ≡ Some row = l.over row (address_of q) (j, within, is) (omega (arith, rises', at), omega (arith, at_most, high)) in
            let second : row_over image.map.rows (address_of q) ≡ Some q = l.over q (address_of q) there (omega arith, omega (arith, some)) in
            let both : Some q ≡ Some row = sym second ∙ first in
            let same : q ≡ row = cc in
            let equal : address_of q ≡ address_of row = ap address_of same in
            absurd (omega (arith, equal, rises', at))
      ]
    ]

    -- no row lies at or below the address
    pub over-none : behind ≡ 0 → row_over image.map.rows p ≡ None
    over-none is = none-over p (λ row among c. let last = (is-last row among c).0 in absurd (omega (arith, last, is)))

    -- the last one does, and covers it or not
    pub over-some : (row : Row) → slice_get image.map.rows (behind - 1) ≡ Some row → is_over p row ≡ true → row_over image.map.rows p ≡ Some row
    over-some row at is = l.over row p (over-is row (behind - 1) at) (covers row p is)

    pub over-other : (row : Row) → slice_get image.map.rows (behind - 1) ≡ Some row → is_over p row ≡ false → row_over image.map.rows p ≡ None
    over-other row at is =
        none-over p (λ other among c.
        let both : Some row ≡ Some other = sym at ∙ (is-last other among c).1 in
        let same : other ≡ row = cc in
        absurd (false≢true (sym is ∙ (ap (is_over p) (sym same) ∙ over-from other p c))))

  -- ---- return sites

  -- the call that returns to an address lies over the word before it
  last-word : (row : Row) (to : ℕ) → Contains image.map.rows row → after row ≡ to → (4 ≤ to) × (row_over image.map.rows (to - 4) ≡ Some row)
  last-word row to among is =
      let low = l.low row among in
      let end = low.2 in
      let some = some_words row in (
        omega (arith, end, is, some),
        l.over row (to - 4) among (omega (arith, end, is, some), omega (arith, end, is, some)),
      )

  none-any : (to : ℕ) → ((row : Row) → Contains image.map.rows row → is_returned_to to row ≡ true → ⊥) → list_any (is_returned_to to) image.map.rows ≡ false
  none-any to none = by (list_any (is_returned_to to) image.map.rows) refl where
    by : (b : Bool) → list_any (is_returned_to to) image.map.rows ≡ b → b ≡ false
    by false is = refl
    by true is = let (place, row, within, there, passes) = Any-from_list_any (is_returned_to to) image.map.rows is in absurd (none row (place, within, there) passes)

  returned-after : (row : Row) (to : ℕ) → is_returned_to to row ≡ true → after row ≡ to
  returned-after row to is = eqb-true (after row) to (and_parts (is_call row) (eqb (after row) to) is).1

  pub site-low : (to : ℕ) → to < 4 → list_any (is_returned_to to) image.map.rows ≡ false
  site-low to low =
      none-any to (λ row among is. let least = (last-word row to among (returned-after row to is)).0 in absurd (omega (arith, low, least)))

  pub site-none : (to : ℕ) → row_over image.map.rows (to - 4) ≡ None → list_any (is_returned_to to) image.map.rows ≡ false
  site-none to none =
      none-any to (λ row among is. absurd (let q : None ≡ Some row = sym none ∙ (last-word row to among (returned-after row to is)).1 in cc))

  pub site-is : (to : ℕ) (row : Row) → row_over image.map.rows (to - 4) ≡ Some row → list_any (is_returned_to to) image.map.rows ≡ is_returned_to to row
  site-is to row over = by (is_returned_to to row) refl where
    f : Found (is_over (to - 4)) image.map.rows row
    f = found (is_over (to - 4)) image.map.rows row over

    by : (b : Bool) → is_returned_to to row ≡ b → list_any (is_returned_to to) image.map.rows ≡ b
    by true is = list_any_at (is_returned_to to) image.map.rows f.among.0 row f.among.1 (ap (is_returned_to to) f.among.2 ∙ is)
    by false is =
        none-any to (λ other among passes.
        let both : Some row ≡ Some other = sym over ∙ (last-word other to among (returned-after other to passes)).1 in
        let same : other ≡ row = cc in
        absurd (false≢true (sym is ∙ (ap (is_returned_to to) (sym same) ∙ passes))))
