-- What is read section by section is spelled so, and what is spelled so is read.
use Rattle.std.proofs.Common.{◌≡◌, ℕ, zero, suc, ◌+◌, ◌≤◌, ◌<◌, ◌^◌, Bool, true, leb, List, [], ◌∷◌, ◌++◌, length, get_or, Option, Some, None, Result, Ok, refl, sym, ap, subst, ◌∙◌, append_assoc}
use Rattle.std.proofs.Common.{arith}
use Rattle.std.specs.{Prelude.ok_or, Prelude.bytes_eq, Prelude.decimal, Prelude.map, List.flat_map, List.list_all, List.AllByRecursion, List.Sorted.IsStrictlyIncreasing}
use Rattle.std.proofs.lemmas.{Bool.and_parts, Bool.leb-true, Bool.le-leb, Bool.ltb-true, Bool.lt-ltb, List.Concat.flat_map-cons, Slice.Eq.bytes_eq-Decides, Fmt.decimal_nonempty}
use Rattle.std.proofs.lemmas.{Bool.Decides.nat_tests}
use Rattle.oat_lines.specs.{Faults.at, Reading.◌>>=◌, Reading.guard, Reading.between, Decimal.decimal_of, Decimal.is_decimal_digit, Hexadecimal.hexadecimal, Hexadecimal.is_hexadecimal_digit}
use Rattle.oat_lines.specs.{Fields.cut, Fields.two_fields, Fields.spaced, Fields.ended, Fields.is_visible, Fields.IsField}
use Rattle.oat_lines.proofs.{Steps.ok_is, Steps.bind_ok, Steps.or_ok, Steps.guard_ok, Steps.at_ok, Hexadecimals.hexadecimal_digits, Hexadecimals.hexadecimal_length, Decimals.decimal_takes}
use Rattle.oat_lines.proofs.{Decimals.decimal_again, Decimals.decimal_digits, Cutting.cut_takes, Cutting.cut_again, Cutting.two_take, Cutting.two_again, Cutting.two_within, Cutting.is_within_line}
use Rattle.oat_image.specs.{declared.fault.ImageFaultKind.ImageFaultKind, declared.fault.ImageFaultKind.TheVariants.Token, declared.fault.ImageFaultKind.TheVariants.Number}
use Rattle.oat_image.specs.{declared.fault.ImageFaultKind.TheVariants.Order, declared.fault.ImageFaultKind.TheVariants.Limit, Spelling.section_text, Grammar.IsSection, Rising.Rising}
use Rattle.oat_image.specs.{Reading.Remainder, Reading.line_from, Reading.line_at, Reading.next_number, Reading.rises, Reading.item_at, Reading.items_at, Reading.number_within, Reading.count_of}
use Rattle.oat_image.specs.{Reading.section_at, Reading.fixed_at}

-- ---- words

decimal_visible : (c : ℕ) → is_decimal_digit c ≡ true → is_visible c ≡ true
decimal_visible c e = grind (arith, nat_tests)

hexadecimal_visible : (c : ℕ) → is_hexadecimal_digit c ≡ true → is_visible c ≡ true
hexadecimal_visible c e = grind (arith, nat_tests)

all_visible : (p : ℕ → Bool) → ((c : ℕ) → p c ≡ true → is_visible c ≡ true) → (word : List ℕ) → list_all p word ≡ true → list_all is_visible word ≡ true
all_visible p each [] e = refl
all_visible p each (c ∷ cs) e = let b = and_parts (p c) (list_all p cs) e in rw (each c b.0, all_visible p each cs b.1) refl

pub decimal_field : (n : ℕ) → n < 2 ^ 64 → IsField (decimal n)
decimal_field n lt = record { visible = all_visible is_decimal_digit decimal_visible (decimal n) (decimal_digits n lt); nonempty = decimal_nonempty n lt }

pub hexadecimal_field : (k n : ℕ) → 0 < k → IsField (hexadecimal k n)
hexadecimal_field k n some = record { visible = all_visible is_hexadecimal_digit hexadecimal_visible (hexadecimal k n) (hexadecimal_digits k n); nonempty = omega (arith, hexadecimal_length k n) }

pub between_takes : (low high n : ℕ) → between low high n ≡ true → (low ≤ n) × (n ≤ high)
between_takes low high n e = let p = and_parts (leb low n) (leb n high) e in (leb-true low n p.0, leb-true n high p.1)

pub between_again : (low high n : ℕ) → low ≤ n → n ≤ high → between low high n ≡ true
between_again low high n a b = rw (le-leb low n a, le-leb n high b) refl

pub bytes_take : (xs ys : List ℕ) → bytes_eq xs ys ≡ true → xs ≡ ys
bytes_take xs ys e = (bytes_eq-Decides xs ys).0 e

pub bytes_again : (xs : List ℕ) → bytes_eq xs xs ≡ true
bytes_again xs = (bytes_eq-Decides xs xs).1 refl

-- ---- a line

from_takes : (n : ℕ) (o : Option (List ℕ × List ℕ)) (p : List ℕ × Remainder) → line_from n o ≡ Ok p → (q : List ℕ × List ℕ) × (o ≡ Some q) × ((q.0, record { rest = q.1; line = next_number n }) ≡ p)
from_takes n None p e = absurd cc
from_takes n (Some q) p e = (q, refl, ok_is (q.0, record { rest = q.1; line = next_number n }) p e)

pub line_takes : (t : Remainder) (p : List ℕ × Remainder) → line_at t ≡ Ok p → t.rest ≡ ended p.0 ++ p.1.rest
unfolding line_at
line_takes t p e =
    let a = from_takes t.line (cut 10 t.rest) p e in
    subst (λ (x : List ℕ × Remainder). t.rest ≡ ended x.0 ++ x.1.rest) a.2 (cut_takes 10 t.rest a.0 a.1 ∙ sym (append_assoc a.0.0 (10 ∷ []) a.0.1))

pub line_again : (line rest : List ℕ) (n : ℕ) → list_all is_within_line line ≡ true → line_at (record { rest = ended line ++ rest; line = n }) ≡ Ok (line, record { rest = rest; line = next_number n })
unfolding line_at
line_again line rest n whole =
    ap (λ (t : List ℕ). line_from n (cut 10 t)) (append_assoc line (10 ∷ []) rest) ∙ ap (line_from n) (cut_again 10 line rest whole)

-- ---- kinds of lines

pub record IsForm {X : Type 0} (reads : List ℕ → Result X ImageFaultKind) (text : X → List ℕ) (Fits : X → Type 0) : Type 0 where
  pub takes : (line : List ℕ) (x : X) → reads line ≡ Ok x → (line ≡ text x) × Fits x
  pub again : (x : X) → Fits x → reads (text x) ≡ Ok x
  pub whole : (x : X) → Fits x → list_all is_within_line (text x) ≡ true

module _ {X : Type 0} {reads : List ℕ → Result X ImageFaultKind} {text : X → List ℕ} {Fits : X → Type 0} (form : IsForm reads text Fits) (key : X → Option ℕ) where
  item_takes : (last : Option ℕ) (t : Remainder) (p : X × Remainder) → item_at reads key last t ≡ Ok p → (t.rest ≡ ended (text p.0) ++ p.1.rest) × Fits p.0 × (rises last (key p.0) ≡ true)
  unfolding item_at
  item_takes last t p e =
      let a = bind_ok (line_at t) (λ line. at t.line (reads line.0) >>= λ item. at t.line (guard (rises last (key item)) Order) >>= λ risen. Ok (item, line.1)) p e in
      let b = bind_ok (at t.line (reads a.0.0)) (λ item. at t.line (guard (rises last (key item)) Order) >>= λ risen. Ok (item, a.0.1)) p a.2 in
      let d = bind_ok (at t.line (guard (rises last (key b.0)) Order)) (λ risen. Ok (b.0, a.0.1)) p b.2 in
      let line = form.takes a.0.0 b.0 (at_ok t.line (reads a.0.0) b.0 b.1) in
      let risen = guard_ok (rises last (key b.0)) Order d.0 (at_ok t.line (guard (rises last (key b.0)) Order) d.0 d.1) in
      let parts : t.rest ≡ ended (text b.0) ++ a.0.1.rest = line_takes t a.0 a.1 ∙ ap (λ (l : List ℕ). ended l ++ a.0.1.rest) line.0 in
      subst (λ (q : X × Remainder). (t.rest ≡ ended (text q.0) ++ q.1.rest) × Fits q.0 × (rises last (key q.0) ≡ true)) (ok_is (b.0, a.0.1) p d.2) (parts, line.1, risen)

  item_again : (last : Option ℕ) (x : X) (rest : List ℕ) (n : ℕ) → Fits x → rises last (key x) ≡ true → item_at reads key last (record { rest = ended (text x) ++ rest; line = n }) ≡ Ok (x, record { rest = rest; line = next_number n })
  unfolding item_at
  item_again last x rest n fits risen = rw (line_again (text x) rest n (form.whole x fits), form.again x fits, risen) refl

  items_take : (n : ℕ) (last : Option ℕ) (t : Remainder) (p : List X × Remainder) → items_at reads key n last t ≡ Ok p
      → (t.rest ≡ flat_map (λ x. ended (text x)) p.0 ++ p.1.rest) × (length p.0 ≡ n) × AllByRecursion Fits p.0 × Rising key last p.0
  unfolding items_at
  items_take zero last t p e =
      subst (λ (q : List X × Remainder). (t.rest ≡ flat_map (λ x. ended (text x)) q.0 ++ q.1.rest) × (length q.0 ≡ 0) × AllByRecursion Fits q.0 × Rising key last q.0) (ok_is ([], t) p e) (refl, refl, tt, tt)
  items_take (suc n) last t p e =
      let a = bind_ok (item_at reads key last t) (λ one. items_at reads key n (key one.0) one.1 >>= λ others. Ok (one.0 ∷ others.0, others.1)) p e in
      let b = bind_ok (items_at reads key n (key a.0.0) a.0.1) (λ others. Ok (a.0.0 ∷ others.0, others.1)) p a.2 in
      let one = item_takes last t a.0 a.1 in
      let more = items_take n (key a.0.0) a.0.1 b.0 b.1 in
      let parts : t.rest ≡ flat_map (λ x. ended (text x)) (a.0.0 ∷ b.0.0) ++ b.0.1.rest =
      one.0 ∙ ap (λ (r : List ℕ). ended (text a.0.0) ++ r) more.0 ∙ sym (append_assoc (ended (text a.0.0)) (flat_map (λ x. ended (text x)) b.0.0) b.0.1.rest)
      ∙ ap (λ (r : List ℕ). r ++ b.0.1.rest) (sym (flat_map-cons (λ x. ended (text x)) a.0.0 b.0.0)) in
      subst (λ (q : List X × Remainder). (t.rest ≡ flat_map (λ x. ended (text x)) q.0 ++ q.1.rest) × (length q.0 ≡ suc n) × AllByRecursion Fits q.0 × Rising key last q.0) (ok_is (a.0.0 ∷ b.0.0, b.0.1) p b.2)
      (parts, ap suc more.1, (one.1, more.2), (one.2, more.3))

  items_again : (xs : List X) (last : Option ℕ) (rest : List ℕ) (n : ℕ) → AllByRecursion Fits xs → Rising key last xs
      → (m : ℕ) × (items_at reads key (length xs) last (record { rest = flat_map (λ x. ended (text x)) xs ++ rest; line = n }) ≡ Ok (xs, record { rest = rest; line = m }))
  unfolding items_at
  items_again [] last rest n fits rising = (n, refl)
  items_again (x ∷ xs) last rest n fits rising =
      let more = items_again xs (key x) rest (next_number n) fits.1 rising.1 in
      let regrouped : flat_map (λ x. ended (text x)) (x ∷ xs) ++ rest ≡ ended (text x) ++ (flat_map (λ x. ended (text x)) xs ++ rest) =
      ap (λ (r : List ℕ). r ++ rest) (flat_map-cons (λ x. ended (text x)) x xs) ∙ append_assoc (ended (text x)) (flat_map (λ x. ended (text x)) xs) rest in (
        more.0,
        ap (λ (r : List ℕ). items_at reads key (suc (length xs)) last (record { rest = r; line = n })) regrouped
            ∙ rw (item_again last x (flat_map (λ x. ended (text x)) xs ++ rest) n fits.0 rising.0, more.1) refl,
      )

-- ---- sections

number_takes : (least most n : ℕ) (word : List ℕ) → most < 2 ^ 64 → number_within least most word ≡ Ok n → (word ≡ decimal n) × (least ≤ n) × (n ≤ most)
number_takes least most n word small e =
    let a = bind_ok (ok_or (decimal_of word) Number) (λ count. guard (between least most count) Limit >>= λ within. Ok count) n e in
    let b = bind_ok (guard (between least most a.0) Limit) (λ within. Ok a.0) n a.2 in
    let bounds = between_takes least most a.0 (guard_ok (between least most a.0) Limit b.0 b.1) in
    subst (λ m. (word ≡ decimal m) × (least ≤ m) × (m ≤ most)) (ok_is a.0 n b.2)
    (decimal_takes a.0 word (omega arith) (or_ok (decimal_of word) Number a.0 a.1), bounds.0, bounds.1)

count_takes : (keyword : List ℕ) (least most n : ℕ) (line : List ℕ) → most < 2 ^ 64 → count_of keyword least most line ≡ Ok n
    → (line ≡ spaced (keyword ∷ decimal n ∷ [])) × (least ≤ n) × (n ≤ most)
unfolding count_of
count_takes keyword least most n line small e =
    let a = bind_ok (ok_or (two_fields line) Token) (λ words. guard (bytes_eq words.0 keyword) Token >>= λ named. number_within least most words.1) n e in
    let b = bind_ok (guard (bytes_eq a.0.0 keyword) Token) (λ named. number_within least most a.0.1) n a.2 in
    let named : a.0.0 ≡ keyword = bytes_take a.0.0 keyword (guard_ok (bytes_eq a.0.0 keyword) Token b.0 b.1) in
    let number = number_takes least most n a.0.1 small b.2 in
    let parts : line ≡ spaced (a.0.0 ∷ a.0.1 ∷ []) = two_take line a.0 (or_ok (two_fields line) Token a.0 a.1) in
    (parts ∙ ap (λ (w : List ℕ). spaced (w ∷ a.0.1 ∷ [])) named ∙ ap (λ (w : List ℕ). spaced (keyword ∷ w ∷ [])) number.0, number.1, number.2)

count_again : (keyword : List ℕ) (least most n : ℕ) → IsField keyword → least ≤ n → n ≤ most → most < 2 ^ 64
    → count_of keyword least most (spaced (keyword ∷ decimal n ∷ [])) ≡ Ok n
unfolding count_of
count_again keyword least most n field low high small =
    let fits : n < 2 ^ 64 = omega arith in
    rw (two_again keyword (decimal n) field (decimal_field n fits), bytes_again keyword, decimal_again n fits, between_again least most n low high) refl

module _ {X : Type 0} {reads : List ℕ → Result X ImageFaultKind} {text : X → List ℕ} {Fits : X → Type 0} (form : IsForm reads text Fits) (key : X → Option ℕ) where
  pub section_takes : (keyword : List ℕ) (least most : ℕ) → most < 2 ^ 64 → (t : Remainder) (p : List X × Remainder) → section_at keyword least most reads key t ≡ Ok p
      → (t.rest ≡ section_text keyword text p.0 ++ p.1.rest) × IsSection Fits least most p.0 × Rising key None p.0
  unfolding section_at
  section_takes keyword least most small t p e =
      let a = bind_ok (line_at t) (λ line. at t.line (count_of keyword least most line.0) >>= λ count. items_at reads key count None line.1) p e in
      let b = bind_ok (at t.line (count_of keyword least most a.0.0)) (λ count. items_at reads key count None a.0.1) p a.2 in
      let count = count_takes keyword least most b.0 a.0.0 small (at_ok t.line (count_of keyword least most a.0.0) b.0 b.1) in
      let items = items_take form key b.0 None a.0.1 p b.2 in
      let head : t.rest ≡ ended (spaced (keyword ∷ decimal b.0 ∷ [])) ++ a.0.1.rest = line_takes t a.0 a.1 ∙ ap (λ (l : List ℕ). ended l ++ a.0.1.rest) count.0 in
      let counted : t.rest ≡ ended (spaced (keyword ∷ decimal (length p.0) ∷ [])) ++ a.0.1.rest = subst (λ n. t.rest ≡ ended (spaced (keyword ∷ decimal n ∷ [])) ++ a.0.1.rest) (sym items.1) head in (
        counted ∙ ap (λ (r : List ℕ). ended (spaced (keyword ∷ decimal (length p.0) ∷ [])) ++ r) items.0
            ∙ sym (append_assoc (ended (spaced (keyword ∷ decimal (length p.0) ∷ []))) (flat_map (λ x. ended (text x)) p.0) p.1.rest),
        record { each = items.2; enough = omega (arith, items.1, count.1); limited = omega (arith, items.1, count.2) },
        items.3,
      )

  pub section_again : (keyword : List ℕ) (least most : ℕ) → IsField keyword → most < 2 ^ 64 → (xs : List X) (rest : List ℕ) (n : ℕ) → IsSection Fits least most xs → Rising key None xs
      → (m : ℕ) × (section_at keyword least most reads key (record { rest = section_text keyword text xs ++ rest; line = n }) ≡ Ok (xs, record { rest = rest; line = m }))
  unfolding section_at
  section_again keyword least most field small xs rest n fits rising =
      let head : List ℕ = spaced (keyword ∷ decimal (length xs) ∷ []) in
      let body : List ℕ = flat_map (λ x. ended (text x)) xs in
      let size : length xs < 2 ^ 64 = omega (arith, fits.limited) in
      let items = items_again form key xs None rest (next_number n) fits.each rising in
      let line = line_again head (body ++ rest) n (two_within keyword (decimal (length xs)) field (decimal_field (length xs) size)) in (
        items.0,
        ap (λ (r : List ℕ). section_at keyword least most reads key (record { rest = r; line = n })) (append_assoc (ended head) body rest)
            ∙ rw (line, count_again keyword least most (length xs) field fits.enough fits.limited small, items.1) refl,
      )

-- ---- lines that are always the same

pub fixed_takes : (line : List ℕ) (t p : Remainder) → fixed_at line t ≡ Ok p → t.rest ≡ ended line ++ p.rest
unfolding fixed_at
fixed_takes line t p e =
    let a = bind_ok (line_at t) (λ l. at t.line (guard (bytes_eq l.0 line) Token) >>= λ same. Ok l.1) p e in
    let b = bind_ok (at t.line (guard (bytes_eq a.0.0 line) Token)) (λ same. Ok a.0.1) p a.2 in
    let same : a.0.0 ≡ line = bytes_take a.0.0 line (guard_ok (bytes_eq a.0.0 line) Token b.0 (at_ok t.line (guard (bytes_eq a.0.0 line) Token) b.0 b.1)) in
    subst (λ (q : Remainder). t.rest ≡ ended line ++ q.rest) (ok_is a.0.1 p b.2) (line_takes t a.0 a.1 ∙ ap (λ (l : List ℕ). ended l ++ a.0.1.rest) same)

pub fixed_again : (line rest : List ℕ) (n : ℕ) → list_all is_within_line line ≡ true → fixed_at line (record { rest = ended line ++ rest; line = n }) ≡ Ok (record { rest = rest; line = next_number n })
unfolding fixed_at
fixed_again line rest n whole = rw (line_again line rest n whole, bytes_again line) refl

-- ---- keys that rise

pub rising_unkeyed : {X : Type 0} (last : Option ℕ) (xs : List X) → Rising (λ x. None) last xs
rising_unkeyed last [] = tt
rising_unkeyed None (x ∷ xs) = (refl, rising_unkeyed None xs)
rising_unkeyed (Some n) (x ∷ xs) = (refl, rising_unkeyed None xs)

below_next : {X : Type 0} (k : X → ℕ) (xs : List X) → Rising (λ x. Some (k x)) None xs → (i j : ℕ) → j ≡ suc i → j < length (map k xs) → get_or (map k xs) i 0 < get_or (map k xs) j 0
below_next k [] r i j e lt = absurd (omega arith)
below_next k (x ∷ []) r i j e lt = absurd (omega arith)
below_next k (x ∷ y ∷ xs) r zero zero e lt = absurd (omega arith)
below_next k (x ∷ y ∷ xs) r zero (suc zero) e lt = ltb-true (k x) (k y) r.1.0
below_next k (x ∷ y ∷ xs) r zero (suc (suc j)) e lt = absurd (omega arith)
below_next k (x ∷ y ∷ xs) r (suc i) zero e lt = absurd (omega arith)
below_next k (x ∷ y ∷ xs) r (suc i) (suc j) e lt = below_next k (y ∷ xs) (refl, r.1.1) i j (omega arith) (omega arith)

pub strict_from_rising : {X : Type 0} (k : X → ℕ) (xs : List X) → Rising (λ x. Some (k x)) None xs → IsStrictlyIncreasing (map k xs)
strict_from_rising k xs r i lt = below_next k xs r i (i + 1) (omega arith) lt

pub rising_from_strict : {X : Type 0} (k : X → ℕ) (xs : List X) → IsStrictlyIncreasing (map k xs) → Rising (λ x. Some (k x)) None xs
rising_from_strict k [] h = tt
rising_from_strict k (x ∷ []) h = (refl, tt)
rising_from_strict k (x ∷ y ∷ xs) h =
    let later : IsStrictlyIncreasing (map k (y ∷ xs)) = λ i lt. (let step : suc i + 1 ≡ suc (i + 1) = omega arith in subst (λ j. get_or (map k (y ∷ xs)) i 0 < get_or (map k (x ∷ y ∷ xs)) j 0) step (h (suc i) (omega arith))) in
    (refl, (lt-ltb (k x) (k y) (h 0 (omega arith)), (rising_from_strict k (y ∷ xs) later).1))
