-- The rows of a place with a lower address are those between the place and there.
use Rattle.std.proofs.Common.{◌≡◌, ℕ, ◌<◌, Bool, true, false, ◌&&◌, List, [], ◌∷◌, Option, Some, None, nat_le, nat_lt, filter, fold, count_by, if◌then◌else◌, refl, ap, sym, ◌∙◌, arith}
use Rattle.std.proofs.lemmas.{List.Elements.filter-append, List.Sums.fold-append}
use Rattle.oat_verify.specs.{Map, address_of, entries_of, starts_of, place_of, places, later_of, is_same_place, is_numbered_before, is_numbered}
use Rattle.oat_report.specs.Counting.{is_not_above, is_counted}
use mathlib.Core.Path.{fun_ext}

abbrev pub greatest : Option ℕ → List ℕ → ℕ → Option ℕ
greatest best xs a = fold later_of best (filter (λ place. nat_le place a) xs)

-- Two places so far, the greatest at or below an address and that at or below a lower one: they are the same where the first isn't above the lower address.
pub record Agree (best other : Option ℕ) (b : ℕ) : Type 0 where
  pub low : is_not_above other b ≡ true
  pub same : is_same_place other best ≡ is_not_above best b

pub later-agree : (best other : Option ℕ) (x a b : ℕ) → b < a → Agree best other b
    → Agree (if nat_le x a then later_of best x else best) (if nat_le x b then later_of other x else other) b
later-agree None None x a b lower agree = record { low = grind arith; same = grind arith }
later-agree None (Some o) x a b lower agree = record { low = grind arith; same = grind arith }
later-agree (Some p) None x a b lower agree = record { low = grind arith; same = grind arith }
later-agree (Some p) (Some o) x a b lower agree = record { low = grind arith; same = grind arith }

pub filter-cons : (a x : ℕ) (xs : List ℕ) (best : Option ℕ)
    → greatest best (x ∷ xs) a ≡ greatest (if nat_le x a then later_of best x else best) xs a
filter-cons a x xs best = grind arith

pub greatest-agree : (xs : List ℕ) (best other : Option ℕ) (a b : ℕ) → b < a
    → Agree best other b → Agree (greatest best xs a) (greatest other xs b) b
greatest-agree [] best other a b lower agree = agree
greatest-agree (x ∷ xs) best other a b lower agree =
    rw (filter-cons a x xs best, filter-cons b x xs other)
    (greatest-agree xs _ _ a b lower (later-agree best other x a b lower agree))

-- the place of a lower address is the same where it isn't above it
pub is_same_place-lower : (flow : Map) (a b : ℕ) → b < a
    → is_same_place (place_of flow b) (place_of flow a) ≡ is_not_above (place_of flow a) b
is_same_place-lower flow a b lower =
    (greatest-agree (places flow) None None a b lower (record { low = refl; same = refl })).same

only_where : (t l x y : Bool) → (l ≡ true → x ≡ y) → (t && l && x) ≡ (t && l && y)
only_where true true x y same = same refl
only_where true false x y same = refl
only_where false l x y same = refl

is_below : (b a : ℕ) → nat_lt b a ≡ true → b < a
is_below b a test = grind arith

pub is_numbered_before-counted : (flow : Map) (a : ℕ) → is_numbered_before flow a ≡ is_counted (place_of flow a) a
is_numbered_before-counted flow a = fun_ext (λ row. only_where (is_numbered row) (nat_lt (address_of row) a) _ _ (λ test. is_same_place-lower flow a (address_of row) (is_below _ _ test)))

pub place_of-parts : (flow : Map) (a : ℕ)
    → place_of flow a ≡ greatest (greatest None (entries_of flow.functions) a) (starts_of flow.blocks) a
place_of-parts flow a = rw (filter-append (λ place. nat_le place a) (entries_of flow.functions) (starts_of flow.blocks)) (fold-append later_of None (filter (λ place. nat_le place a) (entries_of flow.functions)) (filter (λ place. nat_le place a) (starts_of flow.blocks)))

pub count_by-counted : (flow : Map) (place : Option ℕ) (a : ℕ) → place ≡ place_of flow a
    → count_by (is_counted place a) flow.rows ≡ count_by (is_numbered_before flow a) flow.rows
count_by-counted flow place a is_place =
    ap (λ p. count_by p flow.rows) (ap (λ q. is_counted q a) is_place ∙ sym (is_numbered_before-counted flow a))
