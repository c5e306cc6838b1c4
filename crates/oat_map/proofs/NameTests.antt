-- The test of a name says what a name is.
use Rattle.std.proofs.Common.{◌≡◌, ℕ, ◌<◌, Bool, true, false, not, ◌&&◌, leb, ltb, List, length, get_or, Some, None, refl, arith}
use Rattle.std.specs.{Prelude.All, Bool.Decides, List.list_all, Char.is_ascii_digit, Int.is_in_range, Int.IsInRange}
use Rattle.std.proofs.lemmas.{Bool.leb-true, Bool.le-leb, Bool.ltb-true, Bool.lt-ltb, Bool.Decides.Decides-by_and, Bool.Decides.Decides-and, Bool.Decides.Decides-or, Bool.Decides.Decides-eqb}
use Rattle.oat_map.specs.Name.{IsName, IsNameByte, is_name_byte, is_name, read_name}

both : (a b : Bool) → (a && b) ≡ true → (a ≡ true) × (b ≡ true)
both true b e = (refl, e)
both false b e = absurd cc

in_range : (low high c : ℕ) → Decides (is_in_range low high c) (IsInRange low high c)
in_range low high c = Decides-and (leb low c) (leb c high) (leb-true low c, le-leb low c) (leb-true c high, le-leb c high)

byte_decides : (c : ℕ) → Decides (is_name_byte c) (IsNameByte c)
byte_decides c =
    Decides-or _ _ (Decides-or _ _ (Decides-or _ _ (in_range 48 57 c) (in_range 65 90 c)) (in_range 97 122 c)) (Decides-eqb c 95)

bytes_decide : (text : List ℕ) → Decides (list_all is_name_byte text) (All IsNameByte text)
bytes_decide text = Decides-by_and is_name_byte IsNameByte (λ bs. list_all is_name_byte bs) byte_decides refl (λ _ _. refl) text

not_true : (b : Bool) → not b ≡ true → b ≡ false
not_true true e = absurd cc
not_true false e = refl

pub name_from_test : (text : List ℕ) → is_name text ≡ true → IsName text
name_from_test text e =
    let a = both (ltb 0 (length text) && ltb (length text) 33 && list_all is_name_byte text) (not (is_ascii_digit (get_or text 0 0))) e in
    let b = both (ltb 0 (length text) && ltb (length text) 33) (list_all is_name_byte text) a.0 in
    let d = both (ltb 0 (length text)) (ltb (length text) 33) b.0 in
    let some : 0 < length text = ltb-true 0 (length text) d.0 in
    let short : length text < 33 = ltb-true (length text) 33 d.1 in
    record {
      begun = omega arith;
      short = omega arith;
      word = (bytes_decide text).0 b.1;
      no_number = λ digit. (let yes : is_ascii_digit (get_or text 0 0) ≡ true = (in_range 48 57 (get_or text 0 0)).1 digit in let no : is_ascii_digit (get_or text 0 0) ≡ false = not_true _ a.1 in cc);
    }

false_unless : (b : Bool) → (b ≡ true → ⊥) → b ≡ false
false_unless true h = absurd (h refl)
false_unless false h = refl

pub test_from_name : (text : List ℕ) → IsName text → is_name text ≡ true
test_from_name text name =
    let digit : is_ascii_digit (get_or text 0 0) ≡ false = false_unless _ (λ e. name.no_number ((in_range 48 57 (get_or text 0 0)).0 e)) in
    let some : 0 < length text = omega (arith, name.begun) in
    let short : length text < 33 = omega (arith, name.short) in
    rw (lt-ltb 0 (length text) some, lt-ltb (length text) 33 short, (bytes_decide text).1 name.word, digit) refl

pub named : (text name : List ℕ) → IsName text → name ≡ text → Some name ≡ read_name text
named text name is same = rw (test_from_name text is, same) refl

pub unnamed : (text : List ℕ) → (IsName text → ⊥) → None ≡ read_name text
unnamed text none = rw (false_unless (is_name text) (λ e. none (name_from_test text e))) refl
