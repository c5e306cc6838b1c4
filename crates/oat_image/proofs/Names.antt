-- A name is a word of visible characters.
use Rattle.std.proofs.Common.{◌≡◌, ℕ, true, not, ◌&&◌, ltb, List, [], ◌∷◌, length, get_or, refl, arith}
use Rattle.std.specs.{List.list_all, Char.is_ascii_digit}
use Rattle.std.proofs.lemmas.{Bool.and_parts, Bool.Decides.nat_tests}
use Rattle.oat_lines.specs.Fields.{is_visible, IsField}
use Rattle.oat_map.specs.Name.{IsName, is_name_byte}
use Rattle.oat_map.proofs.NameTests.{test_from_name}

byte_visible : (c : ℕ) → is_name_byte c ≡ true → is_visible c ≡ true
byte_visible c e = grind (arith, nat_tests)

bytes_visible : (text : List ℕ) → list_all is_name_byte text ≡ true → list_all is_visible text ≡ true
bytes_visible [] e = refl
bytes_visible (c ∷ cs) e =
    let p = and_parts (is_name_byte c) (list_all is_name_byte cs) e in
    rw (byte_visible c p.0, bytes_visible cs p.1) refl

pub name_field : (text : List ℕ) → IsName text → IsField text
name_field text name =
    let a = and_parts (ltb 0 (length text) && ltb (length text) 33 && list_all is_name_byte text) (not (is_ascii_digit (get_or text 0 0))) (test_from_name text name) in
    let b = and_parts (ltb 0 (length text) && ltb (length text) 33) (list_all is_name_byte text) a.0 in
    record { visible = bytes_visible text b.1; nonempty = omega (arith, name.begun) }
