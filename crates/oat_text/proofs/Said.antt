-- What is said by the word that is printed for it.
use Rattle.std.proofs.Common.{◌≡◌, ℕ, ℤ, suc, ◌+◌, ◌^◌, ◌<◌, ◌≤◌, Bool, true, false, eqb, ltb, [], ◌∷◌, ◌++◌, length, get_or, refl, ◌∙◌, inl, inr, arith}
use Rattle.std.specs.{Prelude.pos, Prelude.negsuc, Prelude.if◌then◌else◌, Prelude.codes, Prelude.decimal, Prelude.Option, Prelude.Some, Prelude.None, Prelude.IsTrue, List.AllByRecursion}
use Rattle.std.specs.{List.list_all, Str.Parse.starts_with_minus}
use Rattle.std.proofs.lemmas.{Bool.ne_eqb, Bool.ltb-true, Bool.lt-ltb, Bool.Decides.nat_tests, Fmt.decimal_digit, Fmt.decimal_nonempty, List.Elements.recursion_from_All, List.Folds.list_all-append}
use Rattle.std.proofs.lemmas.{Bool.and_parts}
use Rattle.oat_lines.specs.{Decimal.is_decimal_digit, Decimal.numeral_of, Decimal.leads_with_zero, Integer.is_i64, Fields.is_visible, Lines.TextWord, Lines.is_comment}
use Rattle.oat_lines.proofs.Decimals.{decimal_digits, decimal_again}
use Rattle.oat_ir.specs.{IsName, IsNameByte, declared.func.Ty.Ty, declared.func.Ty.TheVariants.I64, declared.func.Ty.TheVariants.Fn, WellFormed.IsTy}
use Rattle.oat_text.specs.Words.{Said, Keyword, Named, Typed, Parameter, Number, Integer, Says, printed_word, ty_text, reference_text}
use Rattle.oat_text.proofs.Spelled.{IsPlain}

pub record IsSayable (said : Said) : Type 0 where
  pub plain : IsPlain (printed_word said)
  pub says : Says (printed_word said) said

pub keyword : (word : TextWord) → list_all is_visible word ≡ true → 0 < length word → is_comment word ≡ false → IsSayable (Keyword word)
keyword word visible nonempty counts = record { plain = record { visible = visible; nonempty = nonempty; counts = counts }; says = refl }

-- ---- names

name_byte : (c : ℕ) → IsNameByte c → (is_visible c ≡ true) × (eqb c 59 ≡ false)
name_byte c (inl (inl (inl r))) = (lt-ltb 32 c (omega arith), ne_eqb c 59 (λ e. omega arith))
name_byte c (inl (inl (inr r))) = (lt-ltb 32 c (omega arith), ne_eqb c 59 (λ e. omega arith))
name_byte c (inl (inr r)) = (lt-ltb 32 c (omega arith), ne_eqb c 59 (λ e. omega arith))
name_byte c (inr e) = (lt-ltb 32 c (omega arith), ne_eqb c 59 (λ f. omega arith))

name_visible : (word : TextWord) → AllByRecursion IsNameByte word → list_all is_visible word ≡ true
name_visible [] all = refl
name_visible (c ∷ cs) all = rw ((name_byte c all.0).0, name_visible cs all.1) refl

name_plain : (word : TextWord) → IsName word → IsPlain word
name_plain word name = record {
  visible = name_visible word (recursion_from_All IsNameByte word name.word);
  nonempty = name.begun;
  counts = (name_byte (get_or word 0 0) (name.word 0 0 name.begun)).1;
}

pub named : (name : TextWord) → IsName name → IsSayable (Named name)
named name is = record { plain = name_plain name is; says = (refl, is) }

-- ---- types

reference_plain : (params : ℕ) → params ≤ 4 → IsPlain (reference_text params)
reference_plain params le =
    let seen : ltb 32 (48 + params) ≡ true = lt-ltb 32 (48 + params) (omega arith) in
    rw (decimal_digit params (omega arith)) (record { visible = rw seen refl; nonempty = omega arith; counts = refl })

ty_plain : (ty : Ty) → IsTy ty → IsPlain (ty_text ty)
ty_plain I64 fits = record { visible = refl; nonempty = omega arith; counts = refl }
ty_plain (Fn params) fits = reference_plain params fits

pub typed : (ty : Ty) → IsTy ty → IsSayable (Typed ty)
typed ty fits = record { plain = ty_plain ty fits; says = refl }

-- a plain word with visible bytes behind it
longer : (word more : TextWord) → IsPlain word → list_all is_visible more ≡ true → IsPlain (word ++ more)
longer [] more plain visible = absurd (let some = plain.nonempty in omega arith)
longer (c ∷ cs) more plain visible = record {
  visible = list_all-append is_visible (c ∷ cs) more ∙ rw (plain.visible, visible) refl;
  nonempty = omega arith;
  counts = plain.counts;
}

pub parameter : (name : TextWord) (ty : Ty) → IsName name → IsTy ty → IsSayable (Parameter name ty)
parameter name ty is fits = record {
  plain = longer name (codes ":" ++ ty_text ty) (name_plain name is) (list_all-append is_visible (codes ":") (ty_text ty) ∙ rw (ty_plain ty fits).visible refl);
  says = (refl, is);
}

-- ---- numbers

digit_seen : (c : ℕ) → is_decimal_digit c ≡ true → (is_visible c ≡ true) × (eqb c 59 ≡ false) × (eqb c 45 ≡ false)
digit_seen c e = (grind (arith, nat_tests), grind (arith, nat_tests), grind (arith, nat_tests))

digits_visible : (word : TextWord) → list_all is_decimal_digit word ≡ true → list_all is_visible word ≡ true
digits_visible [] e = refl
digits_visible (c ∷ cs) e =
    let p = and_parts (is_decimal_digit c) (list_all is_decimal_digit cs) e in
    rw ((digit_seen c p.0).0, digits_visible cs p.1) refl

digits_plain : (word : TextWord) → list_all is_decimal_digit word ≡ true → 0 < length word → IsPlain word × (starts_with_minus word ≡ false)
digits_plain [] e some = absurd (omega arith)
digits_plain (c ∷ cs) e some =
    let p = and_parts (is_decimal_digit c) (list_all is_decimal_digit cs) e in
    let seen = digit_seen c p.0 in
    (record { visible = digits_visible (c ∷ cs) e; nonempty = some; counts = seen.1 }, seen.2)

number_plain : (n : ℕ) → n < 2 ^ 64 → IsPlain (decimal n) × (starts_with_minus (decimal n) ≡ false)
number_plain n lt = digits_plain (decimal n) (decimal_digits n lt) (decimal_nonempty n lt)

-- a value that a test didn't keep out
let_through : (b : Bool) (o : Option ℕ) (n : ℕ) → (if b then None else o) ≡ Some n → o ≡ Some n
let_through true o n e = absurd cc
let_through false o n e = e

numeral_again : (n : ℕ) → n < 2 ^ 64 → numeral_of (decimal n) ≡ Some n
numeral_again n lt = let_through (leads_with_zero (decimal n)) (numeral_of (decimal n)) n (decimal_again n lt)

pub number : (n : ℕ) → n < 2 ^ 64 → IsSayable (Number n)
number n lt = record { plain = (number_plain n lt).0; says = numeral_again n lt }

positive : (n : ℕ) → ltb n (2 ^ 63) ≡ true → IsSayable (Integer (pos n))
positive n fits =
    let small : n < 2 ^ 63 = ltb-true n (2 ^ 63) fits in
    let plain = number_plain n (omega arith) in
    record { plain = plain.0; says = (rw (plain.1, numeral_again n (omega arith)) refl, fits) }

negative : (n : ℕ) → ltb n (2 ^ 63) ≡ true → IsSayable (Integer (negsuc n))
negative n fits =
    let small : n < 2 ^ 63 = ltb-true n (2 ^ 63) fits in
    let plain = number_plain (suc n) (omega arith) in
    record {
      plain = record { visible = rw plain.0.visible refl; nonempty = omega arith; counts = refl };
      says = (rw (numeral_again (suc n) (omega arith)) refl, fits);
    }

pub integer : (z : ℤ) → IsTrue (is_i64 z) → IsSayable (Integer z)
integer (pos n) fits = positive n fits
integer (negsuc n) fits = negative n fits
