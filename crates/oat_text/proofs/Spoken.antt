-- What the words that say something give where it is wanted, and which tests they pass.
use Rattle.std.proofs.Common.{◌≡◌, ℕ, ℤ, zero, suc, ◌+◌, ◌≤◌, Bool, true, false, eqb, leb, ltb, ◌&&◌, List, [], ◌∷◌, ◌++◌, length, Some, refl, sym, ap, subst, inl, inr, arith}
use Rattle.std.specs.{Prelude.pos, Prelude.neg_ℤ, Prelude.if◌then◌else◌, Prelude.codes, Prelude.IsTrue, Prelude.option_map, Prelude.bytes_eq, List.AllByRecursion, List.list_all}
use Rattle.std.proofs.lemmas.{Bool.and_parts, Bool.eqb-true, Bool.ne_eqb, Bool.lt-ltb, Bool.le-leb, Bool.leb-true, Fmt.decimal_digit, List.Elements.recursion_from_All}
use Rattle.oat_lines.specs.{Decimal.is_decimal_digit, Decimal.numeral_of, Fields.cut, Fields.is_visible, Integer.integer_of, Integer.is_i64, Lines.TextWord}
use Rattle.oat_lines.proofs.{Steps.chosen, Cutting.map_some}
use Rattle.oat_map.proofs.NameTests.{test_from_name}
use Rattle.oat_ir.specs.{IsName, IsNameByte, read_name, declared.func.Ty.Ty, declared.func.Ty.TheVariants.I64, declared.func.Ty.TheVariants.Fn, WellFormed.IsTy}
use Rattle.oat_text.specs.{declared.form.WordKind.WordKind, Words.Said, Words.Named, Words.Typed, Words.Parameter, Words.Number, Words.Integer, Words.Says, Words.reference_text, Words.ty_text}
use Rattle.oat_text.specs.{Words.parameter_text, Readings.params_of, Readings.ty_of, Readings.parameter_of, Readings.i64_of, Readings.count_of, Readings.begins_reference, Readings.is_printable}
use Rattle.oat_text.specs.{Readings.is_shaped, Readings.is_in_range}
use Rattle.oat_text.specs.declared.form.WordKind.TheVariants as kind

-- ---- names

pub name_read : (word : TextWord) → IsName word → read_name word ≡ Some word
name_read word is = rw (test_from_name word is) refl

abbrev is_print : ℕ → Bool
is_print b = is_visible b && ltb b 127

name_byte : (c : ℕ) → IsNameByte c → (is_print c ≡ true) × (eqb c 58 ≡ false)
name_byte c (inl (inl (inl r))) = (rw (lt-ltb 32 c (omega arith), lt-ltb c 127 (omega arith)) refl, ne_eqb c 58 (λ e. omega arith))
name_byte c (inl (inl (inr r))) = (rw (lt-ltb 32 c (omega arith), lt-ltb c 127 (omega arith)) refl, ne_eqb c 58 (λ e. omega arith))
name_byte c (inl (inr r)) = (rw (lt-ltb 32 c (omega arith), lt-ltb c 127 (omega arith)) refl, ne_eqb c 58 (λ e. omega arith))
name_byte c (inr e) = (rw (lt-ltb 32 c (omega arith), lt-ltb c 127 (omega arith)) refl, ne_eqb c 58 (λ f. omega arith))

bytes_print : (word : TextWord) → AllByRecursion IsNameByte word → is_printable word ≡ true
bytes_print [] all = refl
bytes_print (c ∷ cs) all = rw ((name_byte c all.0).0, bytes_print cs all.1) refl

pub name_prints : (word : TextWord) → IsName word → is_printable word ≡ true
name_prints word is = bytes_print word (recursion_from_All IsNameByte word is.word)

-- ---- types

few_params : (params : ℕ) → params ≤ 4 → (word : TextWord) → word ≡ codes "fn/" ++ ((48 + params) ∷ [])
    → (params_of word ≡ Some params) × (is_printable word ≡ true) × (bytes_eq word (codes "i64") ≡ false)
few_params zero le word is = rw is (refl, refl, refl)
few_params (suc zero) le word is = rw is (refl, refl, refl)
few_params (suc (suc zero)) le word is = rw is (refl, refl, refl)
few_params (suc (suc (suc zero))) le word is = rw is (refl, refl, refl)
few_params (suc (suc (suc (suc zero)))) le word is = rw is (refl, refl, refl)
few_params (suc (suc (suc (suc (suc n))))) le word is = absurd (omega arith)

reference : (params : ℕ) → params ≤ 4
    → (params_of (reference_text params) ≡ Some params) × (is_printable (reference_text params) ≡ true) × (bytes_eq (reference_text params) (codes "i64") ≡ false)
reference params le = few_params params le (reference_text params) (ap (λ (digits : TextWord). codes "fn/" ++ digits) (decimal_digit params (omega arith)))

pub params_read : (params : ℕ) → params ≤ 4 → params_of (reference_text params) ≡ Some params
params_read params le = (reference params le).0

pub ty_read : (ty : Ty) → IsTy ty → (ty_of (ty_text ty) ≡ Some ty) × (is_printable (ty_text ty) ≡ true)
ty_read I64 fits = (refl, refl)
ty_read (Fn params) fits = let is = reference params fits in (rw (is.2, is.0) refl, is.1)

-- ---- parameters

cut_behind : (name rest : TextWord) → AllByRecursion (λ b. eqb b 58 ≡ false) name → cut 58 (name ++ 58 ∷ rest) ≡ Some (name, rest)
unfolding cut
cut_behind [] rest all = refl
cut_behind (c ∷ cs) rest all = rw (all.0, cut_behind cs rest all.1) refl

no_colon : (name : TextWord) → AllByRecursion IsNameByte name → AllByRecursion (λ b. eqb b 58 ≡ false) name
no_colon [] all = tt
no_colon (c ∷ cs) all = ((name_byte c all.0).1, no_colon cs all.1)

prints_joined : (front back : TextWord) → is_printable front ≡ true → is_printable back ≡ true → is_printable (front ++ back) ≡ true
prints_joined [] back one other = other
prints_joined (c ∷ cs) back one other = let p = and_parts (is_print c) (is_printable cs) one in rw (p.0, prints_joined cs back p.1 other) refl

pub parameter_read : (name : TextWord) (ty : Ty) → IsName name → IsTy ty
    → (parameter_of (parameter_text name ty) ≡ Some (record { name = name; ty = ty })) × (is_printable (parameter_text name ty) ≡ true)
parameter_read name ty is fits = (
  rw (cut_behind name (ty_text ty) (no_colon name (recursion_from_All IsNameByte name is.word)), name_read name is, (ty_read ty fits).0) refl,
  prints_joined name (codes ":" ++ ty_text ty) (name_prints name is) (rw (ty_read ty fits).1 refl),
)

-- ---- numbers

digits_print : (word : TextWord) → list_all is_decimal_digit word ≡ true → is_printable word ≡ true
digits_print [] e = refl
digits_print (c ∷ cs) e =
    let p = and_parts (is_decimal_digit c) (list_all is_decimal_digit cs) e in
    let digit = and_parts (leb 48 c) (leb c 57) p.0 in
    let low : 48 ≤ c = leb-true 48 c digit.0 in
    let high : c ≤ 57 = leb-true c 57 digit.1 in
    rw (lt-ltb 32 c (omega arith), lt-ltb c 127 (omega arith), digits_print cs p.1) refl

numeral_digits : (word : TextWord) (n : ℕ) → numeral_of word ≡ Some n → list_all is_decimal_digit word ≡ true
numeral_digits word n e = (and_parts (ltb 0 (length word)) (list_all is_decimal_digit word) (chosen _ _ n e).0).1

pub count_read : (most n : ℕ) (word : TextWord) → numeral_of word ≡ Some n → 1 ≤ n → n ≤ most → (count_of most word ≡ Some n) × (is_printable word ≡ true)
count_read most n word e low high = (rw (e, le-leb 1 n low, le-leb n most high) refl, digits_print word (numeral_digits word n e))

digit_first : (c : ℕ) (cs : TextWord) → list_all is_decimal_digit (c ∷ cs) ≡ true → eqb c 102 ≡ false
digit_first c cs e =
    let digit = and_parts (leb 48 c) (leb c 57) (and_parts (is_decimal_digit c) (list_all is_decimal_digit cs) e).0 in
    let high : c ≤ 57 = leb-true c 57 digit.1 in
    ne_eqb c 102 (λ f. omega arith)

-- an integer is digits, or digits behind a minus
signed : (minus : Bool) (c : ℕ) (cs : TextWord) (z : ℤ) → eqb c 45 ≡ minus
    → (if minus then option_map (λ n. neg_ℤ (pos n)) (numeral_of cs) else option_map (λ n. pos n) (numeral_of (c ∷ cs))) ≡ Some z
    → (is_printable (c ∷ cs) ≡ true) × (eqb c 102 ≡ false)
signed true c cs z is e =
    let p = map_some (numeral_of cs) (λ n. neg_ℤ (pos n)) z e in
    let minus : c ≡ 45 = eqb-true c 45 is in
    (rw (minus, digits_print cs (numeral_digits cs p.0 p.1)) refl, rw minus refl)
signed false c cs z is e =
    let p = map_some (numeral_of (c ∷ cs)) (λ n. pos n) z e in
    let digits = numeral_digits (c ∷ cs) p.0 p.1 in
    (digits_print (c ∷ cs) digits, digit_first c cs digits)

pub integer_read : (word : TextWord) (z : ℤ) → integer_of word ≡ Some z → IsTrue (is_i64 z)
    → (i64_of word ≡ Some z) × (is_printable word ≡ true) × (begins_reference word ≡ false)
integer_read [] z e fits = absurd cc
integer_read (c ∷ cs) z e fits =
    let s = signed (eqb c 45) c cs z refl e in
    (rw (e, fits) refl, s.0, rw s.1 refl)

-- ---- kinds

-- this may be said where a word of this kind is wanted
abbrev pub Suits : WordKind → Said → Type 0
Suits kind.Named (Named name) = Unit {0}
Suits kind.Typed (Typed ty) = IsTy ty
Suits kind.Parameter (Parameter name ty) = IsTy ty
Suits kind.Start (Typed (Fn params)) = params ≤ 4
Suits kind.Start (Integer z) = Unit {0}
Suits kind.Integer (Integer z) = Unit {0}
Suits (kind.Count most) (Number n) = (1 ≤ n) × (n ≤ most)
Suits _ _ = ⊥

pub record Passes (k : WordKind) (word : TextWord) : Type 0 where
  pub shaped : is_shaped k word ≡ true
  pub numbered : is_in_range k word ≡ true
  pub prints : is_printable word ≡ true

pub passes : (k : WordKind) (s : Said) (word : TextWord) → Suits k s → Says word s → Passes k word
passes kind.Named (Named name) word suits says =
    let is = subst IsName (sym says.0) says.1 in
    record { shaped = rw (name_read word is) refl; numbered = refl; prints = name_prints word is }
passes kind.Typed (Typed ty) word suits says =
    let r = ty_read ty suits in record { shaped = rw (says, r.0) refl; numbered = refl; prints = rw says r.1 }
passes kind.Parameter (Parameter name ty) word suits says =
    let r = parameter_read name ty says.1 suits in record { shaped = rw (says.0, r.0) refl; numbered = refl; prints = rw says.0 r.1 }
passes kind.Start (Typed (Fn params)) word suits says =
    let r = ty_read (Fn params) suits in record { shaped = rw (says, r.0) refl; numbered = rw says refl; prints = rw says r.1 }
passes kind.Start (Integer z) word suits says =
    let r = integer_read word z says.0 says.1 in record { shaped = rw r.2 refl; numbered = rw (r.2, r.0) refl; prints = r.1 }
passes kind.Integer (Integer z) word suits says =
    let r = integer_read word z says.0 says.1 in record { shaped = refl; numbered = rw r.0 refl; prints = r.1 }
passes (kind.Count most) (Number n) word suits says =
    let r = count_read most n word says suits.0 suits.1 in record { shaped = refl; numbered = rw r.0 refl; prints = r.1 }
passes _ _ word suits says = absurd suits

-- ---- lines

abbrev pub AllSuit : List WordKind → List Said → Type 0
AllSuit kinds [] = Unit {0}
AllSuit [] (s ∷ ss) = ⊥
AllSuit (k ∷ ks) (s ∷ ss) = Suits k s × AllSuit ks ss
