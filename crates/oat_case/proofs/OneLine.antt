-- What a step that gave a value says, and the shape of the lines that stand just once.
use Rattle.std.proofs.Common.{◌≡◌, ℕ, ◌-◌, ◌^◌, ◌<◌, Bool, true, List, [], ◌∷◌, ◌++◌, Option, Some, None, Result, Ok, Err, ℤ, refl, ap, arith}
use Rattle.std.specs.{Prelude.is_none, Prelude.option_map, List.AllByRecursion, Option.ok_or, Option.option_to_list}
use Rattle.hex.specs.declared.error.FromHexError.{FromHexError}
use Rattle.oat_lines.specs.{declared.fault.Fault.Fault, declared.fault.Fault.TheVariants.At, declared.integer.IntegerFault.IntegerFault, declared.integer.IntegerFault.TheVariants.Misspelled}
use Rattle.oat_lines.specs.{declared.integer.IntegerFault.TheVariants.OutOfRange, Lines.TextWord, Lines.sole, Lines.triple, Decimal.numeral_of, Decimal.capped, Reading.◌>>=◌, Reading.guard}
use Rattle.oat_lines.proofs.Steps.{ok_is, some_is, bind_ok, guarded_ok, or_ok}
use Rattle.oat_case.specs.{Reading.Gathered, Reading.or_token, Reading.numeral_at, Reading.integer_or_fault, Reading.once_line, declared.fault.CaseFaultKind.CaseFaultKind}
use Rattle.oat_case.specs.{declared.fault.CaseFaultKind.TheVariants.Token, declared.fault.CaseFaultKind.TheVariants.Twice, declared.fault.CaseFaultKind.TheVariants.Range}

abbrev pub Step : Type 0 → Type 0
Step X = Result X (Fault CaseFaultKind)

abbrev pub done : {X : Type 0} → X → Step X
done x = Ok x

pub or_token_ok : {X : Type 0} (n : ℕ) (r : Result X FromHexError) (x : X) → or_token n r ≡ Ok x → r ≡ Ok x
or_token_ok n (Ok z) x e = ap (λ w. Ok w) (ok_is z x e)
or_token_ok n (Err d) x e = absurd cc

pub integer_ok : (n : ℕ) (r : Result ℤ IntegerFault) (x : ℤ) → integer_or_fault n r ≡ Ok x → r ≡ Ok x
integer_ok n (Ok z) x e = ap (λ w. Ok w) (ok_is z x e)
integer_ok n (Err Misspelled) x e = absurd cc
integer_ok n (Err OutOfRange) x e = absurd cc

pub sole_is : (words : List TextWord) (word : TextWord) → sole words ≡ Some word → words ≡ word ∷ []
sole_is [] word e = absurd cc
sole_is (first ∷ []) word e = ap (λ (w : TextWord). w ∷ []) (some_is first word e)
sole_is (first ∷ second ∷ more) word e = absurd cc

pub triple_is : (words : List TextWord) (three : TextWord × TextWord × TextWord) → triple words ≡ Some three → words ≡ three.0 ∷ three.1 ∷ three.2 ∷ []
triple_is [] three e = absurd cc
triple_is (a ∷ []) three e = absurd cc
triple_is (a ∷ b ∷ []) three e = absurd cc
triple_is (a ∷ b ∷ c ∷ []) three e = ap (λ (w : TextWord × TextWord × TextWord). w.0 ∷ w.1 ∷ w.2 ∷ []) (some_is (a, b, c) three e)
triple_is (a ∷ b ∷ c ∷ d ∷ more) three e = absurd cc

number_takes' : (n : ℕ) (o : Option ℕ) (x : ℕ) → ok_or (option_map capped o) (At n Token) ≡ done x → x < 2 ^ 64 - 1 → o ≡ Some x
number_takes' n None x e low = absurd cc
number_takes' n (Some m) x e low = let same : capped m ≡ x = ok_is (capped m) x e in ap (λ w. Some w) (omega arith)

pub number_takes : (n : ℕ) (word : TextWord) (x : ℕ) → numeral_at n word ≡ Ok x → x < 2 ^ 64 - 1 → numeral_of word ≡ Some x
number_takes n word x e low = number_takes' n (numeral_of word) x e low

pub number_again : (n : ℕ) (word : TextWord) (x : ℕ) → numeral_of word ≡ Some x → x < 2 ^ 64 - 1 → numeral_at n word ≡ Ok x
number_again n word x e low = let same : capped x ≡ x = omega arith in rw e (ap done same)

pub none_of : {X : Type 0} (o : Option X) → is_none o ≡ true → o ≡ None
none_of None e = refl
none_of (Some x) e = absurd cc

pub record Takes {X : Type 0} (parse : TextWord → Step X) (is_free : Bool) (test : X → Bool) (make : X → Gathered) (line : List TextWord) (h : Gathered) : Type 0 where
  pub word : TextWord
  pub value : X
  pub words : line ≡ word ∷ []
  pub parses : parse word ≡ Ok value
  pub free : is_free ≡ true
  pub fits : test value ≡ true
  pub made : make value ≡ h

pub one_takes : {X : Type 0} (n : ℕ) (parse : TextWord → Step X) (free : Bool) (fits : X → Bool) (make : X → Gathered) (words : List TextWord) (h : Gathered)
    → once_line n parse free fits make words ≡ Ok h → Takes parse free fits make words h
one_takes n parse free fits make words h e =
    let a = bind_ok (ok_or (sole words) (At n Token)) (λ word. parse word >>= λ x. guard free (At n Twice) >>= λ _. guard (fits x) (At n Range) >>= λ _. Ok (make x)) h e in
    let b = bind_ok (parse a.0) (λ x. guard free (At n Twice) >>= λ _. guard (fits x) (At n Range) >>= λ _. Ok (make x)) h a.2 in
    let c = guarded_ok free (At n Twice) (λ _. guard (fits b.0) (At n Range) >>= λ _. Ok (make b.0)) h b.2 in
    let d = guarded_ok (fits b.0) (At n Range) (λ _. Ok (make b.0)) h c.1 in
    record {
      word = a.0;
      value = b.0;
      words = sole_is words a.0 (or_ok (sole words) (At n Token) a.0 a.1);
      parses = b.1;
      free = c.0;
      fits = d.0;
      made = ok_is (make b.0) h d.1;
    }

pub one_again : {X : Type 0} (n : ℕ) (parse : TextWord → Step X) (free : Bool) (fits : X → Bool) (make : X → Gathered) (word : TextWord) (x : X)
    → parse word ≡ Ok x → free ≡ true → fits x ≡ true → once_line n parse free fits make (word ∷ []) ≡ Ok (make x)
one_again n parse free fits make word x parses is_free fit = rw (parses, is_free, fit) refl

-- ---- a value that is given at most once, before or by these statements

pub record Once {X : Type 0} (fits : X → Bool) (given : Option X) (values : List X) (value : Option X) : Type 0 where
  pub one : option_to_list given ++ values ≡ option_to_list value
  pub fit : AllByRecursion (λ x. fits x ≡ true) values

pub once_step : {X : Type 0} (fits : X → Bool) (given : Option X) (x : X) (values : List X) (value : Option X) → given ≡ None → fits x ≡ true
    → Once fits (Some x) values value → Once fits given (x ∷ values) value
once_step fits given x values value none fit once = record { one = rw none once.one; fit = (fit, once.fit) }

two_in_one : {X : Type 0} (a b : X) (more : List X) (value : Option X) → a ∷ (b ∷ more) ≡ option_to_list value → ⊥
two_in_one a b more None e = cc
two_in_one a b more (Some c) e = cc

pub once_back : {X : Type 0} (fits : X → Bool) (given : Option X) (x : X) (values : List X) (value : Option X)
    → Once fits given (x ∷ values) value → (is_none given ≡ true) × (fits x ≡ true) × Once fits (Some x) values value
once_back fits None x values value once = (refl, once.fit.0, record { one = once.one; fit = once.fit.1 })
once_back fits (Some y) x values value once = absurd (two_in_one y x values value once.one)

pub once_last : {X : Type 0} (fits : X → Bool) (given value : Option X) → Once fits given [] value → given ≡ value
once_last fits given value once = same given value once.one
  where
    same : {X : Type 0} (given value : Option X) → option_to_list given ++ [] ≡ option_to_list value → given ≡ value
    same None None e = refl
    same None (Some c) e = absurd cc
    same (Some a) None e = absurd cc
    same (Some a) (Some c) e = let one : a ≡ c = cc in ap (λ w. Some w) one
