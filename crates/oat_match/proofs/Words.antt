-- Words of global data at the source's steps: an element is read or written at its word, and a word of the start has its type.
use Rattle.std.proofs.Common.{◌≡◌, ◌+◌, ◌-◌, ◌^◌, ◌<◌, ◌&&◌, ℕ, Bool, true, false, cond, List, [], ◌∷◌, Option, Some, None, is_some, refl, sym, ap, subst, ◌∙◌, arith, ltb, eqb, eqb-true, lit<, inl}
use Rattle.std.proofs.Common.{inr}
use Rattle.std.specs.{Prelude.slice_get, Prelude.unwrap_or, List.sum_by}
use Rattle.std.proofs.Math.Path.{fun_ext}
use Rattle.std.proofs.lemmas.{Bool.cases_lt, Bool.lt-ltb, Bool.le-ltb, List.Sums.sum_by-cons}
use Rattle.oat_check.proofs.Bounds.{number_small}
use Rattle.oat_globals.specs.{Program, GlobalItem, Scalar, FnScalar, Array, CriticalArray, Ty, I64, Fn, Values, length_at, of_global, put, size_in_words, start_of, word_number, word_values, item_ty}
use Rattle.oat_globals.specs.{word_ty, ElementsAreNumbered, IsNumbered, assigned}
use Rattle.oat_match.specs.{Code.first_word_of, Matching.words_held}

-- ---- an element's word

there : (p : Program) (g i : ℕ) → i < length_at p g → word_number p g i ≡ Some (first_word_of p g + i)
there p g i h = ap (λ (t : Bool). cond t (Some (first_word_of p g + i)) None) (lt-ltb i (length_at p g) h)

held_defined : (t : Bool) (value : ℕ) (o : Option ℕ) → (t ≡ true → (old : ℕ) × (o ≡ Some old)) → unwrap_or (cond (t && is_some o) (Some value) o) 0 ≡ cond t value (unwrap_or o 0)
held_defined true value o has = subst (λ (q : Option ℕ). unwrap_or (cond (true && is_some q) (Some value) q) 0 ≡ value) (sym (has refl).1) refl
held_defined false value o has = refl

module _ (numbered : ElementsAreNumbered) (p : Program) (values : Values) where
  at_number : (g i : ℕ) → i < length_at p g → IsNumbered size_in_words p.globals values g i
  at_number g i h = by (slice_get p.globals g) refl where
    by : (o : Option GlobalItem) → slice_get p.globals g ≡ o → IsNumbered size_in_words p.globals values g i
    by (Some item) is = numbered size_in_words p.globals values g i item is
    by None is = let none : i < of_global size_in_words None = subst (λ (o : Option GlobalItem). i < of_global size_in_words o) is h in absurd (omega arith)

  pub word_read : (g i : ℕ) → i < length_at p g → words_held p values (first_word_of p g + i) ≡ values g i
  word_read g i h = ap (λ (o : Option ℕ). unwrap_or o 0) ((at_number g i h).told (first_word_of p g + i) (there p g i h))

  pub word_written : (g i value : ℕ) → i < length_at p g → words_held p (put values g i value) ≡ assigned (words_held p values) (first_word_of p g + i) value
  word_written g i value h =
      let n : ℕ = first_word_of p g + i in
      let at = at_number g i h in
      fun_ext (λ k. ap (λ (cells : ℕ → Option ℕ). unwrap_or (cells k) 0) (sym (at.stored n value (there p g i h)))
      ∙ held_defined (eqb k n) value (word_values p.globals values k) (λ e. (values g i, ap (word_values p.globals values) (eqb-true k n e) ∙ at.told n (there p g i h))))

-- ---- at the start

-- a number, or null
abbrev pub IsFirst : Ty → ℕ → Type 0
IsFirst I64 value = value < 2 ^ 64
IsFirst (Fn k) value = value ≡ 0

pub record FirstWord (items : List GlobalItem) (n : ℕ) : Type 0 where
  pub value : ℕ
  pub is : word_values items (λ g i. of_global start_of (slice_get items g)) n ≡ Some value
  pub ty : Ty
  pub ty_is : word_ty items n ≡ Some ty
  pub first : IsFirst ty value

first_of : (item : GlobalItem) → IsFirst (item_ty item) (start_of item)
first_of (Scalar name start critical) = number_small start
first_of (FnScalar name params) = refl
first_of (Array name len) = lit< tt
first_of (CriticalArray name len) = lit< tt

pub first_word_at : (items : List GlobalItem) (n : ℕ) → n < sum_by size_in_words items → FirstWord items n
first_word_at [] n l = absurd (omega arith)
first_word_at (x ∷ xs) n l = elim (cases_lt n (size_in_words x)) [
  | inl low ↦
      let t : ltb n (size_in_words x) ≡ true = lt-ltb n (size_in_words x) low in
      record {
        value = start_of x;
        is = ap (λ (b : Bool). cond b (Some (start_of x)) (word_values xs (λ g i. of_global start_of (slice_get xs g)) (n - size_in_words x))) t;
        ty = item_ty x;
        ty_is = ap (λ (b : Bool). cond b (Some (item_ty x)) (word_ty xs (n - size_in_words x))) t;
        first = first_of x;
      }
  | inr high ↦
      let t : ltb n (size_in_words x) ≡ false = le-ltb n (size_in_words x) high in
      let all : sum_by size_in_words (x ∷ xs) ≡ size_in_words x + sum_by size_in_words xs = sum_by-cons size_in_words x xs in
      let rest : FirstWord xs (n - size_in_words x) = first_word_at xs (n - size_in_words x) (omega arith) in
      record {
        value = rest.value;
        is = ap (λ (b : Bool). cond b (Some (start_of x)) (word_values xs (λ g i. of_global start_of (slice_get xs g)) (n - size_in_words x))) t ∙ rest.is;
        ty = rest.ty;
        ty_is = ap (λ (b : Bool). cond b (Some (item_ty x)) (word_ty xs (n - size_in_words x))) t ∙ rest.ty_is;
        first = rest.first;
      }
]
