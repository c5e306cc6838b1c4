-- What each word of global data is where the run of a built image starts: what its global is at the start.
use Rattle.std.proofs.Common.{◌≡◌, ◌+◌, ◌-◌, ◌*◌, ◌%◌, ◌^◌, ◌<◌, ◌≤◌, ℕ, zero, suc, Bool, true, false, cond, List, [], ◌∷◌, ◌++◌, Some, None, refl, sym, ap, subst, ◌∙◌, inl, inr, arith}
use Rattle.std.specs.{Prelude.slice_get, Prelude.nat_eq, Prelude.nat_lt, Prelude.◌⊎◌, List.fold}
use Rattle.std.proofs.lemmas.{Bool.ltb-true, Bool.ltb-false, Bool.eqb-true, Bool.le-ltb, List.Sums.fold-append}
use Rattle.oat_mem.proofs.Words.{words_read_back, other_words_stay}
use Rattle.oat_match.specs.{wrap, unsigned, word_in, with_word, global_address, InitWord, start_memory, Program, GlobalItem, Scalar, FnScalar, Array, CriticalArray, first_values, of_global}
use Rattle.oat_match.specs.{size_in_words, start_of, word_values, number, word_at_start, words_from}

-- memory with one of the words put into it
abbrev lay : (ℕ → ℕ) → InitWord → (ℕ → ℕ)
lay memory word = with_word memory (global_address word.index) word.value

abbrev laid : (ℕ → ℕ) → List InitWord → (ℕ → ℕ)
laid memory words = fold lay memory words

abbrev word_of : (ℕ → ℕ) → ℕ → ℕ
word_of memory n = word_in memory (global_address n)

abbrev IsZeroFrom : (ℕ → ℕ) → ℕ → Type 0
IsZeroFrom memory first = (k : ℕ) → first ≤ k → word_of memory k ≡ 0

no_words : (k : ℕ) → word_of (λ address. 0) k ≡ 0
unfolding word_in
no_words k = refl

-- ---- one word

record Placed (memory : ℕ → ℕ) (n value : ℕ) (new : ℕ → ℕ) : Type 0 where
  here : word_of new n ≡ value
  others : (k : ℕ) → (k < n) ⊎ (n < k) → word_of new k ≡ word_of memory k

placed : (memory : ℕ → ℕ) (n value : ℕ) → value < 2 ^ 64 → word_of memory n ≡ 0 → (b : Bool) → nat_eq value 0 ≡ b → Placed memory n value (laid memory (cond b [] (record { index = n; value = value } ∷ [])))
placed memory n value small was true is = record { here = was ∙ sym (eqb-true value 0 is); others = λ k apart. refl }
placed memory n value small was false is = record {
  here = words_read_back memory (global_address n) value small;
  others = λ k apart. elim apart [
    | inl below ↦ other_words_stay memory (global_address n) value (global_address k) (inr (omega arith))
    | inr above ↦ other_words_stay memory (global_address n) value (global_address k) (inl (omega arith))
  ];
}

-- ---- each global

start_small : (item : GlobalItem) → start_of item < 2 ^ 64
start_small (Scalar name start critical) = below (unsigned start) where
  below : (n : ℕ) → n % 2 ^ 64 < 2 ^ 64
  below n = omega arith
start_small (FnScalar name params) = omega arith
start_small (Array name len) = omega arith
start_small (CriticalArray name len) = omega arith

both_zero : (b : Bool) → ◌≡◌ {A = ℕ} (cond b 0 0) 0
both_zero true = refl
both_zero false = refl

first_placed : (memory : ℕ → ℕ) (first : ℕ) (item : GlobalItem) → IsZeroFrom memory first → Placed memory first (start_of item) (laid memory (word_at_start first (start_of item)))
first_placed memory first item zeros = placed memory first (start_of item) (start_small item) (zeros first (omega arith)) (nat_eq (start_of item) 0) refl

scalar_behind : (memory new : ℕ → ℕ) (first start n : ℕ) → IsZeroFrom memory first → Placed memory first start new → word_of new (first + n) ≡ cond (nat_lt n 1) start 0
scalar_behind memory new first start zero zeros one = let none : first + 0 ≡ first = omega arith in ap (word_of new) none ∙ one.here
scalar_behind memory new first start (suc n) zeros one =
    one.others (first + suc n) (inr (omega arith)) ∙ zeros (first + suc n) (omega arith) ∙ sym (ap (λ (b : Bool). cond b start 0) (le-ltb (suc n) 1 (omega arith)))

-- word n behind the first of a global's: the global's start, if it is one of its words, and else 0
behind : (memory : ℕ → ℕ) (first : ℕ) (item : GlobalItem) (n : ℕ) → IsZeroFrom memory first
    → word_of (laid memory (word_at_start first (start_of item))) (first + n) ≡ cond (nat_lt n (size_in_words item)) (start_of item) 0
behind memory first (Scalar name start critical) n zeros = scalar_behind memory (laid memory (word_at_start first (number start))) first (number start) n zeros (first_placed memory first (Scalar name start critical) zeros)
behind memory first (FnScalar name params) n zeros = zeros (first + n) (omega arith) ∙ sym (both_zero (nat_lt n 1))
behind memory first (Array name len) n zeros = zeros (first + n) (omega arith) ∙ sym (both_zero (nat_lt n len))
behind memory first (CriticalArray name len) n zeros = zeros (first + n) (omega arith) ∙ sym (both_zero (nat_lt n len))

-- ---- all globals

record StartsWith (first : ℕ) (items : List GlobalItem) (memory : ℕ → ℕ) : Type 0 where
  kept : (k : ℕ) → k < first → word_of (laid memory (words_from first items)) k ≡ word_of memory k
  values : (n value : ℕ) → word_values items (λ g i. of_global start_of (slice_get items g)) n ≡ Some value → word_of (laid memory (words_from first items)) (first + n) ≡ value

abbrev start_values : List GlobalItem → ℕ → ℕ → ℕ
start_values items = λ g i. of_global start_of (slice_get items g)

value_at : (items : List GlobalItem) (first size start n value : ℕ) (memory new : ℕ → ℕ) → ((k : ℕ) → k < first + size → word_of memory k ≡ word_of new k)
    → ((j v : ℕ) → word_values items (start_values items) j ≡ Some v → word_of memory (first + size + j) ≡ v) → word_of new (first + n) ≡ cond (nat_lt n size) start 0
    → (b : Bool) → nat_lt n size ≡ b → cond b (Some start) (word_values items (start_values items) (n - size)) ≡ Some value → word_of memory (first + n) ≡ value
value_at items first size start n value memory new kept values here true e is =
    let less = ltb-true n size e in
    let same : start ≡ value = cc in
    kept (first + n) (omega arith) ∙ here ∙ ap (λ (b : Bool). cond b start 0) e ∙ same
value_at items first size start n value memory new kept values here false e is =
    let least = ltb-false n size e in
    let there : first + size + (n - size) ≡ first + n = omega arith in
    ap (word_of memory) (sym there) ∙ values (n - size) value is

starts_with : (items : List GlobalItem) (first : ℕ) (memory : ℕ → ℕ) → IsZeroFrom memory first → StartsWith first items memory
starts_with [] first memory zeros = record { kept = λ k less. refl; values = λ n value is. absurd (cc) }
starts_with (item ∷ items) first memory zeros =
    let size = size_in_words item in
    let word = word_at_start first (start_of item) in
    let new = laid memory word in
    let next : IsZeroFrom new (first + size) = λ k least.
    let there : first + (k - first) ≡ k = omega arith in
    ap (word_of new) (sym there) ∙ behind memory first item (k - first) zeros ∙ ap (λ (b : Bool). cond b (start_of item) 0) (le-ltb (k - first) size (omega arith)) in
    let rest = starts_with items (first + size) new next in
    let both : laid memory (word ++ words_from (first + size) items) ≡ laid new (words_from (first + size) items) = fold-append lay memory word (words_from (first + size) items) in
    let one = first_placed memory first item zeros in
    record {
      kept = λ k less. ap (λ (m : ℕ → ℕ). word_of m k) both ∙ rest.kept k (omega arith) ∙ one.others k (inl less);
      values = λ n value is. ap (λ (m : ℕ → ℕ). word_of m (first + n)) both
          ∙ value_at items first size (start_of item) n value (laid new (words_from (first + size) items)) new rest.kept rest.values (behind memory first item n zeros) (nat_lt n size) refl is;
    }

-- a run starts with zeros, and with the words of its image
pub start_words : (p : Program) (n value : ℕ) → word_values p.globals (first_values p) n ≡ Some value → word_in (start_memory (words_from 0 p.globals)) (global_address n) ≡ value
start_words p n value is =
    let start = starts_with p.globals 0 (λ address. 0) (λ k least. no_words k) in
    let none : 0 + n ≡ n = omega arith in
    ap (word_of (start_memory (words_from 0 p.globals))) (sym none) ∙ start.values n value is
