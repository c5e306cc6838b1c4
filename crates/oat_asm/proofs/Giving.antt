-- What things give that stand one behind the other, for all things and sizes.
use Rattle.std.proofs.Common.{◌≡◌, ℕ, zero, suc, ◌+◌, ◌≤◌, List, [], ◌∷◌, ◌++◌, length, refl, sym, ap, ◌∙◌, subst, Some, arith, inl, inr, append_assoc, length-append}
use Rattle.std.specs.{Prelude.slice_get, Prelude.Contains, List.flat_map}
use Rattle.std.proofs.lemmas.List.Elements.{Contains-append_left, Contains-append_right, Contains-append_cases}
use Rattle.oat_asm.specs.Giving.{words_in, words_before, gives_from}

zeros : (a : ℕ) → a ≡ a + 0
zeros a = omega arith

-- ---- words

module _ {X : Type 0} (size : X → ℕ) where
  pub words-append : (xs ys : List X) → words_in size (xs ++ ys) ≡ words_in size xs + words_in size ys
  words-append [] ys = omega arith
  words-append (x ∷ xs) ys = omega (arith, words-append xs ys)

  pub before_next : (xs : List X) (k : ℕ) (x : X) → slice_get xs k ≡ Some x → words_before size xs (suc k) ≡ words_before size xs k + size x
  before_next [] k x at = absurd cc
  before_next (y ∷ xs) zero x at =
      let same : y ≡ x = cc in
      let is : size y ≡ size x = ap size same in
      omega arith
  before_next (y ∷ xs) (suc k) x at = omega (arith, before_next xs k x at)

  pub before_grows : (xs : List X) (j k : ℕ) → j ≤ k → words_before size xs j ≤ words_before size xs k
  before_grows xs zero k less = omega arith
  before_grows xs (suc j) zero less = absurd (omega arith)
  before_grows [] (suc j) (suc k) less = omega arith
  before_grows (x ∷ xs) (suc j) (suc k) less = omega (arith, before_grows xs j k (omega arith))

  pub before_within : (xs : List X) (k : ℕ) → words_before size xs k ≤ words_in size xs
  before_within xs zero = omega arith
  before_within [] (suc k) = omega arith
  before_within (x ∷ xs) (suc k) = omega (arith, before_within xs k)

  pub before_front : (xs ys : List X) (k : ℕ) → k ≤ length xs → words_before size (xs ++ ys) k ≤ words_in size xs
  before_front xs ys zero within = omega arith
  before_front [] ys (suc k) within = absurd (omega arith)
  before_front (x ∷ xs) ys (suc k) within = omega (arith, before_front xs ys k (omega arith))

  pub before_back : (xs ys : List X) (k j : ℕ) → k ≡ length xs + j → words_before size (xs ++ ys) k ≡ words_in size xs + words_before size ys j
  before_back [] ys k j is = let e : k ≡ j = omega arith in let f = ap (words_before size ys) e in omega arith
  before_back (x ∷ xs) ys zero j is = absurd (omega arith)
  before_back (x ∷ xs) ys (suc k) j is = omega (arith, before_back xs ys k j (omega arith))

-- ---- lists in two

pub get_left : {A : Type 0} (xs ys : List A) (i : ℕ) (x : A) → slice_get xs i ≡ Some x → slice_get (xs ++ ys) i ≡ Some x
get_left [] ys i x h = absurd cc
get_left (a ∷ xs) ys zero x h = h
get_left (a ∷ xs) ys (suc i) x h = get_left xs ys i x h

pub get_right : {A : Type 0} (xs ys : List A) (i n : ℕ) → n ≡ length xs + i → slice_get (xs ++ ys) n ≡ slice_get ys i
get_right [] ys i n h = let e : n ≡ i = omega arith in ap (slice_get ys) e
get_right (a ∷ xs) ys i zero h = absurd (omega arith)
get_right (a ∷ xs) ys i (suc n) h = get_right xs ys i n (omega arith)

-- ---- what is given

module _ {X A : Type 0} (size : X → ℕ) (gives : ℕ → X → List A) where
  pub gives-append : (here : ℕ) (xs ys : List X) → gives_from size gives here (xs ++ ys) ≡ gives_from size gives here xs ++ gives_from size gives (here + words_in size xs) ys
  gives-append here [] ys = ap (λ h. gives_from size gives h ys) (zeros here)
  gives-append here (x ∷ xs) ys =
      let behind : here + size x + words_in size xs ≡ here + (size x + words_in size xs) = omega arith in
      ap (λ rest. gives here x ++ rest) (gives-append (here + size x) xs ys)
      ∙ sym (append_assoc (gives here x) (gives_from size gives (here + size x) xs) (gives_from size gives (here + size x + words_in size xs) ys))
      ∙ ap (λ h. (gives here x ++ gives_from size gives (here + size x) xs) ++ gives_from size gives h ys) behind

  -- the thing that gives a, and its place
  pub record GivenBy (here : ℕ) (xs : List X) (a : A) : Type 0 where
    pub k : ℕ
    pub thing : X
    pub there : ℕ
    pub at : slice_get xs k ≡ Some thing
    pub is : there ≡ here + words_before size xs k
    pub has : Contains (gives there thing) a

  pub given_by : (here : ℕ) (xs : List X) (a : A) → Contains (gives_from size gives here xs) a → GivenBy here xs a
  given_by here [] a has = absurd (omega (arith, has.1))
  given_by here (x ∷ xs) a has =
      elim (Contains-append_cases (gives here x) (gives_from size gives (here + size x) xs) a has) [
        | inl front ↦ record { k = 0; thing = x; there = here; at = refl; is = omega arith; has = front }
        | inr back ↦
            let f : GivenBy (here + size x) xs a = given_by (here + size x) xs a back in
            let e = f.is in
            record { k = suc f.k; thing = f.thing; there = f.there; at = f.at; is = omega arith; has = f.has }
      ]

  pub gives_at : (here : ℕ) (xs : List X) (k : ℕ) (x : X) (there : ℕ) (a : A)
      → slice_get xs k ≡ Some x → there ≡ here + words_before size xs k → Contains (gives there x) a → Contains (gives_from size gives here xs) a
  gives_at here [] k x there a at is has = absurd cc
  gives_at here (y ∷ xs) zero x there a at is has =
      let same : x ≡ y = cc in
      let e : there ≡ here = omega arith in
      Contains-append_left (gives here y) (gives_from size gives (here + size y) xs) a
      (subst (λ z. Contains (gives here z) a) same (subst (λ h. Contains (gives h x) a) e has))
  gives_at here (y ∷ xs) (suc k) x there a at is has =
      Contains-append_right (gives here y) (gives_from size gives (here + size y) xs) a
      (gives_at (here + size y) xs k x there a at (omega arith) has)

  -- each gives as much as it has words
  abbrev pub GivesItsSize : Type 0
  GivesItsSize = (here : ℕ) (x : X) → length (gives here x) ≡ size x

  -- the r-th of what thing k gives
  pub reads_at : GivesItsSize → (here : ℕ) (xs : List X) (k : ℕ) (x : X) (there r n : ℕ) (a : A)
      → slice_get xs k ≡ Some x → there ≡ here + words_before size xs k → n ≡ words_before size xs k + r → slice_get (gives there x) r ≡ Some a
      → slice_get (gives_from size gives here xs) n ≡ Some a
  reads_at sized here [] k x there r n a at is index has = absurd cc
  reads_at sized here (y ∷ xs) zero x there r n a at is index has =
      let same : x ≡ y = cc in
      let e : there ≡ here = omega arith in
      let i : r ≡ n = omega arith in
      get_left (gives here y) (gives_from size gives (here + size y) xs) n a
      (subst (λ m. slice_get (gives here y) m ≡ Some a) i (subst (λ z. slice_get (gives here z) r ≡ Some a) same (subst (λ h. slice_get (gives h x) r ≡ Some a) e has)))
  reads_at sized here (y ∷ xs) (suc k) x there r n a at is index has =
      get_right (gives here y) (gives_from size gives (here + size y) xs) (words_before size xs k + r) n (omega (arith, sized here y))
      ∙ reads_at sized (here + size y) xs k x there r (words_before size xs k + r) a at (omega arith) refl has

  pub gives-length : GivesItsSize → (here : ℕ) (xs : List X) → length (gives_from size gives here xs) ≡ words_in size xs
  gives-length sized here [] = refl
  gives-length sized here (x ∷ xs) =
      let both = length-append (gives here x) (gives_from size gives (here + size x) xs) in
      omega (arith, both, sized here x, gives-length sized (here + size x) xs)

-- ---- things that are made of others

module _ {X Y : Type 0} (size : Y → ℕ) (made_of : X → List Y) where
  pub words-flat : (xs : List X) → words_in size (flat_map made_of xs) ≡ words_in (λ x. words_in size (made_of x)) xs
  words-flat [] = refl
  words-flat (x ∷ xs) = words-append size (made_of x) (flat_map made_of xs) ∙ ap (λ n. words_in size (made_of x) + n) (words-flat xs)

  pub gives-flat : {A : Type 0} (gives : ℕ → Y → List A) (here : ℕ) (xs : List X)
      → gives_from size gives here (flat_map made_of xs) ≡ gives_from (λ x. words_in size (made_of x)) (λ h x. gives_from size gives h (made_of x)) here xs
  gives-flat gives here [] = refl
  gives-flat gives here (x ∷ xs) =
      gives-append size gives here (made_of x) (flat_map made_of xs)
      ∙ ap (λ rest. gives_from size gives here (made_of x) ++ rest) (gives-flat gives (here + words_in size (made_of x)) xs)
