-- Windows of a list that grows by one item at a time: the one that is open, and what the next item makes of it.
use Rattle.std.proofs.Common.{◌≡◌, ◌++◌, ◌∷◌, ◌∙◌, ◌<◌, ℕ, zero, suc, Bool, true, false, cond, List, [], append_assoc, refl, sym, ap, arith}
use Rattle.std.specs.{Prelude.◌||◌, List.list_any}
use Rattle.oat_attest.specs.{beyond, inside, is_closed, past, through, up_to}
use Rattle.oat_watch.specs.Collecting.{is_opened}

-- ---- one test

either : {X : Type 0} (b : Bool) (xs : List X) → cond b xs xs ≡ xs
either true xs = refl
either false xs = refl

any-last : {X : Type 0} (t : X → Bool) (xs : List X) (x : X) → list_any t xs ≡ false → list_any t (xs ++ x ∷ []) ≡ t x
any-last t [] x none = by (t x) where
  by : (b : Bool) → (b || false) ≡ b
  by true = refl
  by false = refl
any-last t (y ∷ xs) x none = by (t y) none (any-last t xs x) where
  by : (b : Bool) → (b || list_any t xs) ≡ false → (list_any t xs ≡ false → list_any t (xs ++ x ∷ []) ≡ t x) → (b || list_any t (xs ++ x ∷ [])) ≡ t x
  by true n rest = absurd (cc)
  by false n rest = rest n

any-stays : {X : Type 0} (t : X → Bool) (xs ys : List X) → list_any t xs ≡ true → list_any t (xs ++ ys) ≡ true
any-stays t [] ys some = absurd (cc)
any-stays t (y ∷ xs) ys some = by (t y) some (any-stays t xs ys) where
  by : (b : Bool) → (b || list_any t xs) ≡ true → (list_any t xs ≡ true → list_any t (xs ++ ys) ≡ true) → (b || list_any t (xs ++ ys)) ≡ true
  by true n rest = refl
  by false n rest = rest n

beyond-last : {X : Type 0} (t : X → Bool) (xs : List X) (x : X) → list_any t xs ≡ false → beyond t (xs ++ x ∷ []) ≡ []
beyond-last t [] x none = either (t x) []
beyond-last {X} t (y ∷ xs) x none = by (t y) none (beyond-last t xs x) where
  by : (b : Bool) → (b || list_any t xs) ≡ false → (list_any t xs ≡ false → beyond t (xs ++ x ∷ []) ≡ []) → cond b (xs ++ x ∷ []) (beyond t (xs ++ x ∷ [])) ≡ []
  by true n rest = absurd (cc)
  by false n rest = rest n

beyond-more : {X : Type 0} (t : X → Bool) (xs ys : List X) → list_any t xs ≡ true → beyond t (xs ++ ys) ≡ beyond t xs ++ ys
beyond-more t [] ys some = absurd (cc)
beyond-more t (y ∷ xs) ys some = by (t y) some (beyond-more t xs ys) where
  by : (b : Bool) → (b || list_any t xs) ≡ true → (list_any t xs ≡ true → beyond t (xs ++ ys) ≡ beyond t xs ++ ys) → cond b (xs ++ ys) (beyond t (xs ++ ys)) ≡ cond b xs (beyond t xs) ++ ys
  by true n rest = refl
  by false n rest = rest n

through-none : {X : Type 0} (t : X → Bool) (xs : List X) → list_any t xs ≡ false → through t xs ≡ xs
through-none t [] none = refl
through-none t (y ∷ xs) none = by (t y) none (through-none t xs) where
  by : (b : Bool) → (b || list_any t xs) ≡ false → (list_any t xs ≡ false → through t xs ≡ xs) → cond b (y ∷ []) (y ∷ through t xs) ≡ y ∷ xs
  by true n rest = absurd (cc)
  by false n rest = ap (λ zs. y ∷ zs) (rest n)

through-last : {X : Type 0} (t : X → Bool) (xs : List X) (x : X) → list_any t xs ≡ false → through t (xs ++ x ∷ []) ≡ xs ++ x ∷ []
through-last t [] x none = either (t x) (x ∷ [])
through-last t (y ∷ xs) x none = by (t y) none (through-last t xs x) where
  by : (b : Bool) → (b || list_any t xs) ≡ false → (list_any t xs ≡ false → through t (xs ++ x ∷ []) ≡ xs ++ x ∷ []) → cond b (y ∷ []) (y ∷ through t (xs ++ x ∷ [])) ≡ y ∷ (xs ++ x ∷ [])
  by true n rest = absurd (cc)
  by false n rest = ap (λ zs. y ∷ zs) (rest n)

through-stays : {X : Type 0} (t : X → Bool) (xs ys : List X) → list_any t xs ≡ true → through t (xs ++ ys) ≡ through t xs
through-stays t [] ys some = absurd (cc)
through-stays t (y ∷ xs) ys some = by (t y) some (through-stays t xs ys) where
  by : (b : Bool) → (b || list_any t xs) ≡ true → (list_any t xs ≡ true → through t (xs ++ ys) ≡ through t xs) → cond b (y ∷ []) (y ∷ through t (xs ++ ys)) ≡ cond b (y ∷ []) (y ∷ through t xs)
  by true n rest = refl
  by false n rest = ap (λ zs. y ∷ zs) (rest n)

through-beyond : {X : Type 0} (t : X → Bool) (xs : List X) → through t xs ++ beyond t xs ≡ xs
through-beyond t [] = refl
through-beyond t (y ∷ xs) = by (t y) (through-beyond t xs) where
  by : (b : Bool) → through t xs ++ beyond t xs ≡ xs → cond b (y ∷ []) (y ∷ through t xs) ++ cond b xs (beyond t xs) ≡ y ∷ xs
  by true rest = refl
  by false rest = ap (λ zs. y ∷ zs) rest

-- ---- windows

module _ {X : Type 0} (opens seals : X → Bool) where
  -- so many windows are closed
  abbrev pub AreClosed : ℕ → List X → Type 0
  AreClosed n xs = (s : ℕ) → s < n → is_closed opens seals s xs ≡ true

  first-closed : (n : ℕ) (xs : List X) → AreClosed (suc n) xs → list_any seals (beyond opens xs) ≡ true
  first-closed n xs closed = closed 0 (omega arith)

  others-closed : (n : ℕ) (xs : List X) → AreClosed (suc n) xs → AreClosed n (past opens seals xs)
  others-closed n xs closed = λ s below. closed (suc s) (omega (arith, below))

  opened-first : (xs : List X) → list_any seals (beyond opens xs) ≡ true → list_any opens xs ≡ true
  opened-first xs some = by (list_any opens xs) refl where
    none-beyond : (ys : List X) → list_any opens ys ≡ false → beyond opens ys ≡ []
    none-beyond [] none = refl
    none-beyond (y ∷ ys) none = at (opens y) none (none-beyond ys) where
      at : (b : Bool) → (b || list_any opens ys) ≡ false → (list_any opens ys ≡ false → beyond opens ys ≡ []) → cond b ys (beyond opens ys) ≡ []
      at true n rest = absurd (cc)
      at false n rest = rest n

    by : (b : Bool) → list_any opens xs ≡ b → b ≡ true
    by true is = refl
    by false is = absurd (let q : false ≡ true = sym (ap (list_any seals) (none-beyond xs is)) ∙ some in cc)

  past-more : (xs ys : List X) → list_any seals (beyond opens xs) ≡ true → past opens seals (xs ++ ys) ≡ past opens seals xs ++ ys
  past-more xs ys some = ap (beyond seals) (beyond-more opens xs ys (opened-first xs some)) ∙ beyond-more seals (beyond opens xs) ys some

  -- ---- no window is open

  pub record Opens (n : ℕ) (xs : List X) (x : X) : Type 0 where
    pub opened : is_opened opens seals n (xs ++ x ∷ []) ≡ opens x
    pub closed : is_closed opens seals n (xs ++ x ∷ []) ≡ false
    pub inside_is : inside opens seals n (xs ++ x ∷ []) ≡ []
    pub up_to_is : up_to opens seals n (xs ++ x ∷ []) ≡ xs ++ x ∷ []

  pub opening : (n : ℕ) (xs : List X) (x : X) → AreClosed n xs → is_opened opens seals n xs ≡ false → Opens n xs x
  unfolding is_opened
  opening zero xs x closed none =
      let rest = beyond-last opens xs x none in
      record {
        opened = any-last opens xs x none;
        closed = ap (list_any seals) rest;
        inside_is = ap (through seals) rest;
        up_to_is = through-last opens xs x none;
      }
  opening (suc n) xs x closed none =
      let first = first-closed n xs closed in
      let past_is = past-more xs (x ∷ []) first in
      let next = opening n (past opens seals xs) x (others-closed n xs closed) none in
      let one = through-stays opens xs (x ∷ []) (opened-first xs first) in
      let two = ap (through seals) (beyond-more opens xs (x ∷ []) (opened-first xs first)) ∙ through-stays seals (beyond opens xs) (x ∷ []) first in
      let parts = ap (λ zs. through opens xs ++ zs) (through-beyond seals (beyond opens xs)) ∙ through-beyond opens xs in
      record {
        opened = ap (is_opened opens seals n) past_is ∙ next.opened;
        closed = ap (is_closed opens seals n) past_is ∙ next.closed;
        inside_is = ap (inside opens seals n) past_is ∙ next.inside_is;
        up_to_is = ap (λ zs. (zs ++ through seals (beyond opens (xs ++ x ∷ []))) ++ up_to opens seals n (past opens seals (xs ++ x ∷ []))) one
            ∙ (ap (λ zs. (through opens xs ++ zs) ++ up_to opens seals n (past opens seals (xs ++ x ∷ []))) two
            ∙ (ap (λ zs. (through opens xs ++ through seals (beyond opens xs)) ++ zs) (ap (up_to opens seals n) past_is ∙ next.up_to_is)
            ∙ (sym (append_assoc (through opens xs ++ through seals (beyond opens xs)) (past opens seals xs) (x ∷ []))
            ∙ ap (λ zs. zs ++ x ∷ []) (append_assoc (through opens xs) (through seals (beyond opens xs)) (past opens seals xs) ∙ parts))));
      }

  -- ---- one is

  pub record Goes (n : ℕ) (xs : List X) (x : X) : Type 0 where
    pub opened : is_opened opens seals n (xs ++ x ∷ []) ≡ true
    pub closed : is_closed opens seals n (xs ++ x ∷ []) ≡ seals x
    pub inside_is : inside opens seals n (xs ++ x ∷ []) ≡ inside opens seals n xs ++ x ∷ []
    pub up_to_is : up_to opens seals n (xs ++ x ∷ []) ≡ up_to opens seals n xs
    -- none is opened behind it
    pub behind : is_opened opens seals (suc n) (xs ++ x ∷ []) ≡ false

  pub going : (n : ℕ) (xs : List X) (x : X) → AreClosed n xs → is_opened opens seals n xs ≡ true → is_closed opens seals n xs ≡ false → Goes n xs x
  unfolding is_opened
  going zero xs x closed some shut =
      let rest = beyond-more opens xs (x ∷ []) some in
      record {
        opened = any-stays opens xs (x ∷ []) some;
        closed = ap (list_any seals) rest ∙ any-last seals (beyond opens xs) x shut;
        inside_is = ap (through seals) rest ∙ (through-last seals (beyond opens xs) x shut ∙ ap (λ zs. zs ++ x ∷ []) (sym (through-none seals (beyond opens xs) shut)));
        up_to_is = through-stays opens xs (x ∷ []) some;
        behind = ap (list_any opens) (ap (beyond seals) rest ∙ beyond-last seals (beyond opens xs) x shut);
      }
  going (suc n) xs x closed some shut =
      let first = first-closed n xs closed in
      let past_is = past-more xs (x ∷ []) first in
      let next = going n (past opens seals xs) x (others-closed n xs closed) some shut in
      let one = through-stays opens xs (x ∷ []) (opened-first xs first) in
      let two = ap (through seals) (beyond-more opens xs (x ∷ []) (opened-first xs first)) ∙ through-stays seals (beyond opens xs) (x ∷ []) first in
      record {
        opened = ap (is_opened opens seals n) past_is ∙ next.opened;
        closed = ap (is_closed opens seals n) past_is ∙ next.closed;
        inside_is = ap (inside opens seals n) past_is ∙ next.inside_is;
        up_to_is = ap (λ zs. (zs ++ through seals (beyond opens (xs ++ x ∷ []))) ++ up_to opens seals n (past opens seals (xs ++ x ∷ []))) one
            ∙ (ap (λ zs. (through opens xs ++ zs) ++ up_to opens seals n (past opens seals (xs ++ x ∷ []))) two
            ∙ ap (λ zs. (through opens xs ++ through seals (beyond opens xs)) ++ zs) (ap (up_to opens seals n) past_is ∙ next.up_to_is));
        behind = ap (is_opened opens seals (suc n)) past_is ∙ next.behind;
      }
