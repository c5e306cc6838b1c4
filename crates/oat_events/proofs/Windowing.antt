-- Windows of longer lists, and of lists that show the same.
use Rattle.std.proofs.Common.{◌≡◌, ℕ, zero, suc, Bool, true, false, cond, ◌||◌, List, [], ◌∷◌, ◌++◌, filter_map, Option, Some, None, option_and_then, refl, sym, ap, ◌∙◌, append_assoc}
use Rattle.std.specs.List.{list_any, cons_option}
use Rattle.std.proofs.lemmas.List.Elements.{filter_map-append}
use Rattle.oat_events.specs.Windows.{through, beyond, past, inside, up_to, is_closed, of_shown, Agrees}

-- ---- a list and what is behind it

any_at : (a b : Bool) → a ≡ true → (a || b) ≡ true
any_at true b h = refl
any_at false b h = absurd (cc)

any_more : {X : Type 0} (t : X → Bool) (xs ys : List X) → list_any t xs ≡ true → list_any t (xs ++ ys) ≡ true
any_more t [] ys h = absurd (cc)
any_more t (x ∷ xs) ys h = by (t x) (λ g. any_more t xs ys g) h where
  by : (b : Bool) → (list_any t xs ≡ true → list_any t (xs ++ ys) ≡ true) → (b || list_any t xs) ≡ true → (b || list_any t (xs ++ ys)) ≡ true
  by true rest g = refl
  by false rest g = rest g

through_more : {X : Type 0} (t : X → Bool) (xs ys : List X) → list_any t xs ≡ true → through t (xs ++ ys) ≡ through t xs
through_more t [] ys h = absurd (cc)
through_more {X} t (x ∷ xs) ys h = by (t x) (λ g. through_more t xs ys g) h where
  by : (b : Bool) → (list_any t xs ≡ true → through t (xs ++ ys) ≡ through t xs) → (b || list_any t xs) ≡ true → cond b (x ∷ []) (x ∷ through t (xs ++ ys)) ≡ cond b (x ∷ []) (x ∷ through t xs)
  by true rest g = refl
  by false rest g = ap (λ (zs : List X). x ∷ zs) (rest g)

beyond_more : {X : Type 0} (t : X → Bool) (xs ys : List X) → list_any t xs ≡ true → beyond t (xs ++ ys) ≡ beyond t xs ++ ys
beyond_more t [] ys h = absurd (cc)
beyond_more t (x ∷ xs) ys h = by (t x) (λ g. beyond_more t xs ys g) h where
  by : (b : Bool) → (list_any t xs ≡ true → beyond t (xs ++ ys) ≡ beyond t xs ++ ys) → (b || list_any t xs) ≡ true → cond b (xs ++ ys) (beyond t (xs ++ ys)) ≡ cond b xs (beyond t xs) ++ ys
  by true rest g = refl
  by false rest g = rest g

-- where none passes, nothing is beyond
pub beyond_none : {X : Type 0} (t : X → Bool) (xs : List X) → list_any t xs ≡ false → beyond t xs ≡ []
beyond_none t [] h = refl
beyond_none t (x ∷ xs) h = by (t x) (λ g. beyond_none t xs g) h where
  by : (b : Bool) → (list_any t xs ≡ false → beyond t xs ≡ []) → (b || list_any t xs) ≡ false → cond b xs (beyond t xs) ≡ []
  by true rest g = absurd (cc)
  by false rest g = rest g

pub closed_none : {X : Type 0} (opens seals : X → Bool) (s : ℕ) → is_closed opens seals s [] ≡ false
closed_none opens seals zero = refl
closed_none opens seals (suc s) = closed_none opens seals s

-- a window that is closed was opened
opened : {X : Type 0} (opens seals : X → Bool) (xs : List X) → list_any seals (beyond opens xs) ≡ true → list_any opens xs ≡ true
opened {X} opens seals xs h = by (list_any opens xs) refl where
  by : (b : Bool) → list_any opens xs ≡ b → b ≡ true
  by true is = refl
  by false is = absurd (let e : list_any seals (beyond opens xs) ≡ false = ap (list_any seals) (beyond_none opens xs is) in cc)

-- the windows before a closed one are closed
pub first_closed : {X : Type 0} (opens seals : X → Bool) (s : ℕ) (xs : List X) → is_closed opens seals s (past opens seals xs) ≡ true → list_any seals (beyond opens xs) ≡ true
first_closed {X} opens seals s xs h = by (list_any seals (beyond opens xs)) refl where
  by : (b : Bool) → list_any seals (beyond opens xs) ≡ b → b ≡ true
  by true is = refl
  by false is = absurd (let e : is_closed opens seals s (past opens seals xs) ≡ false = ap (is_closed opens seals s) (beyond_none seals (beyond opens xs) is) ∙ closed_none opens seals s in cc)

past_more : {X : Type 0} (opens seals : X → Bool) (xs ys : List X) → list_any seals (beyond opens xs) ≡ true → past opens seals (xs ++ ys) ≡ past opens seals xs ++ ys
past_more opens seals xs ys h =
    ap (beyond seals) (beyond_more opens xs ys (opened opens seals xs h)) ∙ beyond_more seals (beyond opens xs) ys h

window_more : {X : Type 0} (opens seals : X → Bool) (xs ys : List X) → list_any seals (beyond opens xs) ≡ true → through seals (beyond opens (xs ++ ys)) ≡ through seals (beyond opens xs)
window_more opens seals xs ys h =
    ap (through seals) (beyond_more opens xs ys (opened opens seals xs h)) ∙ through_more seals (beyond opens xs) ys h

pub closed_more : {X : Type 0} (opens seals : X → Bool) (s : ℕ) (xs ys : List X) → is_closed opens seals s xs ≡ true → is_closed opens seals s (xs ++ ys) ≡ true
closed_more opens seals zero xs ys h =
    ap (list_any seals) (beyond_more opens xs ys (opened opens seals xs h)) ∙ any_more seals (beyond opens xs) ys h
closed_more opens seals (suc s) xs ys h =
    ap (is_closed opens seals s) (past_more opens seals xs ys (first_closed opens seals s xs h)) ∙ closed_more opens seals s (past opens seals xs) ys h

pub inside_more : {X : Type 0} (opens seals : X → Bool) (s : ℕ) (xs ys : List X) → is_closed opens seals s xs ≡ true → inside opens seals s (xs ++ ys) ≡ inside opens seals s xs
inside_more opens seals zero xs ys h = window_more opens seals xs ys h
inside_more opens seals (suc s) xs ys h =
    ap (inside opens seals s) (past_more opens seals xs ys (first_closed opens seals s xs h)) ∙ inside_more opens seals s (past opens seals xs) ys h

pub up_to_more : {X : Type 0} (opens seals : X → Bool) (s : ℕ) (xs ys : List X) → is_closed opens seals s xs ≡ true → up_to opens seals s (xs ++ ys) ≡ up_to opens seals s xs
up_to_more opens seals zero xs ys h = through_more opens xs ys (opened opens seals xs h)
up_to_more {X} opens seals (suc s) xs ys h =
    let first = first_closed opens seals s xs h in
    ap (λ (a : List X). (a ++ through seals (beyond opens (xs ++ ys))) ++ up_to opens seals s (past opens seals (xs ++ ys))) (through_more opens xs ys (opened opens seals xs first))
    ∙ ap (λ (a : List X). (through opens xs ++ a) ++ up_to opens seals s (past opens seals (xs ++ ys))) (window_more opens seals xs ys first)
    ∙ ap (λ (a : List X). (through opens xs ++ through seals (beyond opens xs)) ++ a)
    (ap (up_to opens seals s) (past_more opens seals xs ys first) ∙ up_to_more opens seals s (past opens seals xs) ys h)

-- ---- a window and what is around it

split_at : {X : Type 0} (t : X → Bool) (xs : List X) → through t xs ++ beyond t xs ≡ xs
split_at t [] = refl
split_at {X} t (x ∷ xs) = by (t x) (split_at t xs) where
  by : (b : Bool) → through t xs ++ beyond t xs ≡ xs → cond b (x ∷ []) (x ∷ through t xs) ++ cond b xs (beyond t xs) ≡ x ∷ xs
  by true rest = refl
  by false rest = ap (λ (zs : List X). x ∷ zs) rest

pub record Around {X : Type 0} (opens seals : X → Bool) (s : ℕ) (xs : List X) : Type 0 where
  pub rest : List X
  pub whole : (up_to opens seals s xs ++ inside opens seals s xs) ++ rest ≡ xs

pub around : {X : Type 0} (opens seals : X → Bool) (s : ℕ) (xs : List X) → Around opens seals s xs
around {X} opens seals zero xs = record {
  rest = past opens seals xs;
  whole = append_assoc (through opens xs) (through seals (beyond opens xs)) (past opens seals xs)
      ∙ ap (λ (a : List X). through opens xs ++ a) (split_at seals (beyond opens xs)) ∙ split_at opens xs;
}
around {X} opens seals (suc s) xs =
    let w = around opens seals s (past opens seals xs) in
    let first = through opens xs ++ through seals (beyond opens xs) in
    let one : first ++ past opens seals xs ≡ xs =
    append_assoc (through opens xs) (through seals (beyond opens xs)) (past opens seals xs)
    ∙ ap (λ (a : List X). through opens xs ++ a) (split_at seals (beyond opens xs)) ∙ split_at opens xs in
    record {
      rest = w.rest;
      whole = ap (λ (a : List X). a ++ w.rest) (append_assoc first (up_to opens seals s (past opens seals xs)) (inside opens seals s (past opens seals xs)))
          ∙ append_assoc first (up_to opens seals s (past opens seals xs) ++ inside opens seals s (past opens seals xs)) w.rest
          ∙ ap (λ (a : List X). first ++ a) w.whole ∙ one;
    }

-- ---- a list and what it shows

any_shown : {X Y : Type 0} (f : X → Option Y) (t : X → Bool) (u : Y → Bool) → Agrees f t u → (xs : List X) → list_any u (filter_map f xs) ≡ list_any t xs
any_shown f t u agrees [] = refl
any_shown {X} {Y} f t u agrees (x ∷ xs) =
    by (f x) (any_shown f t u agrees xs) ∙ ap (λ (b : Bool). b || list_any t xs) (sym (agrees x)) where
      by : (o : Option Y) → list_any u (filter_map f xs) ≡ list_any t xs → list_any u (cons_option o (filter_map f xs)) ≡ (of_shown u o || list_any t xs)
      by None rest = rest
      by (Some y) rest = ap (λ (b : Bool). u y || b) rest

through_shown : {X Y : Type 0} (f : X → Option Y) (t : X → Bool) (u : Y → Bool) → Agrees f t u → (xs : List X) → through u (filter_map f xs) ≡ filter_map f (through t xs)
through_shown f t u agrees [] = refl
through_shown {X} {Y} f t u agrees (x ∷ xs) = by (f x) (t x) (through_shown f t u agrees xs) refl (agrees x) where
  by : (o : Option Y) (b : Bool) → through u (filter_map f xs) ≡ filter_map f (through t xs) → f x ≡ o → b ≡ of_shown u o → through u (cons_option o (filter_map f xs)) ≡ filter_map f (cond b (x ∷ []) (x ∷ through t xs))
  by None true rest is same = absurd (cc)
  by None false rest is same = rest ∙ ap (λ (o : Option Y). cons_option o (filter_map f (through t xs))) (sym is)
  by (Some y) true rest is same =
      ap (λ (b : Bool). cond b (y ∷ []) (y ∷ through u (filter_map f xs))) (sym same) ∙ ap (λ (o : Option Y). cons_option o []) (sym is)
  by (Some y) false rest is same =
      ap (λ (b : Bool). cond b (y ∷ []) (y ∷ through u (filter_map f xs))) (sym same)
      ∙ ap (λ (zs : List Y). y ∷ zs) rest ∙ ap (λ (o : Option Y). cons_option o (filter_map f (through t xs))) (sym is)

beyond_shown : {X Y : Type 0} (f : X → Option Y) (t : X → Bool) (u : Y → Bool) → Agrees f t u → (xs : List X) → beyond u (filter_map f xs) ≡ filter_map f (beyond t xs)
beyond_shown f t u agrees [] = refl
beyond_shown {X} {Y} f t u agrees (x ∷ xs) = by (f x) (t x) (beyond_shown f t u agrees xs) (agrees x) where
  by : (o : Option Y) (b : Bool) → beyond u (filter_map f xs) ≡ filter_map f (beyond t xs) → b ≡ of_shown u o → beyond u (cons_option o (filter_map f xs)) ≡ filter_map f (cond b xs (beyond t xs))
  by None true rest same = absurd (cc)
  by None false rest same = rest
  by (Some y) true rest same = ap (λ (b : Bool). cond b (filter_map f xs) (beyond u (filter_map f xs))) (sym same)
  by (Some y) false rest same = ap (λ (b : Bool). cond b (filter_map f xs) (beyond u (filter_map f xs))) (sym same) ∙ rest

module _ {X Y : Type 0} (f : X → Option Y) (opens seals : X → Bool) (opens_y seals_y : Y → Bool) (one : Agrees f opens opens_y) (two : Agrees f seals seals_y) where
  past_shown : (xs : List X) → past opens_y seals_y (filter_map f xs) ≡ filter_map f (past opens seals xs)
  past_shown xs = ap (beyond seals_y) (beyond_shown f opens opens_y one xs) ∙ beyond_shown f seals seals_y two (beyond opens xs)

  window_shown : (xs : List X) → through seals_y (beyond opens_y (filter_map f xs)) ≡ filter_map f (through seals (beyond opens xs))
  window_shown xs = ap (through seals_y) (beyond_shown f opens opens_y one xs) ∙ through_shown f seals seals_y two (beyond opens xs)

  pub closed_shown : (s : ℕ) (xs : List X) → is_closed opens_y seals_y s (filter_map f xs) ≡ is_closed opens seals s xs
  closed_shown zero xs = ap (list_any seals_y) (beyond_shown f opens opens_y one xs) ∙ any_shown f seals seals_y two (beyond opens xs)
  closed_shown (suc s) xs = ap (is_closed opens_y seals_y s) (past_shown xs) ∙ closed_shown s (past opens seals xs)

  pub inside_shown : (s : ℕ) (xs : List X) → inside opens_y seals_y s (filter_map f xs) ≡ filter_map f (inside opens seals s xs)
  inside_shown zero xs = window_shown xs
  inside_shown (suc s) xs = ap (inside opens_y seals_y s) (past_shown xs) ∙ inside_shown s (past opens seals xs)

  pub up_to_shown : (s : ℕ) (xs : List X) → up_to opens_y seals_y s (filter_map f xs) ≡ filter_map f (up_to opens seals s xs)
  up_to_shown zero xs = through_shown f opens opens_y one xs
  up_to_shown (suc s) xs =
      ap (λ (a : List Y). (a ++ through seals_y (beyond opens_y (filter_map f xs))) ++ up_to opens_y seals_y s (past opens_y seals_y (filter_map f xs))) (through_shown f opens opens_y one xs)
      ∙ ap (λ (a : List Y). (filter_map f (through opens xs) ++ a) ++ up_to opens_y seals_y s (past opens_y seals_y (filter_map f xs))) (window_shown xs)
      ∙ ap (λ (a : List Y). (filter_map f (through opens xs) ++ filter_map f (through seals (beyond opens xs))) ++ a)
      (ap (up_to opens_y seals_y s) (past_shown xs) ∙ up_to_shown s (past opens seals xs))
      ∙ ap (λ (a : List Y). a ++ filter_map f (up_to opens seals s (past opens seals xs))) (sym (filter_map-append f (through opens xs) (through seals (beyond opens xs))))
      ∙ sym (filter_map-append f (through opens xs ++ through seals (beyond opens xs)) (up_to opens seals s (past opens seals xs)))

-- ---- what is shown of what is shown

pub shown_twice : {X Y Z : Type 0} (f : X → Option Y) (g : Y → Option Z) (h : X → Option Z) → ((x : X) → h x ≡ option_and_then g (f x)) → (xs : List X) → filter_map h xs ≡ filter_map g (filter_map f xs)
shown_twice f g h same [] = refl
shown_twice {X} {Y} {Z} f g h same (x ∷ xs) =
    ap (λ (o : Option Z). cons_option o (filter_map h xs)) (same x) ∙ ap (cons_option (option_and_then g (f x))) (shown_twice f g h same xs) ∙ by (f x) where
      by : (o : Option Y) → cons_option (option_and_then g o) (filter_map g (filter_map f xs)) ≡ filter_map g (cons_option o (filter_map f xs))
      by None = refl
      by (Some y) = refl
