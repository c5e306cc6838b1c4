-- What is found among the keys of a table is found among its things.
use Rattle.std.proofs.Common.{◌≡◌, ℕ, ◌+◌, ◌-◌, ◌^◌, ◌<◌, Bool, false, not, cond, ◌||◌, List, [], ◌∷◌, ◌++◌, length, map, Vec, Global, refl, sym, ap, ◌∙◌, arith}
use Rattle.std.specs.{Prelude.position, Prelude.if◌then◌else◌, Prelude.bytes_eq, List.list_any, List.prefix_len}
use Rattle.std.proofs.lemmas.List.{map-append, length-map, length-append}

pub any_mapped : {X Y : Type 0} (p : Y → Bool) (f : X → Y) (xs : List X) → list_any (λ x. p (f x)) xs ≡ list_any p (map f xs)
any_mapped p f [] = refl
any_mapped p f (x ∷ xs) = ap (λ b. p (f x) || b) (any_mapped p f xs)

prefix_mapped : {X Y : Type 0} (p : Y → Bool) (f : X → Y) (xs : List X) → prefix_len (λ x. p (f x)) xs ≡ prefix_len p (map f xs)
prefix_mapped p f [] = refl
prefix_mapped p f (x ∷ xs) = ap (λ n. cond (p (f x)) (1 + n) 0) (prefix_mapped p f xs)

pub place_mapped : {X Y : Type 0} (p : Y → Bool) (f : X → Y) (xs : List X) → position (λ x. p (f x)) xs ≡ position p (map f xs)
place_mapped p f xs =
    rw (prefix_mapped (λ y. not (p y)) f xs, length-map xs f) refl

module _ {X : Type 0} (called : X → List ℕ) (keys : List (Vec ℕ Global)) (items : List X) (same : map (λ k. k.items) keys ≡ map called items) where
  pub any_named : (name : List ℕ) → list_any (λ k. bytes_eq name k.items) keys ≡ list_any (λ x. bytes_eq name (called x)) items
  any_named name =
      any_mapped (bytes_eq name) (λ (k : Vec ℕ Global). k.items) keys ∙ ap (list_any (bytes_eq name)) same
      ∙ sym (any_mapped (bytes_eq name) called items)

  pub place_named : (name : List ℕ) → position (λ k. bytes_eq name k.items) keys ≡ position (λ x. bytes_eq name (called x)) items
  place_named name =
      place_mapped (bytes_eq name) (λ (k : Vec ℕ Global). k.items) keys ∙ ap (position (bytes_eq name)) same
      ∙ sym (place_mapped (bytes_eq name) called items)

  -- with one more key, which is new
  pub grown : (key : Vec ℕ Global) (item : X) (after : List (Vec ℕ Global)) → key.items ≡ called item
      → list_any (λ x. bytes_eq (called item) (called x)) items ≡ false
      → after ≡ (if list_any (λ k. bytes_eq key.items k.items) keys then keys else keys ++ key ∷ [])
      → map (λ k. k.items) after ≡ map called (items ++ item ∷ [])
  grown key item after is new put =
      let none : list_any (λ k. bytes_eq key.items k.items) keys ≡ false = any_named key.items ∙ rw is new in
      let appended : after ≡ keys ++ key ∷ [] = put ∙ rw none refl in
      rw (appended, map-append, map-append, same, is) refl

pub has_room : {X : Type 0} (before after : List X) (item : X) → after ≡ before ++ item ∷ [] → length before < 2 ^ 32 - 1 → length after < 2 ^ 32
has_room before after item pushed room = rw (pushed, length-append) (omega arith)
