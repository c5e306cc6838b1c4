-- The windows that have closed are those of the whole list.
use Rattle.std.proofs.Common.{◌≡◌, ◌+◌, ◌<◌, ℕ, zero, suc, Bool, true, false, cond, ◌||◌, List, [], ◌∷◌, ◌++◌, length, Option, Some, None, refl, sym, ap, ◌∙◌, inl, inr, arith, length-append}
use Rattle.std.proofs.Common.{append_assoc}
use Rattle.std.specs.{Prelude.slice_get, List.fold, List.list_any}
use Rattle.std.proofs.lemmas.Bool.{cases_Bool}
use Rattle.oat_events.specs.{Cuts.Cut, Cuts.cut_up, Cuts.takes_up, Windows.beyond, Windows.inside, Windows.is_closed, Windows.through}

abbrev at : {X : Type 0} → List (List X) → Option (List X) → Cut X
at closed going = record { closed = closed; going = going }

-- window s, if it has closed
abbrev window : {X : Type 0} → (X → Bool) → (X → Bool) → ℕ → List X → Option (List X)
window opens seals s xs = cond (is_closed opens seals s xs) (Some (inside opens seals s xs)) None

-- the same where one is open, with some items
abbrev going_window : {X : Type 0} → (X → Bool) → (X → Bool) → List X → ℕ → List X → Option (List X)
going_window opens seals ys zero xs = cond (list_any seals xs) (Some (ys ++ through seals xs)) None
going_window opens seals ys (suc s) xs = window opens seals s (beyond seals xs)

slice_get-push : {X : Type 0} (xs : List X) (x : X) → slice_get (xs ++ x ∷ []) (length xs) ≡ Some x
slice_get-push [] x = refl
slice_get-push (y ∷ xs) x = slice_get-push xs x

slice_get-before : {X : Type 0} (xs ys : List X) (i : ℕ) → i < length xs → slice_get (xs ++ ys) i ≡ slice_get xs i
slice_get-before [] ys i l = absurd (omega arith)
slice_get-before (x ∷ xs) ys zero l = refl
slice_get-before (x ∷ xs) ys (suc i) l = slice_get-before xs ys i (omega arith)

slice_get-end : {X : Type 0} (xs : List X) (s : ℕ) → slice_get xs (length xs + s) ≡ None
slice_get-end [] s = refl
slice_get-end (x ∷ xs) s = ap (slice_get (x ∷ xs)) (more (length xs) s) ∙ slice_get-end xs s where
  more : (n s : ℕ) → suc n + s ≡ suc (n + s)
  more n s = omega arith

-- those that have closed stay
kept : {X : Type 0} (opens seals : X → Bool) (xs : List X) (closed : List (List X)) (going : Option (List X)) (i : ℕ) → i < length closed
    → slice_get (fold (takes_up opens seals) (at closed going) xs).closed i ≡ slice_get closed i
kept opens seals [] closed going i l = refl
kept opens seals (x ∷ xs) closed None i l = kept opens seals xs closed (cond (opens x) (Some []) None) i l
kept opens seals (x ∷ xs) closed (Some ys) i l = elim (cases_Bool (seals x)) [
  | inl hit ↦
      let more : length (closed ++ (ys ++ x ∷ []) ∷ []) ≡ length closed + 1 = length-append closed ((ys ++ x ∷ []) ∷ []) in
      ap (λ b. slice_get (fold (takes_up opens seals) (cond b (at (closed ++ (ys ++ x ∷ []) ∷ []) None) (at closed (Some (ys ++ x ∷ [])))) xs).closed i) hit
      ∙ kept opens seals xs (closed ++ (ys ++ x ∷ []) ∷ []) None i (omega arith) ∙ slice_get-before closed ((ys ++ x ∷ []) ∷ []) i l
  | inr off ↦
      ap (λ b. slice_get (fold (takes_up opens seals) (cond b (at (closed ++ (ys ++ x ∷ []) ∷ []) None) (at closed (Some (ys ++ x ∷ [])))) xs).closed i) off
      ∙ kept opens seals xs closed (Some (ys ++ x ∷ [])) i l
]

never : {X : Type 0} (opens seals : X → Bool) (s : ℕ) → window opens seals s [] ≡ None
never opens seals zero = refl
never opens seals (suc s) = never opens seals s

-- what window s is, where this one is open
abbrev expected : {X : Type 0} → (X → Bool) → (X → Bool) → Option (List X) → ℕ → List X → Option (List X)
expected opens seals None s xs = window opens seals s xs
expected opens seals (Some ys) s xs = going_window opens seals ys s xs

window-opens : {X : Type 0} (opens seals : X → Bool) (x : X) (xs : List X) (s : ℕ) → opens x ≡ true → window opens seals s (x ∷ xs) ≡ going_window opens seals [] s xs
window-opens opens seals x xs zero h = ap (λ b. cond (list_any seals (cond b xs (beyond opens xs))) (Some (through seals (cond b xs (beyond opens xs)))) None) h
window-opens opens seals x xs (suc s) h = ap (λ b. window opens seals s (beyond seals (cond b xs (beyond opens xs)))) h

window-skips : {X : Type 0} (opens seals : X → Bool) (x : X) (xs : List X) (s : ℕ) → opens x ≡ false → window opens seals s (x ∷ xs) ≡ window opens seals s xs
window-skips opens seals x xs zero h = ap (λ b. cond (list_any seals (cond b xs (beyond opens xs))) (Some (through seals (cond b xs (beyond opens xs)))) None) h
window-skips opens seals x xs (suc s) h = ap (λ b. window opens seals s (beyond seals (cond b xs (beyond opens xs)))) h

going-on : {X : Type 0} (opens seals : X → Bool) (ys : List X) (x : X) (xs : List X) (s : ℕ) → seals x ≡ false → going_window opens seals ys s (x ∷ xs) ≡ going_window opens seals (ys ++ x ∷ []) s xs
going-on opens seals ys x xs zero h =
    ap (λ b. cond (b || list_any seals xs) (Some (ys ++ cond b (x ∷ []) (x ∷ through seals xs))) None) h
    ∙ ap (λ zs. cond (list_any seals xs) (Some zs) None) (sym (append_assoc ys (x ∷ []) (through seals xs)))
going-on opens seals ys x xs (suc s) h = ap (λ b. window opens seals s (cond b xs (beyond seals xs))) h

cuts : {X : Type 0} (opens seals : X → Bool) (xs : List X) (closed : List (List X)) (going : Option (List X)) (s : ℕ)
    → slice_get (fold (takes_up opens seals) (at closed going) xs).closed (length closed + s) ≡ expected opens seals going s xs
cuts opens seals [] closed None s = slice_get-end closed s ∙ sym (never opens seals s)
cuts opens seals [] closed (Some ys) zero = slice_get-end closed zero
cuts opens seals [] closed (Some ys) (suc s) = slice_get-end closed (suc s) ∙ sym (never opens seals s)
cuts opens seals (x ∷ xs) closed None s = elim (cases_Bool (opens x)) [
  | inl hit ↦
      ap (λ b. slice_get (fold (takes_up opens seals) (at closed (cond b (Some []) None)) xs).closed (length closed + s)) hit
      ∙ cuts opens seals xs closed (Some []) s ∙ sym (window-opens opens seals x xs s hit)
  | inr off ↦
      ap (λ b. slice_get (fold (takes_up opens seals) (at closed (cond b (Some []) None)) xs).closed (length closed + s)) off
      ∙ cuts opens seals xs closed None s ∙ sym (window-skips opens seals x xs s off)
]
cuts {X} opens seals (x ∷ xs) closed (Some ys) s = elim (cases_Bool (seals x)) [
  | inl hit ↦
      ap (λ b. slice_get (fold (takes_up opens seals) (cond b (at (closed ++ (ys ++ x ∷ []) ∷ []) None) (at closed (Some (ys ++ x ∷ [])))) xs).closed (length closed + s)) hit
      ∙ shut hit s (λ t. cuts opens seals xs (closed ++ (ys ++ x ∷ []) ∷ []) None t)
  | inr off ↦
      ap (λ b. slice_get (fold (takes_up opens seals) (cond b (at (closed ++ (ys ++ x ∷ []) ∷ []) None) (at closed (Some (ys ++ x ∷ [])))) xs).closed (length closed + s)) off
      ∙ cuts opens seals xs closed (Some (ys ++ x ∷ [])) s ∙ sym (going-on opens seals ys x xs s off)
] where
  more : List (List X)
  more = closed ++ (ys ++ x ∷ []) ∷ []

  long : length more ≡ length closed + 1
  long = length-append closed ((ys ++ x ∷ []) ∷ [])

  shut : seals x ≡ true → (s : ℕ) → ((t : ℕ) → slice_get (fold (takes_up opens seals) (at more None) xs).closed (length more + t) ≡ window opens seals t xs)
      → slice_get (fold (takes_up opens seals) (at more None) xs).closed (length closed + s) ≡ going_window opens seals ys s (x ∷ xs)
  shut hit zero rest =
      kept opens seals xs more None (length closed + 0) (let e : length more ≡ length closed + 1 = long in omega arith)
      ∙ ap (slice_get more) (zero-more (length closed)) ∙ slice_get-push closed (ys ++ x ∷ [])
      ∙ sym (ap (λ b. cond (b || list_any seals xs) (Some (ys ++ cond b (x ∷ []) (x ∷ through seals xs))) None) hit) where
        zero-more : (n : ℕ) → n + 0 ≡ n
        zero-more n = omega arith
  shut hit (suc s) rest =
      ap (slice_get (fold (takes_up opens seals) (at more None) xs).closed) (let e : length more ≡ length closed + 1 = long in omega arith)
      ∙ rest s ∙ sym (ap (λ b. window opens seals s (cond b xs (beyond seals xs))) hit)

-- window s of the cut_up is window s of the list
pub cut_windows : {X : Type 0} (opens seals : X → Bool) (xs : List X) (s : ℕ) → slice_get (cut_up opens seals xs).closed s ≡ cond (is_closed opens seals s xs) (Some (inside opens seals s xs)) None
cut_windows opens seals xs s = ap (slice_get (cut_up opens seals xs).closed) (none s) ∙ cuts opens seals xs [] None s where
  none : (s : ℕ) → s ≡ 0 + s
  none s = omega arith
