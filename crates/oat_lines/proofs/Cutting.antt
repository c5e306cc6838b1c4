-- Cutting a text at a byte, and a line into its words.
use Rattle.std.proofs.Common.{◌≡◌, ℕ, zero, suc, ◌+◌, ◌-◌, ◌<◌, ◌≤◌, Bool, true, false, ◌&&◌, eqb, ltb, List, [], ◌∷◌, ◌++◌, length, get_or, take, drop, Option, Some, None, refl, sym, ap, subst, ◌∙◌}
use Rattle.std.proofs.Common.{arith, add-one}
use Rattle.std.specs.{Prelude.if◌then◌else◌, Prelude.option_map, Prelude.option_and_then, Prelude.is_none, List.list_all}
use Rattle.std.proofs.lemmas.{List.take_all, List.length-drop, List.Folds.list_all-append, Bool.and_parts, Bool.eqb-true, Bool.eq-eqb, Bool.ne_eqb, Bool.ltb-true, Bool.lt-ltb}
use Rattle.oat_lines.specs.Fields.{cut, one_field, field_and_rest, two_fields, three_fields, four_fields, spaced, is_visible, IsField}
use Rattle.oat_lines.proofs.Steps.{chosen, some_is}

-- the value of a step that gave one
pub then_some : {A B : Type 0} (o : Option A) (f : A → Option B) (y : B) → option_and_then f o ≡ Some y → (x : A) × (o ≡ Some x) × (f x ≡ Some y)
then_some None f y e = absurd cc
then_some (Some x) f y e = (x, refl, e)

pub map_some : {A B : Type 0} (o : Option A) (f : A → B) (y : B) → option_map f o ≡ Some y → (x : A) × (o ≡ Some x) × (f x ≡ y)
map_some None f y e = absurd cc
map_some (Some x) f y e = (x, refl, some_is (f x) y e)

-- ---- by the places in the text, as code finds the byte

pub cut_none : (byte : ℕ) (text : List ℕ) → ((k : ℕ) → k < length text → get_or text k 0 ≡ byte → ⊥) → cut byte text ≡ None
unfolding cut
cut_none byte [] free = refl
cut_none byte (b ∷ bs) free =
    let here : eqb b byte ≡ false = ne_eqb b byte (λ e. free 0 (omega arith) e) in
    rw (here, cut_none byte bs (λ k lt. free (suc k) (omega arith))) refl

pub cut_found : (byte : ℕ) (text : List ℕ) (i : ℕ) → i < length text → get_or text i 0 ≡ byte → ((k : ℕ) → k < i → get_or text k 0 ≡ byte → ⊥)
    → cut byte text ≡ Some (take i text, drop (suc i) text)
unfolding cut
cut_found byte [] i lt e free = absurd (omega arith)
cut_found byte (b ∷ bs) zero lt e free = rw (eq-eqb b byte e) refl
cut_found byte (b ∷ bs) (suc i) lt e free =
    let here : eqb b byte ≡ false = ne_eqb b byte (λ e. free 0 (omega arith) e) in
    rw (here, cut_found byte bs i (omega arith) e (λ k less. free (suc k) (omega arith))) refl

-- as the code takes the rest
pub cut_is : (byte : ℕ) (text : List ℕ) (i : ℕ) → i < length text → get_or text i 0 ≡ byte → ((k : ℕ) → k < i → get_or text k 0 ≡ byte → ⊥)
    → Some (take i text, take (length text - (i + 1)) (drop (i + 1) text)) ≡ cut byte text
cut_is byte text i lt e free =
    let short : length (drop (i + 1) text) ≤ length text - (i + 1) = omega (arith, length-drop (i + 1) text) in
    rw (take_all (length text - (i + 1)) (drop (i + 1) text) short, add-one i) (sym (cut_found byte text i lt e free))

-- ---- what is cut and what is joined

cut_step : (byte b : ℕ) (bs : List ℕ) (p : List ℕ × List ℕ) → ((q : List ℕ × List ℕ) → cut byte bs ≡ Some q → bs ≡ q.0 ++ byte ∷ q.1) → (t : Bool) → eqb b byte ≡ t
    → (if t then Some ([], bs) else option_map (λ q. (b ∷ q.0, q.1)) (cut byte bs)) ≡ Some p → b ∷ bs ≡ p.0 ++ byte ∷ p.1
cut_step byte b bs p later true f e = subst (λ (r : List ℕ × List ℕ). b ∷ bs ≡ r.0 ++ byte ∷ r.1) (some_is ([], bs) p e) (ap (λ c. c ∷ bs) (eqb-true b byte f))
cut_step byte b bs p later false f e =
    let a = map_some (cut byte bs) (λ q. (b ∷ q.0, q.1)) p e in
    subst (λ (r : List ℕ × List ℕ). b ∷ bs ≡ r.0 ++ byte ∷ r.1) a.2 (ap (λ (t : List ℕ). b ∷ t) (later a.0 a.1))

pub cut_takes : (byte : ℕ) (text : List ℕ) (p : List ℕ × List ℕ) → cut byte text ≡ Some p → text ≡ p.0 ++ byte ∷ p.1
unfolding cut
cut_takes byte [] p e = absurd cc
cut_takes byte (b ∷ bs) p e = cut_step byte b bs p (λ q f. cut_takes byte bs q f) (eqb b byte) refl e

pub cut_again : (byte : ℕ) (front rest : List ℕ) → list_all (λ b. ltb byte b) front ≡ true → cut byte (front ++ byte ∷ rest) ≡ Some (front, rest)
unfolding cut
cut_again byte [] rest all = rw (eq-eqb byte byte refl) refl
cut_again byte (b ∷ bs) rest all =
    let p = and_parts (ltb byte b) (list_all (λ b. ltb byte b) bs) all in
    let above : byte < b = ltb-true byte b p.0 in
    rw (ne_eqb b byte (λ e. omega arith), cut_again byte bs rest p.1) refl

pub cut_lacks : (byte : ℕ) (text : List ℕ) → list_all (λ b. ltb byte b) text ≡ true → cut byte text ≡ None
unfolding cut
cut_lacks byte [] all = refl
cut_lacks byte (b ∷ bs) all =
    let p = and_parts (ltb byte b) (list_all (λ b. ltb byte b) bs) all in
    let above : byte < b = ltb-true byte b p.0 in
    rw (ne_eqb b byte (λ e. omega arith), cut_lacks byte bs p.1) refl

-- ---- words

pub one_takes : (line word : List ℕ) → one_field line ≡ Some word → line ≡ word
one_takes line word e = (chosen (ltb 0 (length line) && is_none (cut 32 line)) line word e).1

pub field_takes : (line : List ℕ) (p : List ℕ × List ℕ) → field_and_rest line ≡ Some p → line ≡ p.0 ++ 32 ∷ p.1
field_takes line p e =
    let a = then_some (cut 32 line) (λ q. if ltb 0 (length q.0) then Some q else None) p e in
    let b = chosen (ltb 0 (length a.0.0)) a.0 p a.2 in
    subst (λ (q : List ℕ × List ℕ). line ≡ q.0 ++ 32 ∷ q.1) b.1 (cut_takes 32 line a.0 a.1)

pub two_take : (line : List ℕ) (p : List ℕ × List ℕ) → two_fields line ≡ Some p → line ≡ spaced (p.0 ∷ p.1 ∷ [])
two_take line p e =
    let a = then_some (field_and_rest line) (λ q. option_map (λ b. (q.0, b)) (one_field q.1)) p e in
    let b = map_some (one_field a.0.1) (λ w. (a.0.0, w)) p a.2 in
    subst (λ (q : List ℕ × List ℕ). line ≡ spaced (q.0 ∷ q.1 ∷ [])) b.2
    (field_takes line a.0 a.1 ∙ ap (λ (t : List ℕ). a.0.0 ++ 32 ∷ t) (one_takes a.0.1 b.0 b.1))

pub three_take : (line : List ℕ) (p : List ℕ × List ℕ × List ℕ) → three_fields line ≡ Some p → line ≡ spaced (p.0 ∷ p.1 ∷ p.2 ∷ [])
three_take line p e =
    let a = then_some (field_and_rest line) (λ q. option_map (λ r. (q.0, r.0, r.1)) (two_fields q.1)) p e in
    let b = map_some (two_fields a.0.1) (λ r. (a.0.0, r.0, r.1)) p a.2 in
    subst (λ (q : List ℕ × List ℕ × List ℕ). line ≡ spaced (q.0 ∷ q.1 ∷ q.2 ∷ [])) b.2
    (field_takes line a.0 a.1 ∙ ap (λ (t : List ℕ). a.0.0 ++ 32 ∷ t) (two_take a.0.1 b.0 b.1))

pub four_take : (line : List ℕ) (p : List ℕ × List ℕ × List ℕ × List ℕ) → four_fields line ≡ Some p → line ≡ spaced (p.0 ∷ p.1 ∷ p.2 ∷ p.3 ∷ [])
four_take line p e =
    let a = then_some (field_and_rest line) (λ q. option_map (λ r. (q.0, r.0, r.1, r.2)) (three_fields q.1)) p e in
    let b = map_some (three_fields a.0.1) (λ r. (a.0.0, r.0, r.1, r.2)) p a.2 in
    subst (λ (q : List ℕ × List ℕ × List ℕ × List ℕ). line ≡ spaced (q.0 ∷ q.1 ∷ q.2 ∷ q.3 ∷ [])) b.2
    (field_takes line a.0 a.1 ∙ ap (λ (t : List ℕ). a.0.0 ++ 32 ∷ t) (three_take a.0.1 b.0 b.1))

pub one_again : (word : List ℕ) → IsField word → one_field word ≡ Some word
one_again word f = rw (lt-ltb 0 (length word) f.nonempty, cut_lacks 32 word f.visible) refl

pub field_again : (word rest : List ℕ) → IsField word → field_and_rest (word ++ 32 ∷ rest) ≡ Some (word, rest)
field_again word rest f = rw (cut_again 32 word rest f.visible, lt-ltb 0 (length word) f.nonempty) refl

pub two_again : (a b : List ℕ) → IsField a → IsField b → two_fields (spaced (a ∷ b ∷ [])) ≡ Some (a, b)
two_again a b fa fb = rw (field_again a b fa, one_again b fb) refl

pub three_again : (a b c : List ℕ) → IsField a → IsField b → IsField c → three_fields (spaced (a ∷ b ∷ c ∷ [])) ≡ Some (a, b, c)
three_again a b c fa fb fc = rw (field_again a (b ++ 32 ∷ c) fa, two_again b c fb fc) refl

pub four_again : (a b c d : List ℕ) → IsField a → IsField b → IsField c → IsField d → four_fields (spaced (a ∷ b ∷ c ∷ d ∷ [])) ≡ Some (a, b, c, d)
four_again a b c d fa fb fc fd = rw (field_again a (b ++ 32 ∷ (c ++ 32 ∷ d)) fa, three_again b c d fb fc fd) refl

-- ---- lines

-- no byte of it ends a line
abbrev pub is_within_line : ℕ → Bool
is_within_line b = ltb 10 b

visible_within : (word : List ℕ) → list_all is_visible word ≡ true → list_all is_within_line word ≡ true
visible_within [] all = refl
visible_within (b ∷ bs) all =
    let p = and_parts (is_visible b) (list_all is_visible bs) all in
    let above : 32 < b = ltb-true 32 b p.0 in
    rw (lt-ltb 10 b (omega arith), visible_within bs p.1) refl

pub within_spaced : (word rest : List ℕ) → IsField word → list_all is_within_line rest ≡ true → list_all is_within_line (word ++ 32 ∷ rest) ≡ true
within_spaced word rest f all = rw (list_all-append is_within_line word (32 ∷ rest), visible_within word f.visible, all) refl

pub within_field : (word : List ℕ) → IsField word → list_all is_within_line word ≡ true
within_field word f = visible_within word f.visible

pub two_within : (a b : List ℕ) → IsField a → IsField b → list_all is_within_line (spaced (a ∷ b ∷ [])) ≡ true
two_within a b fa fb = within_spaced a b fa (within_field b fb)

pub three_within : (a b c : List ℕ) → IsField a → IsField b → IsField c → list_all is_within_line (spaced (a ∷ b ∷ c ∷ [])) ≡ true
three_within a b c fa fb fc = within_spaced a (b ++ 32 ∷ c) fa (two_within b c fb fc)

pub four_within : (a b c d : List ℕ) → IsField a → IsField b → IsField c → IsField d → list_all is_within_line (spaced (a ∷ b ∷ c ∷ d ∷ [])) ≡ true
four_within a b c d fa fb fc fd = within_spaced a (b ++ 32 ∷ (c ++ 32 ∷ d)) fa (three_within b c d fb fc fd)
