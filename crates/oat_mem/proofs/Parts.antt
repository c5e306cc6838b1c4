-- What a read or a write of one region means for the memory as a whole.
use Rattle.std.proofs.Common.{◌≡◌, ℕ, ◌+◌, ◌-◌, ◌*◌, ◌<◌, ◌≤◌, inl, inr, Bool, true, false, cond, leb, List, ◌++◌, length, get_or, take, drop, refl, ap, arith, sym, ◌∙◌}
use Rattle.std.specs.List.{All}
use Rattle.std.proofs.Math.Path.{fun_ext}
use Rattle.std.proofs.lemmas.{Bool.le-leb, Bool.leb-true, Bool.lt-leb, Bool.and_parts, Bool.and_from, Bool.and_right, Bool.cases_lt, Bool.cond-true, Bool.or_cases, List.places, List.get_or_past}
use Rattle.oat_mem.specs.DataMemory.{lies_in, with_bytes, word_in, byte_at, fits, can_access, global_base, global_size, stack_base, stack_size}
use Rattle.oat_mem.proofs.Words.{with_bytes-within, with_bytes-below, with_bytes-above, word_in-at}

-- the byte at a place of a region, and else that of the rest
abbrev pub part : ℕ → ℕ → List ℕ → (ℕ → ℕ) → (ℕ → ℕ)
part base size xs rest b = cond (lies_in base size b 1) (get_or xs (b - base) 0) (rest b)

-- the list with other elements from an index on
abbrev pub edited : List ℕ → ℕ → List ℕ → List ℕ
edited xs i bs = take i xs ++ bs ++ drop (i + length bs) xs

cond_first : (t : Bool) (x y z : ℕ) → (t ≡ true → x ≡ y) → cond t x z ≡ cond t y z
cond_first true x y z e = e refl
cond_first false x y z e = refl

edited-below : (xs : List ℕ) (i : ℕ) (bs : List ℕ) (k : ℕ) → i + length bs ≤ length xs → k < i → get_or (edited xs i bs) k 0 ≡ get_or xs k 0
edited-below xs i bs k h l = grind (arith, places)

edited-inside : (xs : List ℕ) (i : ℕ) (bs : List ℕ) (k : ℕ) → i + length bs ≤ length xs → i ≤ k → k < i + length bs → get_or (edited xs i bs) k 0 ≡ get_or bs (k - i) 0
edited-inside xs i bs k h l m = grind (arith, places)

edited-above : (xs : List ℕ) (i : ℕ) (bs : List ℕ) (k : ℕ) → i + length bs ≤ length xs → i + length bs ≤ k → get_or (edited xs i bs) k 0 ≡ get_or xs k 0
edited-above xs i bs k h l = grind (arith, places)

lies_in_bounds : (base size a n : ℕ) → lies_in base size a n ≡ true → (base ≤ a) × (a + n ≤ base + size)
lies_in_bounds base size a n e =
    let parts = and_parts (leb base a) (leb (a + n) (base + size)) e in
    (leb-true base a parts.0, leb-true (a + n) (base + size) parts.1)

lies_in_from : (base size a n : ℕ) → base ≤ a → a + n ≤ base + size → lies_in base size a n ≡ true
lies_in_from base size a n low high = and_from (leb base a) (leb (a + n) (base + size)) (le-leb base a low) (le-leb (a + n) (base + size) high)

part_inside : (base size : ℕ) (xs : List ℕ) (rest : ℕ → ℕ) (a n : ℕ) → lies_in base size a n ≡ true → (k : ℕ) → k < n → part base size xs rest (a + k) ≡ get_or xs (a - base + k) 0
part_inside base size xs rest a n e k h =
    let bounds = lies_in_bounds base size a n e in
    let place : a + k - base ≡ a - base + k = omega arith in
    cond-true _ (get_or xs (a + k - base) 0) (rest (a + k)) (lies_in_from base size (a + k) 1 (omega arith) (omega arith)) ∙ ap (λ i. get_or xs i 0) place

part_outside : (base size : ℕ) (xs : List ℕ) (rest : ℕ → ℕ) (a : ℕ) → base + size ≤ a → part base size xs rest a ≡ rest a
part_outside base size xs rest a h =
    rw (and_right (leb base a) (leb (a + 1) (base + size)) (lt-leb (a + 1) (base + size) (omega arith)))

-- a region's write is a write of the whole
part_write : (base size : ℕ) (xs : List ℕ) (rest : ℕ → ℕ) (a : ℕ) (bs : List ℕ) → length xs ≡ size → base ≤ a → a + length bs ≤ base + size → (b : ℕ) → part base size (edited xs (a - base) bs) rest b ≡ with_bytes (part base size xs rest) a bs b
part_write base size xs rest a bs len low high b =
    let t : Bool = lies_in base size b 1 in
    let low_of : t ≡ true → base ≤ b = λ e. leb-true base b (and_parts (leb base b) (leb (b + 1) (base + size)) e).0 in
    elim (cases_lt b a) [
      | inl before ↦ cond_first t _ _ (rest b) (λ e. let l : base ≤ b = low_of e in edited-below xs (a - base) bs (b - base) (omega arith) (omega arith)) ∙ sym (with_bytes-below (part base size xs rest) a bs b before)
      | inr from ↦ elim (cases_lt b (a + length bs)) [
        | inl inside ↦
            let yes : t ≡ true = and_from (leb base b) (leb (b + 1) (base + size)) (le-leb base b (omega arith)) (le-leb (b + 1) (base + size) (omega arith)) in
            let place : b - base - (a - base) ≡ b - a = omega arith in
            let left : get_or (edited xs (a - base) bs) (b - base) 0 ≡ get_or bs (b - base - (a - base)) 0 = edited-inside xs (a - base) bs (b - base) (omega arith) (omega arith) (omega arith) in
            let right : with_bytes (part base size xs rest) a bs b ≡ get_or bs (b - a) 0 = with_bytes-within (part base size xs rest) a bs b from inside in
            cond-true t _ (rest b) yes ∙ left ∙ ap (λ i. get_or bs i 0) place ∙ sym right
        | inr after ↦ cond_first t _ _ (rest b) (λ e. let l : base ≤ b = low_of e in edited-above xs (a - base) bs (b - base) (omega arith) (omega arith)) ∙ sym (with_bytes-above (part base size xs rest) a bs b after)
      ]
    ]

with_bytes-at : (f g : ℕ → ℕ) (a : ℕ) (bs : List ℕ) (b : ℕ) → f b ≡ g b → with_bytes f a bs b ≡ with_bytes g a bs b
unfolding with_bytes
with_bytes-at f g a bs b e = rw e

-- a write past a region is a write of the rest
part_rest : (base size : ℕ) (xs : List ℕ) (rest : ℕ → ℕ) (a : ℕ) (bs : List ℕ) → base + size ≤ a → (b : ℕ) → part base size xs (with_bytes rest a bs) b ≡ with_bytes (part base size xs rest) a bs b
part_rest base size xs rest a bs past b =
    elim (cases_lt b a) [
      | inl before ↦ rw (with_bytes-below rest a bs b before, with_bytes-below (part base size xs rest) a bs b before)
      | inr from ↦ part_outside base size xs (with_bytes rest a bs) b (omega arith) ∙ with_bytes-at rest (part base size xs rest) a bs b (sym (part_outside base size xs rest b (omega arith)))
    ]

-- ---- the whole memory

pub write_globals : (gs ss bs : List ℕ) (a : ℕ) → length gs ≡ global_size → lies_in global_base global_size a (length bs) ≡ true → byte_at (record { globals = edited gs (a - global_base) bs; stack = ss }) ≡ with_bytes (byte_at (record { globals = gs; stack = ss })) a bs
unfolding byte_at
write_globals gs ss bs a len e =
    let bounds = lies_in_bounds global_base global_size a (length bs) e in
    fun_ext (part_write global_base global_size gs (part stack_base stack_size ss (λ _. 0)) a bs len bounds.0 bounds.1)

pub write_stack : (gs ss bs : List ℕ) (a : ℕ) → length ss ≡ stack_size → stack_base ≤ a → a + length bs ≤ stack_base + stack_size → byte_at (record { globals = gs; stack = edited ss (a - stack_base) bs }) ≡ with_bytes (byte_at (record { globals = gs; stack = ss })) a bs
unfolding byte_at
write_stack gs ss bs a len low high =
    let inner : (b : ℕ) → part stack_base stack_size (edited ss (a - stack_base) bs) (λ _. 0) b ≡ with_bytes (part stack_base stack_size ss (λ _. 0)) a bs b = part_write stack_base stack_size ss (λ _. 0) a bs len low high in
    fun_ext (λ b. ap (λ x. cond (lies_in global_base global_size b 1) (get_or gs (b - global_base) 0) x) (inner b) ∙ part_rest global_base global_size gs (part stack_base stack_size ss (λ _. 0)) a bs (omega arith) b)

pub read_globals : (gs ss : List ℕ) (a : ℕ) → lies_in global_base global_size a 8 ≡ true → word_in (λ k. get_or gs k 0) (a - global_base) ≡ word_in (byte_at (record { globals = gs; stack = ss })) a
unfolding byte_at
read_globals gs ss a e =
    word_in-at (λ k. get_or gs k 0) _ (a - global_base) a (λ k h. sym (part_inside global_base global_size gs (part stack_base stack_size ss (λ _. 0)) a 8 e k h))

pub read_stack : (gs ss : List ℕ) (a : ℕ) → stack_base ≤ a → a + 8 ≤ stack_base + stack_size → word_in (λ k. get_or ss k 0) (a - stack_base) ≡ word_in (byte_at (record { globals = gs; stack = ss })) a
unfolding byte_at
read_stack gs ss a low high =
    word_in-at (λ k. get_or ss k 0) _ (a - stack_base) a (λ k h. sym (part_outside global_base global_size gs (part stack_base stack_size ss (λ _. 0)) (a + k) (omega arith) ∙ part_inside stack_base stack_size ss (λ _. 0) a 8 (lies_in_from stack_base stack_size a 8 low high) k h))

zero_read : (xs : List ℕ) → All (λ x. x ≡ 0) xs → (i : ℕ) → get_or xs i 0 ≡ 0
zero_read xs all i = elim (cases_lt i (length xs)) [ inl h ↦ all i 0 h | inr h ↦ get_or_past xs i 0 h ]

cond_same : (t : Bool) (x : ℕ) → cond t x x ≡ x
cond_same true x = refl
cond_same false x = refl

pub byte_at-zeros : (gs ss : List ℕ) → All (λ x. x ≡ 0) gs → All (λ x. x ≡ 0) ss → byte_at (record { globals = gs; stack = ss }) ≡ (λ _. 0)
unfolding byte_at
byte_at-zeros gs ss g s =
    fun_ext (λ a. rw (zero_read gs g (a - global_base), zero_read ss s (a - stack_base), cond_same (lies_in stack_base stack_size a 1) 0, cond_same (lies_in global_base global_size a 1) 0))

-- ---- where bytes fit

-- what fits and lies not in the global data lies in the stack
pub fits_else : (a n : ℕ) → fits a n ≡ true → (lies_in global_base global_size a n ≡ true → ⊥) → (stack_base ≤ a) × (a + n ≤ stack_base + stack_size)
unfolding fits
fits_else a n e outside =
    elim (or_cases (lies_in global_base global_size a n) (lies_in stack_base stack_size a n) e) [
      | inl inside ↦ absurd (outside inside)
      | inr inside ↦ lies_in_bounds stack_base stack_size a n inside
    ]

pub can_access-fits : (a : ℕ) → can_access a ≡ true → fits a 8 ≡ true
unfolding can_access
can_access-fits a e = (and_parts _ (fits a 8) e).1

pub global_word-fits : (i : ℕ) → i < 65536 → fits (global_base + 8 * i) 8 ≡ true
unfolding fits
global_word-fits i h =
    rw (lies_in_from global_base global_size (global_base + 8 * i) 8 (omega arith) (omega arith))
