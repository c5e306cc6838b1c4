-- The text as it is made, part by part, and how long it is.
use Rattle.std.proofs.Common.{◌≡◌, ◌+◌, ◌*◌, ◌/◌, ◌%◌, ◌^◌, ◌≤◌, ℕ, zero, suc, ℤ, pos, ◌<◌, lit<, lit≤, map, List, [], ◌∷◌, ◌++◌, length, true, refl, sym, ap, subst, ◌∙◌, arith, append_assoc}
use Rattle.std.proofs.Common.{append-nil, codes, decimal, ltb-true, length-append}
use Rattle.std.specs.{Prelude.nat_lt, Prelude.OnOk, Prelude.Result, Fmt.digits, Int.w64, Int.cast_signed, List.flat_map, List.list_all, List.range_with_len}
use Rattle.std.proofs.Math.Nat.{mod-lt}
use Rattle.std.proofs.lemmas.{Int.to_z_pos, Fmt.length-decimal-le, List.FromFn.map-range_with_len_more, List.Concat.flat_map-append}
use Rattle.oat_text.specs.{ended}
use Rattle.oat_make.specs.{Drill.drill_state, Drill.stirred, Drill.draw, Drill.drill_constant, Drill.drill_input, Text.helper_lines, Text.work_lines, Text.main_lines, Text.drill_text}
use Rattle.oat_make.specs.{Laws.DrillTextsAreShort}
use Rattle.oat_make.proofs.Formed.{both}

-- ---- what is put

pub put_same : {E : Type 0} (r : Result (Unit {0}) E) (new old : List ℕ) {a b : List ℕ} → a ≡ b → OnOk r (new ≡ old ++ a) → OnOk r (new ≡ old ++ b)
put_same r new old e h = subst (λ t. OnOk r (new ≡ old ++ t)) e h

-- ---- a helper

abbrev pub helper_bytes : ℕ → ℕ → List ℕ
helper_bytes n j = flat_map ended (helper_lines j (drill_constant n j))

abbrev pub limit_bytes : ℕ → List ℕ
limit_bytes n = ended (codes "critical limit " ++ decimal (draw n 0 % 1000))

abbrev pub rest_bytes : List ℕ
rest_bytes = flat_map ended (work_lines ++ main_lines)

-- with the first k helpers
abbrev pub so_far : ℕ → ℕ → List ℕ
so_far n k = limit_bytes n ++ flat_map (helper_bytes n) (range_with_len 0 k)

range_more : (a k j : ℕ) → a + k ≡ j → range_with_len a (suc k) ≡ range_with_len a k ++ (j ∷ [])
range_more a zero j is = ap (λ (x : ℕ). x ∷ []) (let e : a ≡ j = omega arith in e)
range_more a (suc k) j is = ap (λ (xs : List ℕ). a ∷ xs) (range_more (a + 1) k j (omega arith))

pub so_far_more : (n k : ℕ) (text : List ℕ) → text ≡ so_far n k ++ flat_map ended (helper_lines k (pos ((stirred (drill_state n (suc k)) / 2 ^ 33) % 100))) → text ≡ so_far n (k + 1)
so_far_more n k text is =
    is
    ∙ ap (λ (m : ℕ). so_far n k ++ flat_map ended (helper_lines k (pos ((drill_state n (suc m) / 2 ^ 33) % 100)))) (let e : suc k ≡ 1 + k = omega arith in e)
    ∙ append_assoc (limit_bytes n) (flat_map (helper_bytes n) (range_with_len 0 k)) (helper_bytes n k)
    ∙ ap (λ (t : List ℕ). limit_bytes n ++ t) (sym last ∙ ap (λ (m : ℕ). flat_map (helper_bytes n) (range_with_len 0 m)) (let e : suc k ≡ k + 1 = omega arith in e)) where
      last : flat_map (helper_bytes n) (range_with_len 0 (suc k)) ≡ flat_map (helper_bytes n) (range_with_len 0 k) ++ helper_bytes n k
      last =
          ap (flat_map (helper_bytes n)) (range_more 0 k k (let e : 0 + k ≡ k = omega arith in e))
          ∙ flat_map-append (helper_bytes n) (range_with_len 0 k) (k ∷ [])
          ∙ ap (λ (t : List ℕ). flat_map (helper_bytes n) (range_with_len 0 k) ++ t) (append-nil (helper_bytes n k))

flat_flat : {X Y Z : Type 0} (f : Y → List Z) (g : X → List Y) (xs : List X) → flat_map f (flat_map g xs) ≡ flat_map (λ x. flat_map f (g x)) xs
flat_flat f g [] = refl
flat_flat f g (x ∷ xs) = flat_map-append f (g x) (flat_map g xs) ∙ ap (λ t. flat_map f (g x) ++ t) (flat_flat f g xs)

whole : (n : ℕ) → so_far n 16 ++ rest_bytes ≡ drill_text n
whole n =
    append_assoc (limit_bytes n) (flat_map (helper_bytes n) (range_with_len 0 16)) rest_bytes
    ∙ ap (λ (t : List ℕ). limit_bytes n ++ (t ++ rest_bytes)) (sym (flat_flat ended (λ j. helper_lines j (drill_constant n j)) (range_with_len 0 16)))
    ∙ ap (λ (t : List ℕ). limit_bytes n ++ t) (sym (flat_map-append ended (flat_map (λ j. helper_lines j (drill_constant n j)) (range_with_len 0 16)) (work_lines ++ main_lines)))

pub all_made : (n : ℕ) (text : List ℕ) → text ≡ so_far n 16 ++ rest_bytes → text ≡ drill_text n
all_made n text is = is ∙ whole n

-- ---- how long it is

abbrev helper_middle : List ℕ
helper_middle = codes " v:i64\nlocal k i64\nlocal m i64\nlocal c i64\nblock b0\nconst k "

abbrev helper_rest : List ℕ
helper_rest = codes "\nadd v v k\nload m limit\nlt c m v\nbranch c over under\nblock over\nsub v v m\nret v\nblock under\nret v\nend\n"

pub helper_text : (j a : ℕ) → flat_map ended (helper_lines j (pos a)) ≡ codes "func h" ++ (decimal j ++ (helper_middle ++ (decimal a ++ helper_rest)))
helper_text j a =
    ap (λ (t : List ℕ). codes "func h" ++ t)
    (append_assoc (decimal j ++ codes " v:i64") (10 ∷ []) (codes "local k i64\nlocal m i64\nlocal c i64\nblock b0\nconst k " ++ ((decimal a ++ (10 ∷ [])) ++ codes "add v v k\nload m limit\nlt c m v\nbranch c over under\nblock over\nsub v v m\nret v\nblock under\nret v\nend\n"))
    ∙ append_assoc (decimal j) (codes " v:i64") (10 ∷ (codes "local k i64\nlocal m i64\nlocal c i64\nblock b0\nconst k " ++ ((decimal a ++ (10 ∷ [])) ++ codes "add v v k\nload m limit\nlt c m v\nbranch c over under\nblock over\nsub v v m\nret v\nblock under\nret v\nend\n")))
    ∙ ap (λ (t : List ℕ). decimal j ++ (helper_middle ++ t)) (append_assoc (decimal a) (10 ∷ []) (codes "add v v k\nload m limit\nlt c m v\nbranch c over under\nblock over\nsub v v m\nret v\nblock under\nret v\nend\n")))

helper_short : (n j : ℕ) → j < 100 → length (helper_bytes n j) ≤ 190
helper_short n j low =
    let a : ℕ = draw n (1 + j) % 100 in
    let small : a < 100 = mod-lt (draw n (1 + j)) (lit< tt) in
    let first : length (decimal j) ≤ 2 = length-decimal-le 2 j (lit< tt) (omega arith) (omega arith) in
    let second : length (decimal a) ≤ 2 = length-decimal-le 2 a (lit< tt) (omega arith) (omega arith) in
    let e1 : length (helper_bytes n j) ≡ length (codes "func h" ++ (decimal j ++ (helper_middle ++ (decimal a ++ helper_rest)))) = ap length (helper_text j a) in
    let e2 = length-append (decimal j) (helper_middle ++ (decimal a ++ helper_rest)) in
    let e3 = length-append (decimal a) helper_rest in
    omega arith

helpers_short : (n : ℕ) (js : List ℕ) → list_all (λ j. nat_lt j 100) js ≡ true → length (flat_map (helper_bytes n) js) ≤ length js * 190
helpers_short n [] is = omega arith
helpers_short n (j ∷ js) is =
    let b = both (nat_lt j 100) (list_all (λ j. nat_lt j 100) js) is in
    let here = helper_short n j (ltb-true j 100 b.0) in
    let rest = helpers_short n js b.1 in
    let sum = length-append (helper_bytes n j) (flat_map (helper_bytes n) js) in
    omega arith

limit_short : (n : ℕ) → length (limit_bytes n) ≤ 19
limit_short n =
    let drawn : ℕ = draw n 0 % 1000 in
    let small : drawn < 1000 = mod-lt (draw n 0) (lit< tt) in
    let few : length (decimal drawn) ≤ 3 = length-decimal-le 3 drawn (lit< tt) (omega arith) (omega arith) in
    let sum = length-append (decimal drawn) (10 ∷ []) in
    omega arith

rest_short : length rest_bytes ≤ 1037
unfolding digits
rest_short = lit≤ tt

three_lengths : (x y z : ℕ) (a b c : List ℕ) → length a ≤ x → length b ≤ y → length c ≤ z → length ((a ++ b) ++ c) ≤ x + y + z
three_lengths x y z a b c first second third =
    let sum = length-append a b in
    let all = length-append (a ++ b) c in
    omega arith

pub drill_texts_are_short : DrillTextsAreShort
drill_texts_are_short n =
    subst (λ (text : List ℕ). length text ≤ 4096) (whole n)
    (three_lengths 19 3040 1037 (limit_bytes n) (flat_map (helper_bytes n) (range_with_len 0 16)) rest_bytes (limit_short n) (helpers_short n (range_with_len 0 16) refl) rest_short)

-- ---- the inputs

pub state_more : (n k m : ℕ) (s : ℕ) → s ≡ drill_state n k → suc k ≡ m → stirred s ≡ drill_state n m
state_more n k m s is next = ap stirred is ∙ ap (drill_state n) next

pub inputs_more : (n k d s : ℕ) (old new : List ℤ) → old ≡ map (drill_input n) (range_with_len 0 k) → s ≡ drill_state n (17 + k) → d ≡ stirred s / 2 ^ 33 → new ≡ old ++ (cast_signed w64 (d % 1000) ∷ [])
    → new ≡ map (drill_input n) (range_with_len 0 (k + 1))
inputs_more n k d s old new olds is drawn news =
    let small : d % 1000 < 1000 = mod-lt d (lit< tt) in
    news
    ∙ ap (λ (xs : List ℤ). xs ++ (cast_signed w64 (d % 1000) ∷ [])) olds
    ∙ ap (λ (z : ℤ). map (drill_input n) (range_with_len 0 k) ++ (z ∷ [])) (to_z_pos w64 (d % 1000) (omega arith) ∙ ap (λ (e : ℕ). pos (e % 1000)) (drawn ∙ ap (λ (t : ℕ). stirred t / 2 ^ 33) is))
    ∙ sym (map-range_with_len_more (drill_input n) 0 k k (omega arith))
