-- Names and operations that differ by their tests are distinct.
use Rattle.std.proofs.Common.{◌≡◌, ℕ, List, [], ◌∷◌, ◌++◌, map, sym, ◌∙◌, Bool, false}
use Rattle.std.specs.{Prelude.Contains, List.AllByRecursion, List.flat_map, List.IsDistinct, Option.option_to_list, Str.bytes_eq, Cmp.Lexicographic.other_text}
use Rattle.std.proofs.lemmas.Bool.{eqb-false as different}
use Rattle.oat_parts.specs.Symbols.{AreDistinct}
use Rattle.oat_parts.proofs.Lists.{not_in_none, first_in, only_in, of_map, of_flat_map, all_get, all_in}
use Rattle.oat_check.specs.{Func, Role, Plain, Operation, Main, have_one_operation, are_one_operation, Steps.operation_number}

differ : {A : Type 0} (test : A → A → Bool) (key : A → List ℕ) (x : A) (xs : List A) → ((y : A) → test x y ≡ bytes_eq (key x) (key y)) → AllByRecursion (λ y. test x y ≡ false) xs
    → Contains (map key xs) (key x) → ⊥
differ test key x xs is all has =
    let r = of_map key xs (key x) has in
    let other : test x r.0 ≡ false = all_in (λ y. test x y ≡ false) xs r.0 all r.1 in
    other_text (key x) (key r.0) (sym (sym (is r.0) ∙ other)) (sym r.2)

pub distinct_texts : {A : Type 0} (test : A → A → Bool) (key : A → List ℕ) (xs : List A) → ((x y : A) → test x y ≡ bytes_eq (key x) (key y)) → IsDistinct test xs → AreDistinct (map key xs)
unfolding IsDistinct
distinct_texts test key [] is d = tt
distinct_texts test key (x ∷ xs) is d = (differ test key x xs (is x) d.0, distinct_texts test key xs is d.1)

abbrev pub ids : List Func → List ℕ
ids funcs = flat_map (λ func. option_to_list (operation_number func.role)) funcs

one_operation : (r s : Role) (id : ℕ) → are_one_operation r s ≡ false → Contains (option_to_list (operation_number r)) id → Contains (option_to_list (operation_number s)) id → ⊥
one_operation (Operation a) (Operation b) id other has also =
    let first = only_in a id has.0 has.1 has.2 in
    let second = only_in b id also.0 also.1 also.2 in
    different a b other (first ∙ sym second)
one_operation Plain s id other has also = absurd (not_in_none id has)
one_operation Main s id other has also = absurd (not_in_none id has)
one_operation (Operation a) Plain id other has also = absurd (not_in_none id also)
one_operation (Operation a) Main id other has also = absurd (not_in_none id also)

own_id : (r : Role) (rest : List ℕ) → ((id : ℕ) → Contains (option_to_list (operation_number r)) id → Contains rest id → ⊥) → AreDistinct rest → AreDistinct (option_to_list (operation_number r) ++ rest)
own_id (Operation a) rest out d = (λ has. out a (first_in a []) has, d)
own_id Plain rest out d = d
own_id Main rest out d = d

pub distinct_ids : (funcs : List Func) → IsDistinct have_one_operation funcs → AreDistinct (ids funcs)
unfolding IsDistinct
distinct_ids [] d = tt
distinct_ids (func ∷ funcs) d =
    own_id func.role (ids funcs) (λ id has also.
    let r = of_flat_map (λ (g : Func). option_to_list (operation_number g.role)) funcs id also in
    one_operation func.role r.1.role id (all_get (λ (g : Func). have_one_operation func g ≡ false) funcs r.0 r.1 d.0 r.2) has r.3)
    (distinct_ids funcs d.1)
