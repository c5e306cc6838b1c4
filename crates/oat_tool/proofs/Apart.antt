-- No two commands of the table share words.
use Rattle.std.proofs.Common.{suc, zero, ◌≡◌, ◌<◌, ◌∙◌, ◌+◌, ℕ, Bool, true, false, not, ◌&&◌, ◌||◌, List, [], ◌∷◌, length, take, get_or, inl, inr, refl, sym, ap, subst, arith, IsTrue}
use Rattle.std.specs.Str.{bytes_eq}
use Rattle.std.proofs.lemmas.{Bool.cases_lt, Bool.eq-eqb, List.get_or_default, Slice.Eq.bytes_eq-Decides}
use Rattle.oat_words.specs.{declared.command.Command.Command, Commands.commands, Commands.fixed_of, Commands.bounds_of, Commands.limits_of, Commands.IsLine, Commands.differ, Commands.are_apart}
use Rattle.oat_words.specs.{Commands.is_apart_from, Commands.all_apart}

both_true : (a b : Bool) → IsTrue (a && b) → IsTrue a × IsTrue b
both_true true true both = (refl, refl)
both_true true false both = absurd (let e : false ≡ true = both in cc)
both_true false b both = absurd (let e : false ≡ true = both in cc)

other_true : (a b : Bool) → a ≡ true → IsTrue (not a || b) → IsTrue b
other_true true b is either = either
other_true false b is either = absurd (let e : false ≡ true = is in cc)

differ_never : (fixed others words : List (List ℕ)) → IsTrue (differ fixed others) → take (length fixed) words ≡ fixed
    → take (length others) words ≡ others → ⊥
differ_never [] others words differs first second = let e : false ≡ true = differs in cc
differ_never (v ∷ fixed) [] words differs first second = let e : false ≡ true = differs in cc
differ_never (v ∷ fixed) (w ∷ others) [] differs first second = let e : [] ≡ v ∷ fixed = first in cc
differ_never (v ∷ fixed) (w ∷ others) (x ∷ words) differs first second =
    let one : x ∷ take (length fixed) words ≡ v ∷ fixed = first in
    let two : x ∷ take (length others) words ≡ w ∷ others = second in
    let same : v ≡ w = cc in
    let first_rest : take (length fixed) words ≡ fixed = cc in
    let second_rest : take (length others) words ≡ others = cc in
    differ_never fixed others words (other_true (bytes_eq v w) (differ fixed others) ((bytes_eq-Decides v w).1 same) differs) first_rest second_rest

lines_apart : (words : List (List ℕ)) (c d : Command) → IsTrue (are_apart c d) → IsLine words c → IsLine words d → ⊥
lines_apart words c d apart one two =
    let count : length (fixed_of c) + length (bounds_of c) + length (limits_of c) ≡ length (fixed_of d) + length (bounds_of d) + length (limits_of d) = sym one.count ∙ two.count in
    differ_never (fixed_of c) (fixed_of d) words
    (other_true _ _ (eq-eqb (length (fixed_of c) + length (bounds_of c) + length (limits_of c)) (length (fixed_of d) + length (bounds_of d) + length (limits_of d)) count) apart)
    one.begins two.begins

apart_from : (others : List Command) (c d : Command) (j : ℕ) → IsTrue (is_apart_from c others) → j < length others → get_or others j d ≡ d
    → IsTrue (are_apart c d)
apart_from [] c d j apart within at = absurd (omega (arith, within))
apart_from (x ∷ others) c d zero apart within at = subst (λ (z : Command). IsTrue (are_apart c z)) at (both_true _ _ apart).0
apart_from (x ∷ others) c d (suc j) apart within at = apart_from others c d j (both_true (are_apart c x) _ apart).1 (omega (arith, within)) at

two_apart : (table : List Command) (c d : Command) (i j : ℕ) → IsTrue (all_apart table) → i < j → j < length table
    → get_or table i c ≡ c → get_or table j d ≡ d → IsTrue (are_apart c d)
two_apart [] c d i j apart below within at at' = absurd (omega (arith, within))
two_apart (x ∷ table) c d i zero apart below within at at' = absurd (omega (arith, below))
two_apart (x ∷ table) c d zero (suc j) apart below within at at' =
    apart_from table c d j (subst (λ (z : Command). IsTrue (is_apart_from z table)) at (both_true _ _ apart).0) (omega (arith, within)) at'
two_apart (x ∷ table) c d (suc i) (suc j) apart below within at at' =
    two_apart table c d i j (both_true (is_apart_from x table) _ apart).1 (omega (arith, below)) (omega (arith, within)) at at'

-- The table is computed through, once.
table_apart : IsTrue (all_apart commands)
table_apart = refl

-- Words are of one command at most.
pub one_command : (words : List (List ℕ)) (c d : Command) → IsLine words c → IsLine words d → d ≡ c
one_command words c d one two =
    let i = one.listed in
    let j = two.listed in
    elim (cases_lt i.0 j.0) [
      | inl before ↦ absurd (lines_apart words c d (two_apart commands c d i.0 j.0 table_apart before j.1 i.2 j.2) one two)
      | inr not_before ↦ elim (cases_lt j.0 i.0) [
        | inl behind ↦ absurd (lines_apart words d c (two_apart commands d c j.0 i.0 table_apart behind i.1 j.2 i.2) two one)
        | inr not_behind ↦
            let same : i.0 ≡ j.0 = omega (arith, not_before, not_behind) in
            sym j.2 ∙ (ap (λ (k : ℕ). get_or commands k d) (sym same) ∙ (get_or_default commands i.0 d c i.1 ∙ i.2))
      ]
    ]
