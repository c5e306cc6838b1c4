-- The instruction of a word is the one whose word it is.
use Rattle.std.proofs.Common.{◌≡◌, ℕ, zero, suc, ◌*◌, ◌^◌, refl, sym, ap, ◌∙◌, Bool, true, false, List, [], ◌∷◌, Option, Some, inl, inr, cond, eqb-true, eq-eqb}
use Rattle.std.specs.{Prelude.pos, Prelude.negsuc, Prelude.◌&&◌, Prelude.◌⊎◌, Prelude.nat_eq, Prelude.slice_get, List.find, List.list_all}
use Rattle.std.proofs.lemmas.Bool.{ltb-true, lt-ltb}
use Rattle.oat_a64.specs.{declared.inst.Inst.Inst, Table.Part, Table.unsigned, Table.signed, Table.condition, Table.IsPartInRange, Table.ArePartsInRange, Table.form_of, Table.word_of, Table.Word}
use Rattle.oat_a64.specs.{Fetch.candidates, Fetch.is_part_in_range, Fetch.is_word, Fetch.inst_of}
use Rattle.oat_a64.proofs.{Candidates.place, Candidates.is_candidate, Same.same}

both : (a b : Bool) → (a && b) ≡ true → (a ≡ true) × (b ≡ true)
both true b h = (refl, h)
both false b h = absurd cc

part_in_range : (p : Part) → is_part_in_range p ≡ true → IsPartInRange p
part_in_range (unsigned low width n) h = ltb-true n (2 ^ width) h
part_in_range (signed low width (pos n)) h = ltb-true (2 * n) (2 ^ width) h
part_in_range (signed low width (negsuc n)) h = ltb-true (2 * n) (2 ^ width) h
part_in_range (condition low c) h = h

part_test : (p : Part) → IsPartInRange p → is_part_in_range p ≡ true
part_test (unsigned low width n) h = lt-ltb n (2 ^ width) h
part_test (signed low width (pos n)) h = lt-ltb (2 * n) (2 ^ width) h
part_test (signed low width (negsuc n)) h = lt-ltb (2 * n) (2 ^ width) h
part_test (condition low c) h = h

parts_in_range : (ps : List Part) → list_all is_part_in_range ps ≡ true → ArePartsInRange ps
parts_in_range [] h = tt
parts_in_range (p ∷ ps) h =
    let split = both (is_part_in_range p) (list_all is_part_in_range ps) h in
    (part_in_range p split.0, parts_in_range ps split.1)

parts_test : (ps : List Part) → ArePartsInRange ps → list_all is_part_in_range ps ≡ true
parts_test [] h = refl
parts_test (p ∷ ps) h = rw (part_test p h.0) (parts_test ps h.1)

pub word_from_test : (i : Inst) (w : ℕ) → is_word i w ≡ true → Word i w
unfolding is_word
word_from_test i w h =
    let split = both (list_all is_part_in_range (form_of i).parts) (nat_eq w (word_of i)) h in
    (parts_in_range (form_of i).parts split.0, eqb-true w (word_of i) split.1)

pub test_from_word : (i : Inst) (w : ℕ) → Word i w → is_word i w ≡ true
unfolding is_word
test_from_word i w h = rw (parts_test (form_of i).parts h.0) (eq-eqb w (word_of i) h.1)

picked : {X : Type 0} (b : Bool) (y x : X) (rest : Option X) → cond b (Some y) rest ≡ Some x → ((b ≡ true) × (y ≡ x)) ⊎ ((b ≡ false) × (rest ≡ Some x))
picked true y x rest h = inl (refl, cc)
picked false y x rest h = inr (refl, h)

find_passes : {X : Type 0} (test : X → Bool) (xs : List X) (x : X) → find test xs ≡ Some x → test x ≡ true
find_passes test [] x h = absurd cc
find_passes test (y ∷ xs) x h =
    elim (picked (test y) y x (find test xs) h) [
      | inl here ↦ sym (ap test here.1) ∙ here.0
      | inr later ↦ find_passes test xs x later.1
    ]

pick : {X : Type 0} (b : Bool) (y x : X) (rest : Option X) → (b ≡ true → y ≡ x) → (b ≡ false → rest ≡ Some x) → cond b (Some y) rest ≡ Some x
pick true y x rest here later = ap Some (here refl)
pick false y x rest here later = later refl

find_only : {X : Type 0} (test : X → Bool) (xs : List X) (k : ℕ) (x : X) → slice_get xs k ≡ Some x → test x ≡ true → ((y : X) → test y ≡ true → y ≡ x) → find test xs ≡ Some x
find_only test [] k x h t only = absurd cc
find_only test (y ∷ xs) zero x h t only = pick (test y) y x (find test xs) (only y) (λ no. absurd cc)
find_only test (y ∷ xs) (suc k) x h t only = pick (test y) y x (find test xs) (only y) (λ _. find_only test xs k x h t only)

pub word_from_inst : (i : Inst) (w : ℕ) → inst_of w ≡ Some i → Word i w
unfolding inst_of
word_from_inst i w h = word_from_test i w (find_passes (λ j. is_word j w) (candidates w) i h)

pub inst_from_word : (i : Inst) (w : ℕ) → Word i w → inst_of w ≡ Some i
unfolding inst_of
inst_from_word i w h =
    find_only (λ j. is_word j w) (candidates w) (place i) i (is_candidate i w h) (test_from_word i w h) (λ j t. same j i w (word_from_test j w t) h)
