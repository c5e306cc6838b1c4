-- The words of data memory, and those of the cells, at the start of a run.
use Rattle.std.proofs.Common.{◌≡◌, ℕ, ◌+◌, ◌≤◌, true, List, map, Option, Some, None, refl, sym, ap, ◌∙◌, arith, ◌%◌}
use Rattle.std.specs.{Prelude.IsSome, Prelude.SomeIff, List.slice_get, List.fold, Option.option_map}
use Rattle.std.proofs.Math.Path.{fun_ext}
use Rattle.std.proofs.lemmas.{Bool.eq-eqb, Bool.le-leb, Bool.and_from, Bool.or_left, Option.slice_get-map}
use Rattle.oat_journal.specs.{can_access, fits, word_in, with_word, global_base, global_size, global_address, InitWord}

-- ---- data memory

-- memory with these words put into it
abbrev pub laid : List InitWord → (ℕ → ℕ) → (ℕ → ℕ)
laid words memory = fold (λ (old : ℕ → ℕ) (word : InitWord). with_word old (global_address word.index) word.value) memory words

-- ---- cells

-- the words of these cells
abbrev pub words_of : (ℕ → ℕ) → List ℕ → List ℕ
words_of memory cells = map (λ (index : ℕ). word_in memory (global_address index)) cells

pub access : (index : ℕ) → index ≤ 65535 → can_access (global_address index) ≡ true
unfolding can_access fits
access index low =
    let aligned = eq-eqb (global_address index % 8) 0 (omega arith) in
    let begins = le-leb global_base (global_address index) (omega arith) in
    let closes = le-leb (global_address index + 8) (global_base + global_size) (omega arith) in
    and_from _ _ aligned (or_left _ _ (and_from _ _ begins closes))

pub read : (o : Option ℕ) (P : Type 0) (word : ℕ) → SomeIff o P word → P → IsSome o
read None P word tells can = absurd (tells can)
read (Some value) P word tells can = refl

pub read-value : (o : Option ℕ) (P : Type 0) (word value : ℕ) → SomeIff o P word → o ≡ Some value → value ≡ word
read-value None P word value tells is = absurd (cc)
read-value (Some found) P word value tells is = let same : found ≡ value = cc in sym same ∙ tells.1

pub cells-are : (memory : ℕ → ℕ) (items cells : List ℕ) → items ≡ words_of memory cells
    → slice_get items ≡ (λ (cell : ℕ). option_map (λ (index : ℕ). word_in memory (global_address index)) (slice_get cells cell))
cells-are memory items cells is = fun_ext (λ (cell : ℕ). ap (λ (xs : List ℕ). slice_get xs cell) is ∙ slice_get-map (λ (index : ℕ). word_in memory (global_address index)) cells cell)
