-- The words of globals: what they hold, and how many they are.
use Rattle.std.proofs.Common.{◌≡◌, ◌<◌, ◌⊎◌, ℕ, zero, suc, Bool, true, false, cond, eqb, ◌&&◌, List, [], ◌∷◌, ◌++◌, length, get_or, set, map, Option, Some, None, refl, sym, ap, ◌∙◌, inl, inr, get_or-set_same, get_or-set_other, length-set}
use Rattle.std.specs.Prelude.{slice_get}
use Rattle.std.proofs.Math.Path.{fun_ext}
use Rattle.std.proofs.Math.ListN as lists
use Rattle.std.proofs.Math.Seq.{map-set_same}
use Rattle.std.proofs.lemmas.List.{length-replicate}
use Rattle.std.proofs.lemmas.Bool.{cases_Bool, eqb-true, eqb-false}
use Rattle.oat_events.specs.Events.{SourceEvent, loads, stores}
use Rattle.oat_ir.specs.declared.program.GlobalItem.{GlobalItem}
use Rattle.oat_check.specs.Globals.{Values, of_global, put, size_in_words, start_of}
use Rattle.oat_langrun.specs.Meaning.{if_any}
use Rattle.oat_langrun.specs.Memories.{AreWordsOf, first_words, values_of}
use Rattle.oat_langrun.specs.Recording.{Recorded, event_added, events_added}
use Rattle.oat_langrun.proofs.Passing.{all_alike, list_there}

-- ---- events

pub events_append : (r : Recorded) (xs ys : List (SourceEvent ℕ)) → events_added r (xs ++ ys) ≡ events_added (events_added r xs) ys
events_append r [] ys = refl
events_append r (x ∷ xs) ys = events_append (event_added r x) xs ys

pub stores_nothing : (r : Recorded) (o : Option ℕ) (v : ℕ) → events_added r (if_any o (λ cell. stores cell v)) ≡ r
stores_nothing r None v = refl
stores_nothing r (Some cell) v = refl

pub loads_nothing : (r : Recorded) (o : Option ℕ) (v : ℕ) → events_added r (if_any o (λ cell. loads cell v)) ≡ r
loads_nothing r None v = refl
loads_nothing r (Some cell) v = refl

-- ---- how many

size_at : (globals : List GlobalItem) (g : ℕ) → get_or (map size_in_words globals) g 0 ≡ of_global size_in_words (slice_get globals g)
size_at [] g = refl
size_at (x ∷ xs) zero = refl
size_at (x ∷ xs) (suc g) = size_at xs g

pub length_is : (globals : List GlobalItem) (words : List (List ℕ)) (g : ℕ) → AreWordsOf globals words → length (get_or words g []) ≡ of_global size_in_words (slice_get globals g)
length_is globals words g are = sym (lists.get_or-map (λ (xs : List ℕ). length xs) words g []) ∙ ap (λ (ns : List ℕ). get_or ns g 0) are ∙ size_at globals g

pub put_lengths : (words : List (List ℕ)) (g i v : ℕ) → map length (set words g (set (get_or words g []) i v)) ≡ map length words
put_lengths words g i v = map-set_same (λ (xs : List ℕ). length xs) words g (set (get_or words g []) i v) [] (length-set (get_or words g []) i v)

-- ---- what they hold

pub put_values : (first : Values) (words : List (List ℕ)) (g i v : ℕ) → i < length (get_or words g []) → values_of first (set words g (set (get_or words g []) i v)) ≡ put (values_of first words) g i v
put_values first words g i v low = fun_ext (λ h. fun_ext (λ j. by h j (cases_Bool (eqb h g)) (cases_Bool (eqb j i)))) where
  row : List ℕ
  row = get_or words g []

  there : g < length words
  there = list_there words g i low

  by : (h j : ℕ) → (eqb h g ≡ true) ⊎ (eqb h g ≡ false) → (eqb j i ≡ true) ⊎ (eqb j i ≡ false)
      → get_or (get_or (set words g (set row i v)) h []) j (first h j) ≡ cond (eqb h g && eqb j i) v (get_or (get_or words h []) j (first h j))
  by h j (inr other) k =
      ap (λ (xs : List ℕ). get_or xs j (first h j)) (get_or-set_other words g h (set row i v) [] (eqb-false h g other))
      ∙ sym (ap (λ (t : Bool). cond (t && eqb j i) v (get_or (get_or words h []) j (first h j))) other)
  by h j (inl same) (inr other) =
      let at : h ≡ g = eqb-true h g same in
      ap (λ (n : ℕ). get_or (get_or (set words g (set row i v)) n []) j (first h j)) at
      ∙ ap (λ (xs : List ℕ). get_or xs j (first h j)) (get_or-set_same words g (set row i v) [] there)
      ∙ get_or-set_other row i j v (first h j) (eqb-false j i other)
      ∙ ap (λ (n : ℕ). get_or (get_or words n []) j (first h j)) (sym at)
      ∙ sym (ap (λ (t : Bool). cond (eqb h g && t) v (get_or (get_or words h []) j (first h j))) other ∙ ap (λ (t : Bool). cond (t && false) v (get_or (get_or words h []) j (first h j))) same)
  by h j (inl same) (inl here) =
      let at : h ≡ g = eqb-true h g same in
      let place : j ≡ i = eqb-true j i here in
      ap (λ (n : ℕ). get_or (get_or (set words g (set row i v)) n []) j (first h j)) at
      ∙ ap (λ (xs : List ℕ). get_or xs j (first h j)) (get_or-set_same words g (set row i v) [] there)
      ∙ ap (λ (n : ℕ). get_or (set row i v) n (first h j)) place
      ∙ get_or-set_same row i v (first h j) low
      ∙ sym (ap (λ (t : Bool). cond (eqb h g && t) v (get_or (get_or words h []) j (first h j))) here ∙ ap (λ (t : Bool). cond (t && true) v (get_or (get_or words h []) j (first h j))) same)

-- ---- at the start

first_at : (globals : List GlobalItem) (g i : ℕ) → get_or (get_or (map first_words globals) g []) i (of_global start_of (slice_get globals g)) ≡ of_global start_of (slice_get globals g)
first_at [] g i = refl
first_at (x ∷ xs) zero i = all_alike (size_in_words x) (start_of x) i
first_at (x ∷ xs) (suc g) i = first_at xs g i

pub values_start : (globals : List GlobalItem) → values_of (λ g i. of_global start_of (slice_get globals g)) (map first_words globals) ≡ (λ g i. of_global start_of (slice_get globals g))
values_start globals = fun_ext (λ g. fun_ext (λ i. first_at globals g i))

pub words_start : (globals : List GlobalItem) → AreWordsOf globals (map first_words globals)
words_start [] = refl
words_start (x ∷ xs) = λ i. length-replicate (size_in_words x) (start_of x) i ∷ words_start xs i
