-- Where the globals lie, one behind the other.
use Rattle.std.proofs.Common.{◌≡◌, ℕ, zero, suc, ◌+◌, List, [], ◌∷◌, take, ap, ap₂, ◌∙◌, Some, arith}
use Rattle.std.specs.{Prelude.slice_get, List.sum_by}
use Rattle.std.proofs.lemmas.List.Sums.{sum_by-cons}
use Rattle.oat_globals.specs.{GlobalItem, size_in_words, size_in_cells}
use Rattle.oat_gen.specs.GlobalPlaces.{placed, places_from, place_in, GlobalsHaveTheirPlaces}

behind : (size : GlobalItem → ℕ) (x : GlobalItem) (xs : List GlobalItem) (g n : ℕ) → n + size x + sum_by size (take g xs) ≡ n + sum_by size (take (suc g) (x ∷ xs))
behind size x xs g n = omega (arith, sum_by-cons size x (take g xs))

placed_at : (word cell : ℕ) (items : List GlobalItem) (g : ℕ) (item : GlobalItem) → slice_get items g ≡ Some item
    → place_in (places_from word cell items) g ≡ placed item (word + sum_by size_in_words (take g items)) (cell + sum_by size_in_cells (take g items))
placed_at word cell [] g item at = absurd cc
placed_at word cell (x ∷ xs) zero item at =
    let same : x ≡ item = cc in
    let words : word ≡ word + 0 = omega arith in
    let cells : cell ≡ cell + 0 = omega arith in
    ap (λ (y : GlobalItem). placed y word cell) same ∙ ap₂ (placed item) words cells
placed_at word cell (x ∷ xs) (suc g) item at =
    placed_at (word + size_in_words x) (cell + size_in_cells x) xs g item at ∙ ap₂ (placed item) (behind size_in_words x xs g word) (behind size_in_cells x xs g cell)

pub globals_have_their_places : GlobalsHaveTheirPlaces
globals_have_their_places p g item at =
    let words : 0 + sum_by size_in_words (take g p.globals) ≡ sum_by size_in_words (take g p.globals) = omega arith in
    let cells : 0 + sum_by size_in_cells (take g p.globals) ≡ sum_by size_in_cells (take g p.globals) = omega arith in
    placed_at 0 0 p.globals g item at ∙ ap₂ (placed item) words cells
