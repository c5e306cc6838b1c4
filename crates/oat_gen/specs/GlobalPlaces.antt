-- Where the globals of a program lie: their words and cells are numbered in the order of declaration (docs/FORMATS.md, "Program text").
use Rattle.std.specs.{Prelude.◌≡◌, Prelude.◌+◌, Prelude.ℕ, Prelude.if◌then◌else◌, Prelude.List, Prelude.[], Prelude.◌∷◌, Prelude.take, Prelude.slice_get, Prelude.get_or, Prelude.Some, List.sum_by}
use Rattle.oat_globals.specs.{Program, GlobalItem, Scalar, FnScalar, Array, CriticalArray, size_in_words, size_in_cells}
use Rattle.oat_gen.specs.{declared.globals.GlobalPlace.GlobalPlace, declared.globals.GlobalPlace.TheVariants.Ordinary, declared.globals.GlobalPlace.TheVariants.Critical}

-- a global whose first word has this number, and whose first cell, if it is critical, has that one
abbrev pub placed : GlobalItem → (word cell : ℕ) → GlobalPlace
placed (Scalar name start critical) word cell = if critical then Critical word cell 1 else Ordinary word 1
placed (FnScalar name params) word cell = Ordinary word 1
placed (Array name len) word cell = Ordinary word len
placed (CriticalArray name len) word cell = Critical word cell len

-- those of some globals, whose words and cells have numbers from these on
abbrev pub places_from : (word cell : ℕ) → List GlobalItem → List GlobalPlace
places_from word cell [] = []
places_from word cell (item ∷ items) = placed item word cell ∷ places_from (word + size_in_words item) (cell + size_in_cells item) items

abbrev pub global_places : Program → List GlobalPlace
global_places p = places_from 0 0 p.globals

-- where global g lies; a program names no others
abbrev pub place_in : List GlobalPlace → ℕ → GlobalPlace
place_in places g = get_or places g (Ordinary 0 0)

-- each global lies behind the words and cells of those before it
abbrev pub GlobalsHaveTheirPlaces : Type 0
GlobalsHaveTheirPlaces =
    (p : Program) (g : ℕ) (item : GlobalItem) → slice_get p.globals g ≡ Some item
    → place_in (global_places p) g ≡ placed item (sum_by size_in_words (take g p.globals)) (sum_by size_in_cells (take g p.globals))
