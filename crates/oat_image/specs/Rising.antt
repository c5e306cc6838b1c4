-- The order of the items of a section (docs/FORMATS.md).
use Rattle.std.specs.Prelude.{◌≡◌, ℕ, true, List, [], ◌∷◌, Option}
use Rattle.oat_image.specs.Reading.{rises}

-- each key is above the one before, the first above last
abbrev pub Rising : {X : Type 0} → (X → Option ℕ) → Option ℕ → List X → Type 0
Rising key last [] = Unit {0}
Rising key last (x ∷ xs) = (rises last (key x) ≡ true) × Rising key (key x) xs
