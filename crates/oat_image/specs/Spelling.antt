-- How a section of an image text is spelled: a line with its keyword and the number of its items, then a
-- line for each item. docs/FORMATS.md shows whole texts.
use Rattle.std.specs.{Prelude.ℕ, Prelude.List, Prelude.[], Prelude.◌∷◌, Prelude.◌++◌, Prelude.length, Prelude.decimal, List.flat_map}
use Rattle.oat_lines.specs.Fields.{spaced, ended}

abbrev pub section_text : {X : Type 0} → List ℕ → (X → List ℕ) → List X → List ℕ
section_text keyword text items = ended (spaced (keyword ∷ decimal (length items) ∷ [])) ++ flat_map (λ item. ended (text item)) items
