-- Things that stand one behind the other, each of so many words: what they give, each at its place.
use Rattle.std.specs.Prelude.{ℕ, zero, suc, ◌+◌, List, [], ◌∷◌, ◌++◌}

-- how many words all have
abbrev pub words_in : {X : Type 0} → (X → ℕ) → List X → ℕ
words_in size [] = 0
words_in size (x ∷ xs) = size x + words_in size xs

-- how many words stand before thing k
abbrev pub words_before : {X : Type 0} → (X → ℕ) → List X → ℕ → ℕ
words_before size xs zero = 0
words_before size [] (suc k) = 0
words_before size (x ∷ xs) (suc k) = size x + words_before size xs k

-- what all give, the first of them at the place here
abbrev pub gives_from : {X A : Type 0} → (X → ℕ) → (ℕ → X → List A) → ℕ → List X → List A
gives_from size gives here [] = []
gives_from size gives here (x ∷ xs) = gives here x ++ gives_from size gives (here + size x) xs
