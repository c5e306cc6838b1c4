-- What stands behind the bytes with which a text begins.
use Rattle.std.specs.{Prelude.ℕ, Prelude.Bool, Prelude.false, Prelude.◌==◌, Prelude.List, Prelude.[], Prelude.◌∷◌, Prelude.length, Prelude.Option, Prelude.Some, Prelude.None, Prelude.codes}
use Rattle.std.specs.{Prelude.if◌then◌else◌, Option.option_and_then, Option.option_copied}
use Rattle.oat_policy.specs.declared.words.PathWord.{PathWord}

unfoldable pub rest_behind : List ℕ → List ℕ → Option (List ℕ)
rest_behind [] text = Some text
rest_behind (b ∷ front) [] = None
rest_behind (b ∷ front) (c ∷ text) = if c == b then rest_behind front text else None

-- what stands behind a sign and a further piece, where there is one
abbrev pub rest_behind_sign : List ℕ → Option (List ℕ) → List ℕ → Option (List ℕ)
rest_behind_sign sign None text = Some text
rest_behind_sign sign (Some piece) text = option_and_then (rest_behind piece) (rest_behind sign text)

-- what stands behind the pieces of a word
abbrev pub rest_behind_word : PathWord → List ℕ → Option (List ℕ)
rest_behind_word word text =
    option_and_then (rest_behind_sign (codes "#") (option_copied word.number))
    (option_and_then (rest_behind_sign (codes ".") (option_copied word.place.label)) (rest_behind word.place.name.now text))

-- nothing is left
abbrev pub is_whole : Option (List ℕ) → Bool
is_whole (Some rest) = length rest == 0
is_whole None = false
