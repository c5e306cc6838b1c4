-- Parts of a printed line of a program text (docs/FORMATS.md, "Program text"). These are words of this project's own.
use Rattle.std.specs.{Prelude.ℕ, Prelude.List, Prelude.[], Prelude.◌∷◌, Prelude.codes, Prelude.decimal, List.flat_map}
use Rattle.oat_lines.specs.{Fields.spaced, Lines.TextWord}
use Rattle.oat_ir.specs.{declared.func.Role.Role, declared.func.Role.TheVariants.Plain, declared.func.Role.TheVariants.Operation, declared.func.Role.TheVariants.Main}
use Rattle.oat_text.specs.Words.{Said, printed_word}

-- words that stand behind others, each with the space before it; an item is one word
abbrev pub words_behind : {X : Type 0} → (X → Said) → List X → List ℕ
words_behind said items = flat_map (λ item. 32 ∷ printed_word (said item)) items

-- the head of a function up to its parameters
abbrev pub head_text : Role → TextWord → List ℕ
head_text Plain name = spaced (codes "func" ∷ name ∷ [])
head_text (Operation id) name = spaced (codes "operation" ∷ decimal id ∷ name ∷ [])
head_text Main name = codes "main"
