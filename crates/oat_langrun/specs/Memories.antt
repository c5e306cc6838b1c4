-- The words in which the globals of a text are kept.
use Rattle.std.specs.Prelude.{◌≡◌, ℕ, List, [], length, map, get_or, replicate}
use Rattle.oat_ir.specs.declared.program.GlobalItem.{GlobalItem}
use Rattle.oat_check.specs.Globals.{Values, size_in_words, start_of}

abbrev pub first_words : GlobalItem → List ℕ
first_words item = replicate (size_in_words item) (start_of item)

-- what they hold; elements that no global has stay as they were at first
abbrev pub values_of : Values → List (List ℕ) → Values
values_of first words = λ g i. get_or (get_or words g []) i (first g i)

-- each global has its words
abbrev pub AreWordsOf : List GlobalItem → List (List ℕ) → Type 0
AreWordsOf globals words = map length words ≡ map size_in_words globals
