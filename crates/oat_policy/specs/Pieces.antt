-- The words of an edge's path line in pieces, as a Watch compares them with patterns (docs/DEFINITIONS.md).
use Rattle.std.specs.{Prelude.List, Prelude.◌++◌, Prelude.map, Prelude.take, Prelude.min, Prelude.Option, Prelude.Some, Prelude.None, Prelude.codes, Option.option_copied}
use Rattle.oat_report.specs.{TextWord}
use Rattle.oat_policy.specs.{declared.words.PlaceWord.PlaceWord, declared.words.PathWord.PathWord, declared.words.EdgeWords.EdgeWords}

-- a further piece, where there is one, stands behind a sign
abbrev pub with_piece : TextWord → TextWord → Option TextWord → TextWord
with_piece front sign None = front
with_piece front sign (Some piece) = front ++ sign ++ piece

abbrev pub place_word : PlaceWord → TextWord
place_word place = with_piece place.name.now (codes ".") (option_copied place.label)

abbrev pub path_word : PathWord → TextWord
path_word word = with_piece (place_word word.place) (codes "#") (option_copied word.number)

abbrev pub path_words : EdgeWords → List TextWord
path_words edge = map path_word (take (min edge.count 4) edge.words)
