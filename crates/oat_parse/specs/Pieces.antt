-- What stands first in a text.
use Rattle.std.specs.Prelude.{◌≡◌, ℕ, suc, List, [], ◌∷◌, ◌++◌}
use Rattle.oat_grammar.specs.Spots as spots
use Rattle.oat_grammar.specs.Spots.{Spot, spot, scan, apart}
use Rattle.oat_parse.specs.declared.words.Class.{Class}
use Rattle.oat_parse.specs.declared.words.Class.TheVariants.{OfWord, Feed, Separator, Solid}
use Rattle.oat_parse.specs.declared.words.Piece.{Piece}
use Rattle.oat_parse.specs.declared.words.Piece.TheVariants.{Blank, LineFeed, Word}

abbrev pub seen_class : Class → spots.Class
seen_class OfWord = spots.of_word
seen_class Feed = spots.feed
seen_class Separator = spots.separator
seen_class Solid = spots.solid

-- the words that it is, at a line
abbrev pub piece_spots : ℕ → Piece → List Spot
piece_spots line (Word token) = spot line token ∷ []
piece_spots line Blank = []
piece_spots line LineFeed = []

abbrev pub line_after : ℕ → Piece → ℕ
line_after line LineFeed = suc line
line_after line Blank = line
line_after line (Word token) = line

-- the words of the text are those of the piece, and then those of the rest
abbrev pub BeginsWith : List ℕ → Piece → List ℕ → Type 0
BeginsWith text piece rest = (line : ℕ) → scan apart line text ≡ piece_spots line piece ++ scan apart (line_after line piece) rest
