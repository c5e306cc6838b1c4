-- The lines and words of a text of bytes, as docs/FORMATS.md says: a line ends with LF or CR LF, words stand between spaces and tabs.
use Rattle.std.specs.{Prelude.ℕ, Prelude.List, Prelude.[], Prelude.◌∷◌, Prelude.Bool, Prelude.true, Prelude.false, Prelude.not, Prelude.◌==◌, Prelude.◌||◌, Prelude.map, Prelude.filter, Prelude.Option}
use Rattle.std.specs.{Prelude.Some, Prelude.None, Prelude.slice_index, List.slice_split, Str.Lines.lines}

-- the lines without their ends; a CR that no LF follows belongs to its line
unfoldable pub lines_of : List ℕ → List (List ℕ)
lines_of text = lines text

-- a word of a line, by its bytes
abbrev pub TextWord : Type 0
TextWord = List ℕ

abbrev pub is_line_feed : ℕ → Bool
is_line_feed b = b == 10

-- space and tab
abbrev pub is_blank : ℕ → Bool
is_blank b = b == 32 || b == 9

-- a byte of a word
abbrev pub is_solid : ℕ → Bool
is_solid b = not (is_blank b)

abbrev pub has_bytes : List ℕ → Bool
has_bytes [] = false
has_bytes (b ∷ bs) = true

-- the parts of a line between blanks, without the empty ones
unfoldable pub words_of : List ℕ → List (List ℕ)
words_of line = filter has_bytes (slice_split is_blank line)

-- a semicolon first
abbrev pub is_comment : List ℕ → Bool
is_comment word = slice_index word 0 == 59

-- a line without words, or whose first word begins with a semicolon
abbrev pub is_skipped : List (List ℕ) → Bool
is_skipped [] = true
is_skipped (word ∷ words) = is_comment word

-- the word, where there is just one
abbrev pub sole : List (List ℕ) → Option (List ℕ)
sole (word ∷ []) = Some word
sole words = None

-- the words, where there are just three
abbrev pub triple : List (List ℕ) → Option (List ℕ × List ℕ × List ℕ)
triple (first ∷ second ∷ third ∷ []) = Some (first, second, third)
triple words = None

-- the words of each of these lines, without the lines that are skipped
abbrev pub counting : List (List ℕ) → List (List (List ℕ))
counting lines = filter (λ words. not (is_skipped words)) (map words_of lines)
