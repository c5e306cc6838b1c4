-- The words of an edge's path line, and the patterns that they match (docs/FORMATS.md, "Policies").
use Rattle.std.specs.{Prelude.Bool, Prelude.true, Prelude.false, Prelude.◌&&◌, Prelude.◌||◌, Prelude.List, Prelude.[], Prelude.◌∷◌, Prelude.codes, Fmt.decimal, Str.bytes_eq}
use Rattle.oat_report.specs.{TextWord, Map, Edge, EdgeName, jump, branch, call, icall, return, finish, stray, name_of, PathLine.place_text, PathLine.site_text, PathLine.bit_text}
use Rattle.oat_report.specs.{PathLine.address_digits}

abbrev pub name_words : EdgeName → List TextWord
name_words (jump site place) = codes "jump" ∷ site_text site ∷ place_text place ∷ []
name_words (branch site bit place) = codes "branch" ∷ site_text site ∷ bit_text bit ∷ place_text place ∷ []
name_words (call site place) = codes "call" ∷ site_text site ∷ place_text place ∷ []
name_words (icall site place) = codes "icall" ∷ site_text site ∷ place_text place ∷ []
name_words (return site called_from) = codes "ret" ∷ site_text site ∷ site_text called_from ∷ []
name_words (finish op) = codes "end" ∷ decimal op ∷ []
name_words (stray from to) = codes "stray" ∷ address_digits from ∷ address_digits to ∷ []

-- the words of the edge's line
abbrev pub edge_words : Map → Edge → List TextWord
edge_words flow edge = name_words (name_of flow edge)

-- a star meets each word, another word just itself
abbrev pub meets : TextWord → TextWord → Bool
meets wanted word = bytes_eq wanted (codes "*") || bytes_eq wanted word

-- there are as many words, and each is met
unfoldable pub meets_each : List TextWord → List TextWord → Bool
meets_each [] [] = true
meets_each (wanted ∷ pattern) (word ∷ words) = meets wanted word && meets_each pattern words
meets_each _ _ = false

-- the edge matches the pattern
abbrev pub matches : Map → List TextWord → Edge → Bool
matches flow pattern edge = meets_each pattern (edge_words flow edge)
