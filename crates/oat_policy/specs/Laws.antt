-- The words of an edge and its path line (docs/FORMATS.md, "Policies").
use Rattle.std.specs.Prelude.{◌≡◌}
use Rattle.oat_report.specs.{spaced, words_of, Map, Edge, PathLine.edge_line, SameLines.IsEdgeOf, SameLines.IsOfMapType}
use Rattle.oat_policy.specs.EdgeWords.{edge_words}

-- the line is the words with one space between two
abbrev pub WordsMakeTheLine : Type 0
WordsMakeTheLine = (flow : Map) (edge : Edge) → spaced (edge_words flow edge) ≡ edge_line flow edge

-- the words are the line split at blanks
abbrev pub WordsSplitTheLine : Type 0
WordsSplitTheLine = (flow : Map) (edge : Edge) → IsOfMapType flow → IsEdgeOf flow edge → words_of (edge_line flow edge) ≡ edge_words flow edge
