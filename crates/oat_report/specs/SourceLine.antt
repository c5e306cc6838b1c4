-- The lines of a path of a program: the text of each edge's name (docs/FORMATS.md, "Path lines").
use Rattle.std.specs.Prelude.{ℕ, List}
use Rattle.oat_check.specs.{Program, SourceEdge, Naming.source_edge_name}
use Rattle.oat_report.specs.PathLine.{name_text}

-- the line of an edge, without its line end
abbrev pub source_edge_line : Program → SourceEdge → List ℕ
source_edge_line p edge = name_text (source_edge_name p edge)
