-- The lines that stand beside a verdict: a checked use, and where a run parts from the accepted path (docs/FORMATS.md, "Trace lines").
use Rattle.std.specs.{Prelude.ℕ, Prelude.List, Prelude.◌++◌, Prelude.codes, Fmt.decimal}
use Rattle.hex.specs.Hex.{encode_lower}
use Rattle.oat_report.specs.{PathLine.space, VerdictLine.value_text}

-- the cell that is used, what the use found, and what the cell was last defined as
abbrev pub use_text : ℕ → ℕ → ℕ → List ℕ
use_text cell found defined = codes "use " ++ decimal cell ++ space ++ value_text found ++ space ++ value_text defined

-- the returns are those of the accepted path
abbrev pub same_text : List ℕ
same_text = codes "same"

-- they aren't, and these two messages have one digest
abbrev pub apart_text : List ℕ → List ℕ → List ℕ
apart_text first second = codes "apart " ++ encode_lower first ++ space ++ encode_lower second
