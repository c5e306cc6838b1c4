-- The lines of a worked path: an operation that calls a helper twice, then another function by its reference, and branches (docs/FORMATS.md).
use Rattle.std.specs.Prelude.{◌≡◌, [], ◌∷◌, map, codes}
use Rattle.oat_verify.specs.{calls_map, calls_path}
use Rattle.oat_report.specs.PathLine.{edge_line}

abbrev pub WorkedLines : Type 0
WorkedLines = map (edge_line calls_map) calls_path ≡
    codes "call work#0 helper" ∷
    codes "ret helper#0 work#0" ∷
    codes "call work#1 helper" ∷
    codes "ret helper#0 work#1" ∷
    codes "icall work#2 up" ∷
    codes "ret up#0 work#2" ∷
    codes "branch work#3 1 work.yes" ∷
    codes "jump work.yes#0 work.done" ∷
    codes "end 2" ∷ []
