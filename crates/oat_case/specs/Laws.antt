-- What a run needs of the case that it is given (docs/FORMATS.md, "Case text").
use Rattle.std.specs.{Prelude.IsTrue, Prelude.length, Prelude.map, List.All, List.Sorted.IsNonDecreasing}
use Rattle.oat_mem.specs.DataMemory.{fits}
use Rattle.oat_case.specs.{declared.case.Case.Case, Limits.IsWellFormedCase}

-- the writes of a well-formed case can be made: their bytes lie in data memory, and their places never fall
abbrev pub WritesCanBeMade : Type 0
WritesCanBeMade = (case : Case) → IsWellFormedCase case
    → All (λ write. IsTrue (fits write.address (length write.bytes))) case.writes
    × IsNonDecreasing (map (λ write. write.before) case.writes)
