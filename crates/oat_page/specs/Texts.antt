-- What a call that does no work puts: usage, a refused input, a load that failed, want of memory.
use Rattle.std.specs.{Prelude.ℕ, Prelude.List, Prelude.◌++◌, Prelude.codes, Fmt.decimal}
use Rattle.oat_page.specs.Outcome.{Outcome, line, says}

-- the line of a refused input, by the file's name and the reason
abbrev pub refusal : List ℕ → List ℕ → List ℕ
refusal file reason = line (codes "refused " ++ file ++ codes " " ++ reason)

abbrev pub too_long : List ℕ → ℕ → Outcome
too_long file limit = says 2 (refusal file (codes "TooLong " ++ decimal limit))

abbrev pub read_fault : List ℕ → Outcome
read_fault file = says 4 (line (codes "read fault " ++ file))

abbrev pub starved : Outcome
starved = says 6 (line (codes "want of memory"))
