-- The limits of a case, as docs/FORMATS.md has them under "Case text": what its numbers, lengths and writes may be.
use Rattle.std.specs.{Prelude.◌&&◌, Prelude.ℕ, Prelude.Bool, Prelude.true, Prelude.IsTrue, Prelude.IfSome, Prelude.List, Prelude.[], Prelude.◌∷◌, Prelude.length, Prelude.nat_le, Prelude.nat_lt}
use Rattle.std.specs.{List.AllByRecursion, Option.option_map_or}
use Rattle.oat_mem.specs.DataMemory.{fits}
use Rattle.oat_lines.specs.Reading.{between}
use Rattle.oat_case.specs.{declared.case.Write.Write, declared.case.Case.Case}

abbrev pub key_fits : List ℕ → Bool
key_fits key = between 1 1024 (length key)

abbrev pub operation_fits : ℕ → Bool
operation_fits id = between 1 65535 id

abbrev pub steps_fit : ℕ → Bool
steps_fit steps = between 1 4194304 steps

-- how many calls of the operation are measured
abbrev pub calls_fit : ℕ → Bool
calls_fit calls = between 1 1024 calls

abbrev pub write_fits : Write → Bool
write_fits write = nat_lt write.before 4194304 && between 1 4096 (length write.bytes)

-- within these limits, and with all its bytes in one region of the data memory
abbrev pub IsInLimits : Write → Type 0
IsInLimits write = IsTrue (write_fits write) × IsTrue (fits write.address (length write.bytes))

-- no write is before an earlier instruction than the write ahead of it; the first isn't before the least number
abbrev pub RisesFrom : ℕ → List Write → Type 0
RisesFrom least [] = Unit {0}
RisesFrom least (write ∷ writes) = IsTrue (nat_le least write.before) × RisesFrom write.before writes

-- both, as one test
abbrev pub writes_fit : ℕ → List Write → Bool
writes_fit least [] = true
writes_fit least (write ∷ writes) =
    write_fits write && fits write.address (length write.bytes) && nat_le least write.before && writes_fit write.before writes

-- what each case has that a text can stand for
pub record IsWellFormedCase (case : Case) : Type 0 where
  pub key : IsTrue (key_fits case.session.key)
  pub operation : IsTrue (operation_fits case.session.op)
  pub steps : IsTrue (steps_fit case.steps)
  pub calls : IfSome case.session.calls (λ calls. IsTrue (calls_fit calls))
  pub writes : AllByRecursion IsInLimits case.writes
  pub order : RisesFrom 0 case.writes

-- the same as one test
abbrev pub case_fits : Case → Bool
case_fits case =
    key_fits case.session.key && operation_fits case.session.op && option_map_or calls_fit case.session.calls true && steps_fit case.steps && writes_fit 0 case.writes
