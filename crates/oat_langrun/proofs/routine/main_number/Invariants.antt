use Rattle.std.proofs.Common.{◌≡◌, ◌+◌, drop}
use Rattle.oat_langrun.specs.Meaning.{main_at}
use Rattle.oat_langrun.proofs.routine.main_number.Given as goal

-- no function so far is the main one
abbrev pub invariant-loop-number : goal.invariant-loop-number
invariant-loop-number l = main_at l.routines ≡ l.number + main_at (drop l.number l.routines)
