use Rattle.std.proofs.Common.{◌≡◌, ◌+◌, drop}
use Rattle.oat_check.specs.Runs.{main_number}
use Rattle.oat_meaning.proofs.lines.main_number.Given as goal

-- no function so far is the main one
abbrev pub invariant-loop-number : goal.invariant-loop-number
invariant-loop-number l = main_number l.program.funcs ≡ l.number + main_number (drop l.number l.program.funcs)
