use Rattle.std.proofs.Common.{◌≡◌, List, length, drop}
use Rattle.oat_report.specs.{Edge, Map}
use Rattle.oat_policy.specs.{Standing.standings, Verdict.verdict_of}
use Rattle.oat_policy.proofs.rules.first_broken.Given as goal

abbrev pub invariant-loop-i : goal.invariant-loop-i
invariant-loop-i l = (flow : Map) (path : List Edge) → l.edges ≡ length path → l.states ≡ standings flow path l.rules → verdict_of flow (drop l.i l.rules) path ≡ verdict_of flow l.rules path
