use Rattle.std.proofs.Common.{◌≡◌, List, drop}
use Rattle.oat_report.specs.{Map, Edge}
use Rattle.oat_policy.specs.{EdgeWords.edge_words, Standing.standings, Standing.all_patterns, Standing.met_of, Standing.ComesNext}
use Rattle.oat_policy.proofs.Standings.{Followed}
use Rattle.oat_policy.proofs.rules.follow.Given as goal

abbrev pub invariant-loop-i : goal.invariant-loop-i
invariant-loop-i l = (flow : Map) (path : List Edge) (edge : Edge) → ComesNext flow path edge l.place (all_patterns l.rules) l.met
    → l.initial.states ≡ standings flow path l.rules
    → Followed flow path edge l.rules l.states l.i × (l.rest ≡ met_of (edge_words flow edge) (all_patterns (drop l.i l.rules)))
