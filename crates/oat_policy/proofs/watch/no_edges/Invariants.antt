use Rattle.std.proofs.Common.{◌≡◌, length, None}
use Rattle.std.specs.List.{All}
use Rattle.oat_policy.proofs.watch.no_edges.Given as goal

abbrev pub invariant-loop-k : goal.invariant-loop-k
invariant-loop-k l = (length l.recent.items ≡ l.k) × All (λ kept. (kept.edge ≡ None) × (length kept.met.items ≡ l.patterns)) l.recent.items
