use Rattle.std.proofs.Common.{◌≡◌, length}
use Rattle.oat_report.specs.{words_of}
use Rattle.oat_policy.specs.Reading.{patterns_at}
use Rattle.oat_policy.proofs.Loop.{onto}
use Rattle.oat_policy.proofs.pattern.patterns_at.Given as goal

abbrev pub invariant-words : goal.invariant-words
invariant-words l = onto l.patterns.items (patterns_at l.line (words_of l.rest)) ≡ patterns_at l.line (words_of l.fn.words)

abbrev pub decreases-words : goal.decreases-words
decreases-words l = length (words_of l.rest)
