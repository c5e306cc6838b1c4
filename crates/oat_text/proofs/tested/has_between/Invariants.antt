use Rattle.std.proofs.Common.{◌≡◌, ◌+◌, ◌≤◌, length}
use Rattle.oat_lines.specs.Lines.{words_of}
use Rattle.oat_text.proofs.tested.has_between.Given as goal

abbrev pub invariant-words : goal.invariant-words
invariant-words l = (l.count + length (words_of l.rest) ≡ length (words_of l.words)) × (l.count ≤ l.most)

abbrev pub decreases-words : goal.decreases-words
decreases-words l = length (words_of l.rest)
