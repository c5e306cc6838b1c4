use Rattle.std.proofs.Common.{◌≡◌, ◌+◌, length}
use Rattle.oat_lines.specs.Lines.{words_of}
use Rattle.oat_text.specs.Outline.{add_parameters}
use Rattle.oat_text.proofs.outline.add_parameters.Given as goal

abbrev pub invariant-words : goal.invariant-words
invariant-words l =
    (add_parameters l.line l.locals (words_of l.rest) ≡ add_parameters l.line l.fn.locals (words_of l.words))
    × (length l.locals + length (words_of l.rest) ≡ length l.fn.locals + length (words_of l.words))

abbrev pub decreases-words : goal.decreases-words
decreases-words l = length (words_of l.rest)
