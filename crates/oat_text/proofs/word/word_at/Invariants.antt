use Rattle.std.proofs.Common.{◌≡◌}
use Rattle.std.specs.Prelude.{slice_get}
use Rattle.oat_lines.specs.Lines.{words_of}
use Rattle.oat_text.proofs.word.word_at.Given as goal

abbrev pub invariant-words : goal.invariant-words
invariant-words l = slice_get (words_of l.rest) l.left ≡ slice_get (words_of l.line) l.place

abbrev pub decreases-words : goal.decreases-words
decreases-words l = l.left
