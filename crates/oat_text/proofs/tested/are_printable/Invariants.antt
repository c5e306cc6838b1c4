use Rattle.std.proofs.Common.{◌≡◌, length}
use Rattle.std.specs.List.{list_all}
use Rattle.oat_lines.specs.Lines.{words_of}
use Rattle.oat_text.specs.Readings.{is_printable}
use Rattle.oat_text.proofs.tested.are_printable.Given as goal

abbrev pub invariant-words : goal.invariant-words
invariant-words l = list_all is_printable (words_of l.rest) ≡ list_all is_printable (words_of l.words)

abbrev pub decreases-words : goal.decreases-words
decreases-words l = length (words_of l.rest)
