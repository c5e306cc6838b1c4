use Rattle.std.proofs.Common.{length}
use Rattle.oat_lines.specs.Lines.{words_of}
use Rattle.oat_text.specs.Scoped.{scoped}
use Rattle.oat_text.proofs.Arguments.{Reads}
use Rattle.oat_text.proofs.scope.Scope.args_in.Given as goal

abbrev pub invariant-words : goal.invariant-words
invariant-words l = Reads (scoped l.self) l.locals l.len (words_of l.rest) (words_of l.words)

abbrev pub decreases-words : goal.decreases-words
decreases-words l = length (words_of l.rest)
