use Rattle.oat_policy.proofs.{Spacing.words_make_the_line, SplitLines.words_split_the_line}
use Rattle.oat_policy.proofs.laws.words_of_lines.Goals as goal

pub returns-clause-made : goal.returns-clause-made
returns-clause-made c = words_make_the_line

pub returns-clause-split : goal.returns-clause-split
returns-clause-split c = words_split_the_line
